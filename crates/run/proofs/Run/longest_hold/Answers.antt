use Rattle.std.proofs.Common.{◌-◌, ap, sym, ◌∙◌, arith}
use Rattle.std.proofs.lemmas.Bool.{cond-true, le-leb}
use Rattle.plan.proofs.Sides.{limit_in}
use Rattle.run.proofs.Run.longest_hold.Goals as goal

pub returns : goal.returns
returns g c =
    let s = c.self.inside in
    c.from.ensures
    ∙ ap (λ l. l.hold) (limit_in s.table s.terms.limits s.room c.args.self.now.tasks (ap (λ r. r.tasks) c.self.view_is) (c.args.task - 1) (omega (arith, c.requires.first, c.requires.last)))
    ∙ sym (cond-true _ _ 0 (le-leb 1 c.args.task c.requires.first))
