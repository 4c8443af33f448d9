use Rattle.std.proofs.Common.{◌≡◌, ◌+◌, get_or, sym, subst, arith}
use Rattle.plan.specs.Judged.{Judged, Unbounded}
use Rattle.plan.specs.declared.verdict.Verdict.TheVariants.{Late}
use Rattle.plan.proofs.stages.OpenPlan.late.Goals as goal

pub returns-clause-judged : goal.returns-clause-judged
returns-clause-judged g c =
    let b = c.args.self.now.bank in
    let t = c.args.self.now.tasks in
    let found : Judged (g.S.Source.work b) t (Late (c.args.place + 1)) c.args.bounds = (
      c.requires.few,
      omega arith,
      omega arith,
      (λ i h. (get_or c.args.bounds i 0, c.requires.above i (omega arith))),
      λ i e. let same : c.args.place ≡ i = omega arith in subst (Unbounded (g.S.Source.work b) t) same c.requires.late,
    ) in
    subst (λ v. Judged (g.S.Source.work b) t v c.args.bounds) (sym c.late.ensures) found
