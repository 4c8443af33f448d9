use Rattle.std.proofs.Common.{ap, ◌∙◌, arith}
use Rattle.plan.proofs.Sides.{count_in}
use Rattle.run.proofs.Run.task_count.Goals as goal

pub returns : goal.returns
returns g c =
    let s = c.self.inside in
    record {
      count = c.count.ensures ∙ count_in s.table s.terms.limits s.room c.args.self.now.tasks (ap (λ r. r.tasks) c.self.view_is);
      few = omega (arith, c.count.ensures, s.table.few);
    }
