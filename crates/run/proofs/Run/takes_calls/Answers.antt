use Rattle.std.proofs.Common.{ap, subst}
use Rattle.std.specs.List.{All}
use Rattle.paced.specs.Pace.{Fit}
use Rattle.plan.proofs.Sides.{rows_in}
use Rattle.run.proofs.Run.takes_calls.Goals as goal

pub returns-clause-paced : goal.returns-clause-paced
returns-clause-paced g c =
    let s = c.self.inside in
    subst (All Fit) (rows_in s.table s.terms.limits s.room c.args.self.now.tasks (ap (λ r. r.tasks) c.self.view_is)) s.table.fit
