use Rattle.std.proofs.Common.{ap, ◌∙◌}
use Rattle.paced.specs.Tables.{allowances_in}
use Rattle.plan.proofs.Sides.{rows_in}
use Rattle.run.proofs.Tables.{most_is}
use Rattle.run.proofs.Run.most_of.Goals as goal

pub returns : goal.returns
returns g c =
    let s = c.self.inside in
    let rows = rows_in s.table s.terms.limits s.room c.args.self.now.tasks (ap (λ r. r.tasks) c.self.view_is) in
    c.unwrap_or.ensures ∙ most_is s.table.list c.args.task c.allowance.result c.allowance.ensures ∙ ap (λ rows. allowances_in rows c.args.task 1) rows
