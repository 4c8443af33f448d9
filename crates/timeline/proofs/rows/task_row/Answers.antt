use Rattle.std.proofs.lemmas.Result.{IfOk-weaker}
use Rattle.timeline.specs.Rows.{task_cell}
use Rattle.timeline.proofs.Laws.{row_law, shows_ends}
use Rattle.timeline.proofs.rows.task_row.Goals as goal

pub returns-clause-law : goal.returns-clause-law
returns-clause-law c = IfOk-weaker c.row.result _ _ (λ row is. row_law (task_cell c.args.task) c.args.log.now row.items is) c.row.ensures

pub returns-clause-ends : goal.returns-clause-ends
returns-clause-ends c = IfOk-weaker c.row.result _ _ (λ row is. shows_ends c.args.task c.args.log.now row.items (row_law (task_cell c.args.task) c.args.log.now row.items is)) c.row.ensures
