use Rattle.std.proofs.lemmas.Result.{IfOk-weaker}
use Rattle.timeline.specs.Rows.{part_cell}
use Rattle.timeline.proofs.Laws.{row_law}
use Rattle.timeline.proofs.rows.part_row.Goals as goal

pub returns-clause-law : goal.returns-clause-law
returns-clause-law c = IfOk-weaker c.row.result _ _ (λ row is. row_law (part_cell c.args.part) c.args.log.now row.items is) c.row.ensures
