use Rattle.std.proofs.Common.{sym, refl, ◌∙◌}
use Rattle.lines.specs.declared.row.Kind.TheVariants.{Cycle}
use Rattle.lines.specs.declared.row.Row.TheVariants as rows
use Rattle.lines.proofs.Begun.{begin, ◌▸◌, missing, ended, row_by}
use Rattle.lines.proofs.reading.Reader.cycle_row.Goals as goal

pub returns-in_err-length : goal.returns-in_err-length
returns-in_err-length c = c.from_residual.ensures ∙ sym (missing (row_by Cycle) refl (begin c.args.self.now.rest.now) refl c.in_err-length.ensures.none)

pub returns : goal.returns
returns c = c.ended.ensures ∙ ended (row_by Cycle) refl (rows.Cycle c.in_ok-length.length) (begin c.args.self.now.rest.now ▸ c.in_ok-length.ensures.number) refl (λ n ns. refl)
