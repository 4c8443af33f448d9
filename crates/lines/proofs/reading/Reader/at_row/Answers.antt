use Rattle.std.proofs.Common.{sym, refl, ◌∙◌}
use Rattle.lines.specs.declared.row.Kind.TheVariants.{At}
use Rattle.lines.specs.declared.row.Row.TheVariants as rows
use Rattle.lines.proofs.Begun.{begin, ◌▸◌, missing, ended, row_by}
use Rattle.lines.proofs.reading.Reader.at_row.Goals as goal

pub returns-in_err-offset : goal.returns-in_err-offset
returns-in_err-offset c = c.from_residual.ensures ∙ sym (missing (row_by At) refl (begin c.args.self.now.rest.now) refl c.in_err-offset.ensures.none)

pub returns-in_err-length : goal.returns-in_err-length
returns-in_err-length c = c.from_residual-in_err-length.ensures ∙ sym (missing (row_by At) refl (begin c.args.self.now.rest.now ▸ c.in_ok-offset.ensures.number) refl c.in_err-length.ensures.none)

pub returns : goal.returns
returns c = c.ended.ensures ∙ ended (row_by At) refl (rows.At c.in_ok-offset.offset c.in_ok-length.length) (begin c.args.self.now.rest.now ▸ c.in_ok-offset.ensures.number ▸ c.in_ok-length.ensures.number) refl (λ n ns. refl)
