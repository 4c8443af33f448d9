use Rattle.std.proofs.Common.{sym, refl, ◌∙◌}
use Rattle.lines.specs.declared.row.Kind.TheVariants.{Irq}
use Rattle.lines.specs.declared.row.Row.TheVariants as rows
use Rattle.lines.proofs.Begun.{begin, ◌▸◌, missing, no_costs, with_costs, row_by}
use Rattle.lines.proofs.reading.Reader.irq_row.Goals as goal

pub returns-in_err-period : goal.returns-in_err-period
returns-in_err-period c = c.from_residual.ensures ∙ sym (missing (row_by Irq) refl (begin c.args.self.now.rest.now) refl c.in_err-period.ensures.none)

pub returns-in_err-jitter : goal.returns-in_err-jitter
returns-in_err-jitter c = c.from_residual-in_err-jitter.ensures ∙ sym (missing (row_by Irq) refl (begin c.args.self.now.rest.now ▸ c.in_ok-period.ensures.number) refl c.in_err-jitter.ensures.none)

pub returns-in_err-costs : goal.returns-in_err-costs
returns-in_err-costs c = c.from_residual-in_err-costs.ensures ∙ sym (no_costs Irq (begin c.args.self.now.rest.now ▸ c.in_ok-period.ensures.number ▸ c.in_ok-jitter.ensures.number) refl c.in_err-costs.ensures)

pub returns : goal.returns
returns c = with_costs Irq (rows.Irq c.in_ok-period.period c.in_ok-jitter.jitter) (begin c.args.self.now.rest.now ▸ c.in_ok-period.ensures.number ▸ c.in_ok-jitter.ensures.number) (λ n ns. refl) c.in_ok-costs.costs c.in_ok-costs.ensures
