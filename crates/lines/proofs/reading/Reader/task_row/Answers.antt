use Rattle.std.proofs.Common.{sym, refl, ◌∙◌}
use Rattle.lines.specs.declared.row.Kind.TheVariants.{Task}
use Rattle.lines.specs.declared.row.Row.TheVariants as rows
use Rattle.lines.proofs.Begun.{begin, ◌▸◌, missing, no_costs, with_costs, row_by}
use Rattle.lines.proofs.reading.Reader.task_row.Goals as goal

pub returns-in_err-period : goal.returns-in_err-period
returns-in_err-period c = c.from_residual.ensures ∙ sym (missing (row_by Task) refl (begin c.args.self.now.rest.now) refl c.in_err-period.ensures.none)

pub returns-in_err-jitter : goal.returns-in_err-jitter
returns-in_err-jitter c = c.from_residual-in_err-jitter.ensures ∙ sym (missing (row_by Task) refl (begin c.args.self.now.rest.now ▸ c.in_ok-period.ensures.number) refl c.in_err-jitter.ensures.none)

pub returns-in_err-blocking : goal.returns-in_err-blocking
returns-in_err-blocking c = c.from_residual-in_err-blocking.ensures ∙ sym (missing (row_by Task) refl (begin c.args.self.now.rest.now ▸ c.in_ok-period.ensures.number ▸ c.in_ok-jitter.ensures.number) refl c.in_err-blocking.ensures.none)

pub returns-in_err-deadline : goal.returns-in_err-deadline
returns-in_err-deadline c = c.from_residual-in_err-deadline.ensures ∙ sym (missing (row_by Task) refl (begin c.args.self.now.rest.now ▸ c.in_ok-period.ensures.number ▸ c.in_ok-jitter.ensures.number ▸ c.in_ok-blocking.ensures.number) refl c.in_err-deadline.ensures.none)

pub returns-in_err-hold : goal.returns-in_err-hold
returns-in_err-hold c = c.from_residual-in_err-hold.ensures ∙ sym (missing (row_by Task) refl (begin c.args.self.now.rest.now ▸ c.in_ok-period.ensures.number ▸ c.in_ok-jitter.ensures.number ▸ c.in_ok-blocking.ensures.number ▸ c.in_ok-deadline.ensures.number) refl c.in_err-hold.ensures.none)

pub returns-in_err-costs : goal.returns-in_err-costs
returns-in_err-costs c = c.from_residual-in_err-costs.ensures ∙ sym (no_costs Task (begin c.args.self.now.rest.now ▸ c.in_ok-period.ensures.number ▸ c.in_ok-jitter.ensures.number ▸ c.in_ok-blocking.ensures.number ▸ c.in_ok-deadline.ensures.number ▸ c.in_ok-hold.ensures.number) refl c.in_err-costs.ensures)

pub returns : goal.returns
returns c = with_costs Task (rows.Task c.in_ok-period.period c.in_ok-jitter.jitter c.in_ok-blocking.blocking c.in_ok-deadline.deadline c.in_ok-hold.hold) (begin c.args.self.now.rest.now ▸ c.in_ok-period.ensures.number ▸ c.in_ok-jitter.ensures.number ▸ c.in_ok-blocking.ensures.number ▸ c.in_ok-deadline.ensures.number ▸ c.in_ok-hold.ensures.number) (λ n ns. refl) c.in_ok-costs.costs c.in_ok-costs.ensures
