use Rattle.std.proofs.Common.{sym, refl, ap, ◌∙◌}
use Rattle.std.specs.Bool.{then_some}
use Rattle.lines.proofs.Begun.{begin, ◌▸◌, missing}
use Rattle.transcript.specs.Calls.{one}
use Rattle.transcript.proofs.Ending.{given_at_end}
use Rattle.transcript.proofs.reading.one_number.Goals as goal

pub returns-in_err-number : goal.returns-in_err-number
returns-in_err-number c = c.from_residual.ensures ∙ sym (missing one refl (begin c.args.rest.now) refl c.in_err-number.ensures.none)

pub returns : goal.returns
returns c =
    let n = c.in_ok-number.number in
    c.then_some.ensures
    ∙ ap (λ b. then_some b n) c.is_empty.ensures
    ∙ given_at_end one refl n (begin c.args.rest.now ▸ c.in_ok-number.ensures.number) refl (λ m ns. refl)
