use Rattle.std.proofs.Common.{ℕ, sym, refl, ◌∙◌}
use Rattle.std.specs.Bool.{then_some}
use Rattle.lines.proofs.Begun.{begin, ◌▸◌, missing}
use Rattle.transcript.specs.Calls.{two}
use Rattle.transcript.proofs.Ending.{given_at_end}
use Rattle.transcript.proofs.reading.two_numbers.Goals as goal

pub returns-in_err-first : goal.returns-in_err-first
returns-in_err-first c = c.from_residual.ensures ∙ sym (missing two refl (begin c.args.rest.now) refl c.in_err-first.ensures.none)

pub returns-in_err-second : goal.returns-in_err-second
returns-in_err-second c = c.from_residual-in_err-second.ensures ∙ sym (missing two refl (begin c.args.rest.now ▸ c.in_ok-first.ensures.number) refl c.in_err-second.ensures.none)

pub returns : goal.returns
returns c =
    let both : ℕ × ℕ = (c.in_ok-first.first, c.in_ok-second.second) in
    c.then_some.ensures
    ∙ (λ i. then_some (c.is_empty.ensures i) (c.in_ok-first.first, c.from.ensures i))
    ∙ given_at_end two refl both (begin c.args.rest.now ▸ c.in_ok-first.ensures.number ▸ c.in_ok-second.ensures.number) refl (λ k ns. refl)
