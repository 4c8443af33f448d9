use Rattle.std.proofs.Common.{Some, sym, refl, ap, ◌∙◌}
use Rattle.std.specs.Bool.{then_some}
use Rattle.lines.specs.Numbers.{numbers_after}
use Rattle.lines.proofs.Begun.{begin}
use Rattle.calls.specs.declared.Call.TheVariants.{Tick}
use Rattle.transcript.specs.Calls.{with_none, call_with}
use Rattle.transcript.proofs.Ending.{given_at_end}
use Rattle.transcript.proofs.reading.call_with.Goals as goal

pub returns-in-Tick : goal.returns-in-Tick
returns-in-Tick c =
    let rest = c.args.rest.now in
    c.then_some.ensures
    ∙ ap (λ b. then_some b Tick) c.is_empty.ensures
    ∙ given_at_end (with_none Tick) refl Tick (begin rest) refl (λ n ns. refl)
    ∙ sym (ap (λ v. call_with (Some v) (numbers_after rest)) c.in-Tick.is)
