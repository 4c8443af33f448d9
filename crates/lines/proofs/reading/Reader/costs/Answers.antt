use Rattle.std.proofs.Common.{◌≡◌, [], ◌∷◌, ◌++◌, length, sym, ap, ◌∙◌, arith}
use Rattle.lines.specs.Rows.{costs_of, with_cost, costs_said}
use Rattle.lines.proofs.Begun.{Begun, ◌▸◌, none_at}
use Rattle.lines.proofs.Values.{some_left, behind_short, pushed_is}
use Rattle.lines.proofs.reading.Reader.costs.Goals as goal

pub returns-in_err-cost : goal.returns-in_err-cost
returns-in_err-cost c =
    let rest = c.loop-self.self.rest.now in
    let begun : Begun c.args.self.now.rest.now c.loop-self.invariant.0 rest = record { joined = c.loop-self.invariant.2 } in
    c.from_residual.ensures ∙ sym (ap costs_said (none_at begun (some_left rest c.loop-self-test.ensures) c.in_err-cost.ensures.none))

pub loop-self-smaller : goal.loop-self-smaller
loop-self-smaller c =
    let shorter = behind_short c.loop-self.self.rest.now (some_left c.loop-self.self.rest.now c.loop-self-test.ensures) in
    omega (arith, shorter, ap length c.in_ok-cost.ensures.number.after)

pub loop-self-preserved : goal.loop-self-preserved
loop-self-preserved c =
    let ns = c.loop-self.invariant.0 in
    let n = c.in_ok-cost.cost in
    let grown : c.push.new.self ≡ costs_of (ns ++ n ∷ []) = c.push.ensures ∙ ap (λ k. with_cost k n) c.loop-self.invariant.1 ∙ pushed_is ns n in
    let begun : Begun c.args.self.now.rest.now ns c.loop-self.self.rest.now = record { joined = c.loop-self.invariant.2 } in
    (ns ++ n ∷ [], grown, (begun ▸ c.in_ok-cost.ensures.number).joined)
