use Rattle.std.proofs.Common.{◌≡◌, ◌≤◌, length, sym, refl, ap, ◌∙◌, arith}
use Rattle.cycles.specs.Round.{met}
use Rattle.cycles.proofs.Rounds.{met_first}
use Rattle.paced.specs.Runs.{at}
use Rattle.paced.proofs.Runs.{turn, turn_at, front_sum, window_small}
use Rattle.paced.proofs.row.largest_part.Goals as goal

pub loop-place-init : goal.loop-place-init
loop-place-init c =
    let xs = c.args.costs.now in
    let m = c.args.m in
    let n = length xs in
    let short : m ≤ n = omega arith in
    let first : turn n 0 ≡ 0 = turn_at n 0 (omega arith) in
    (c.whole-window.ensures ∙ front_sum xs m short ∙ sym (met_first n (at xs) m short) ∙ ap (λ k. met n (at xs) k m) (sym first), refl)

pub overflow_add-window : goal.overflow_add-window
overflow_add-window c = omega (arith, window_small c.args.costs.now c.args.m c.loop-place.place c.loop-place.window c.loop-place.best c.loop-place-test.true c.requires.short c.loop-place.invariant.0 c.requires.small, c.requires.small c.wrapped-end.result)
