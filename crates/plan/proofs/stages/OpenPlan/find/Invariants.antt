use Rattle.std.proofs.Common.{◌≡◌, ℕ, ◌<◌, ◌≤◌, length, get_or}
use Rattle.plan.specs.Judged.{Bounded}
use Rattle.plan.proofs.stages.OpenPlan.find.Given as goal

abbrev pub invariant-loop-place : goal.invariant-loop-place
invariant-loop-place g l =
    (length l.bounds ≡ 16)
    × ((i : ℕ) → i < l.place → Bounded (g.S.Source.work l.self.bank) l.self.tasks i (get_or l.bounds i 0))
    × ((i : ℕ) → l.place ≤ i → get_or l.bounds i 0 ≡ 0)
