use Rattle.std.proofs.Common.{ℕ, ◌+◌, ◌-◌, ◌<◌, ◌≤◌}
use Rattle.plan.specs.Needs.{needed}
use Rattle.plan.proofs.stages.OpenPlan.window_of.Given as goal

abbrev pub invariant-loop-ticks : goal.invariant-loop-ticks
invariant-loop-ticks g l =
    (1 ≤ l.ticks)
    × ((m : ℕ) → 1 ≤ m → m < l.ticks → m < needed (g.S.Source.work l.self.bank) l.self.tasks l.place m)

abbrev pub decreases-loop-ticks : goal.decreases-loop-ticks
decreases-loop-ticks g l = l.deadline + 1 - l.ticks
