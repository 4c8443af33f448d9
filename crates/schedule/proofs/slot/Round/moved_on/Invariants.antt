use Rattle.std.proofs.Common.{◌≡◌, ◌-◌, ◌≤◌}
use Rattle.cycles.specs.Round.{sum}
use Rattle.schedule.specs.Twice.{length_twice, LieBefore}
use Rattle.schedule.proofs.slot.Round.moved_on.Given as goal

abbrev pub invariant-loop-reach : goal.invariant-loop-reach
invariant-loop-reach l =
    (l.reach.end ≤ l.limit) × (l.reach.sum ≡ sum (length_twice l.self.slots.now) l.reach.end) × LieBefore l.self.cycle l.self.slots.now l.reach.end l.until

abbrev pub decreases-loop-reach : goal.decreases-loop-reach
decreases-loop-reach l = l.limit - l.reach.end
