use Rattle.std.proofs.Common.{◌≡◌, ◌+◌, ◌<◌, ◌≤◌, length}
use Rattle.cycles.specs.Round.{sum, top}
use Rattle.schedule.specs.Phases.{offset_of, length_of}
use Rattle.schedule.specs.Twice.{length_twice, met_from, LieBefore}
use Rattle.schedule.proofs.slot.Round.largest_met.Given as goal

abbrev pub invariant-loop-start : goal.invariant-loop-start
invariant-loop-start l =
    (l.passed ≡ sum (length_of l.self.slots.now) l.start)
    × (l.best ≡ top (met_from l.self.cycle l.self.slots.now l.ticks) l.start)
    × (l.reach.end ≤ length l.self.slots.now + l.start)
    × (l.reach.sum ≡ sum (length_twice l.self.slots.now) l.reach.end)
    × (l.start < length l.self.slots.now → LieBefore l.self.cycle l.self.slots.now l.reach.end (offset_of l.self.slots.now l.start + l.ticks))
