use Rattle.std.proofs.Common.{◌≡◌}
use Rattle.cycles.specs.Round.{sum}
use Rattle.schedule.specs.Phases.{if_at}
use Rattle.schedule.proofs.slot.Round.length_at.Given as goal

abbrev pub invariant-loop-slot : goal.invariant-loop-slot
invariant-loop-slot l = l.found ≡ sum (if_at l.self.slots.now l.phase) l.slot-index
