-- Which schedules can be made.
use Rattle.std.specs.Prelude.{◌≡◌, ℕ, ◌-◌, ◌<◌, ◌≤◌, ◌⊎◌, Bool, false, cond, ◌&&◌, ◌||◌, List, [], ◌∷◌, ◌++◌, length, Some, None, Option, ◌==◌, nat_le, nat_lt}
use Rattle.refusal.specs.declared.Fault.{Fault}
use Rattle.refusal.specs.declared.Fault.TheVariants.{TooMany, OutOfRange, Misfit}
use Rattle.schedule.specs.Phases.{Timetable, offset_of}
use Rattle.schedule.specs.declared.slot.Slot.{Slot}

-- from 1 to 1,000,000
abbrev pub in_range : ℕ → Bool
in_range x = nat_le 1 x && nat_le x 1000000

-- which rules a cycle breaks, each told by its fault: it is 0 or above 1,000,000
unfoldable pub CycleBreaks : ℕ → Fault → Type 0
CycleBreaks cycle OutOfRange = (cycle ≡ 0) ⊎ (1000000 < cycle)
CycleBreaks cycle other = ⊥

-- what is wrong with a cycle
abbrev pub cycle_fault : ℕ → Option Fault
cycle_fault cycle = cond (in_range cycle) None (Some OutOfRange)

-- a schedule with no pair, at phase 0
abbrev pub opened : ℕ → Timetable
opened cycle = record { cycle = cycle; pairs = []; phase = 0; taken = false }

-- an offset lies below the cycle, and above that of the last pair
abbrev pub follows : ℕ → List Slot → ℕ → Bool
follows cycle pairs offset = nat_lt offset cycle && (length pairs == 0 || nat_lt (offset_of pairs (length pairs - 1)) offset)

-- which rules one more pair breaks: a 65th pair; a length of 0 or a number above 1,000,000; an offset that is not below the cycle or not
-- above that of the last pair
unfoldable pub PairBreaks : Timetable → ℕ → ℕ → Fault → Type 0
PairBreaks t offset units TooMany = 64 ≤ length t.pairs
PairBreaks t offset units OutOfRange = (units ≡ 0) ⊎ (1000000 < units) ⊎ (1000000 < offset)
PairBreaks t offset units Misfit = (t.cycle ≤ offset) ⊎ ((1 ≤ length t.pairs) × (offset ≤ offset_of t.pairs (length t.pairs - 1)))
PairBreaks t offset units other = ⊥

-- what is wrong with one more pair, of that offset and a length of so many units, the fault with the smallest number first
abbrev pub pair_fault : Timetable → ℕ → ℕ → Option Fault
pair_fault t offset units =
    cond (nat_lt (length t.pairs) 64)
    (cond (nat_le offset 1000000 && in_range units)
    (cond (follows t.cycle t.pairs offset) None (Some Misfit))
    (Some OutOfRange))
    (Some TooMany)

-- one pair more behind the others
abbrev pub with_pair : Timetable → ℕ → ℕ → Timetable
with_pair t offset units = record t { pairs = t.pairs ++ (record { offset = offset; length = units }) ∷ [] }
