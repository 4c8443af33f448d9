-- The rule of a schedule. A schedule is a cycle of ticks, and pairs of offset and length. Its phase says at which tick of the cycle it
-- is. At the tick that is the offset of a pair, units up to the length of that pair may be offered, once.
use Rattle.std.specs.Prelude.{ℕ, zero, suc, ◌+◌, ◌<◌, ◌≤◌, Bool, true, false, cond, List, [], length, All, AllPairs, ◌==◌, slice_index_or}
use Rattle.cycles.specs.Round.{sum, top, next, met}
use Rattle.source.specs.Rows.{Kind}
use Rattle.schedule.specs.declared.slot.Slot.{Slot}

-- a schedule as its rule speaks of it: its pairs in their order, and whether the pair at its phase was offered already
pub record Timetable : Type 0 where
  pub cycle : ℕ
  pub pairs : List Slot
  pub phase : ℕ
  pub taken : Bool

-- what a look-up past the last pair reads
abbrev pub none : Slot
none = record { offset = 0; length = 0 }

-- offset and length of the pair at place i, counted from 0
abbrev pub offset_of : List Slot → ℕ → ℕ
offset_of pairs i = (slice_index_or pairs i none).offset

abbrev pub length_of : List Slot → ℕ → ℕ
length_of pairs i = (slice_index_or pairs i none).length

-- all lengths added up
abbrev pub total_length : List Slot → ℕ
total_length pairs = sum (length_of pairs) (length pairs)

-- the length of pair i if it stands at that phase, and else 0
abbrev pub if_at : List Slot → ℕ → ℕ → ℕ
if_at pairs phase i = cond (offset_of pairs i == phase) (length_of pairs i) 0

-- the length at a phase: that of the pair there, or 0
abbrev pub length_at : List Slot → ℕ → ℕ
length_at pairs phase = sum (if_at pairs phase) (length pairs)

-- the lengths met in so many ticks from a phase on, none taken
abbrev pub lengths_met : ℕ → List Slot → ℕ → ℕ → ℕ
lengths_met cycle pairs ticks phase = met cycle (length_at pairs) phase ticks

-- demand over so many ticks: the largest such sum over all phases
abbrev pub demand_of : ℕ → List Slot → ℕ → ℕ
demand_of cycle pairs ticks = top (lengths_met cycle pairs ticks) cycle

abbrev pub demand : Timetable → ℕ → ℕ
demand t ticks = demand_of t.cycle t.pairs ticks

-- allowance over so many ticks: the lengths met from the present phase on, without the present one if it was taken
abbrev pub allowance : Timetable → ℕ → ℕ
allowance t zero = 0
allowance t (suc ticks) = cond t.taken 0 (length_at t.pairs t.phase) + lengths_met t.cycle t.pairs ticks (next t.cycle t.phase)

-- after an offer was taken
abbrev pub offered : Timetable → Timetable
offered t = record t { taken = true }

-- a tick later: one phase on, from the last of the cycle back to 0, and nothing taken
abbrev pub later : Timetable → Timetable
later t = record t { phase = next t.cycle t.phase; taken = false }

-- schedules as gates of one part: how many units an offer had makes no difference to what is left of it
abbrev pub timetables : Kind Timetable
timetables = record {
  demand = demand;
  allowance = allowance;
  given = λ t units. offered t;
  later = later;
  blank = record { cycle = 0; pairs = []; phase = 0; taken = false };
}

-- what holds of the cycle and the pairs of every schedule: there are at most 64 pairs, their offsets strictly rise and are below the
-- cycle, and no number is above 1,000,000
pub record FitPairs (cycle : ℕ) (pairs : List Slot) : Type 0 where
  pub short : cycle ≤ 1000000
  pub few : length pairs ≤ 64
  pub rising : AllPairs (λ earlier pair. earlier.offset < pair.offset) pairs
  pub below : All (λ pair. pair.offset < cycle) pairs
  pub lengths : All (λ pair. pair.length ≤ 1000000) pairs

-- what holds of every schedule; since its phase is below its cycle, that is 1 or more
pub record Fit (t : Timetable) : Type 0 where
  pub pairs : FitPairs t.cycle t.pairs
  pub phase : t.phase < t.cycle

-- what is seen of a schedule: its timetable, and that the facts above hold of it
pub record FitTimetable : Type 0 where
  pub timetable : Timetable
  pub fit : Fit timetable
