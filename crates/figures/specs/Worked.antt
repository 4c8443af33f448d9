-- The worked figures of demand and offers: what the definitions come to in small cases. There are five groups of them: two schedules,
-- two paced parts, and the offers to one of them.
use Rattle.std.specs.Prelude.{◌≡◌, ℕ, zero, suc, true, false, List, [], ◌∷◌}
use Rattle.source.specs.Facts.{offerable}
use Rattle.source.specs.Rows.{allowed_one}
use Rattle.paced.specs.Makes.{fresh}
use Rattle.paced.specs.Pace.{demand, given, later, paced}
use Rattle.paced.specs.declared.row.Row.{Row}
use Rattle.schedule.specs.Phases.{demand_of}
use Rattle.schedule.specs.declared.slot.Slot.{Slot}

-- pairs at 0 and 5 of a cycle of 12
abbrev pub early : List Slot
early = record { offset = 0; length = 3 } ∷ record { offset = 5; length = 2 } ∷ []

-- pairs at 0 and 10 of a cycle of 12: the worst window of 3 ticks begins at phase 10
abbrev pub late : List Slot
late = record { offset = 0; length = 3 } ∷ record { offset = 10; length = 2 } ∷ []

-- a part at its start: period 10, jitter 2, cost 1
abbrev pub jittery : Row
jittery = fresh (record { period = 10; jitter = 2; costs = 1 ∷ [] })

-- period 5, no jitter, costs 4 1 1 3 in turn
abbrev pub uneven : Row
uneven = fresh (record { period = 5; jitter = 0; costs = 4 ∷ 1 ∷ 1 ∷ 3 ∷ [] })

-- a row n ticks later
abbrev pub waited : ℕ → Row → Row
waited zero r = r
waited (suc n) r = waited n (later r)

-- demand of the two pairs at 0 and 5 over 5, 6, 12 and 13 ticks
pub record EarlyPairs : Type 0 where
  pub over_5 : demand_of 12 early 5 ≡ 3
  pub over_6 : demand_of 12 early 6 ≡ 5
  pub over_12 : demand_of 12 early 12 ≡ 5
  pub over_13 : demand_of 12 early 13 ≡ 8

-- demand of the two pairs at 0 and 10 over 2 and 3 ticks
pub record LatePairs : Type 0 where
  pub over_2 : demand_of 12 late 2 ≡ 3
  pub over_3 : demand_of 12 late 3 ≡ 5

-- demand with jitter over 8, 9, 18 and 19 ticks
pub record WithJitter : Type 0 where
  pub over_8 : demand jittery 8 ≡ 1
  pub over_9 : demand jittery 9 ≡ 2
  pub over_18 : demand jittery 18 ≡ 2
  pub over_19 : demand jittery 19 ≡ 3

-- demand of costs in turn over 5, 10 and 30 ticks
pub record CostsInTurn : Type 0 where
  pub over_5 : demand uneven 5 ≡ 4
  pub over_10 : demand uneven 10 ≡ 7
  pub over_30 : demand uneven 30 ≡ 16

-- offered at the start, the part with jitter refuses after 7 ticks and takes after 8
pub record Offers : Type 0 where
  pub at_start : offerable 1 (allowed_one paced jittery) 1 1 ≡ true
  pub after_7 : offerable 1 (allowed_one paced (waited 7 (given jittery))) 1 1 ≡ false
  pub after_8 : offerable 1 (allowed_one paced (waited 8 (given jittery))) 1 1 ≡ true
