-- Paced work. A part has a period T, a jitter J and 1 to 8 costs in a cycle; a level v and the place f of the next cost
-- say what was offered so far.
use Rattle.std.specs.Prelude.{◌≡◌, ℕ, zero, suc, ◌+◌, ◌-◌, ◌/◌, ◌<◌, ◌≤◌, cond, [], length, nat_le}
use Rattle.cycles.specs.Round.{top, next, met}
use Rattle.source.specs.Rows.{Kind}
use Rattle.paced.specs.Runs.{at, largest}
use Rattle.paced.specs.declared.row.Row.{Row}

-- m successive costs of the row, from place i of its cycle on, added up
abbrev pub run : Row → ℕ → ℕ → ℕ
run r i m = met r.count (at r.costs) i m

-- the largest sum of m successive costs from any place in the cycle
abbrev pub largest_run : Row → ℕ → ℕ
largest_run r m = largest r.count r.costs m

-- the largest cost
abbrev pub largest_cost : Row → ℕ
largest_cost r = top (at r.costs) r.count

-- how many costs can come in l ticks if the level is v, and v is at most J + l - 1: one every T ticks, all of them up
-- to J ticks early
abbrev pub arrivals : Row → ℕ → ℕ → ℕ
arrivals r v zero = 0
arrivals r v (suc l) = (r.jitter + l - v) / r.period + 1

-- the same from level 0, over l ≥ 1 ticks
abbrev pub coming : Row → ℕ → ℕ
coming r l = (r.jitter + (l - 1)) / r.period + 1

-- demand over l ticks, from the worst level and the worst place
abbrev pub demand : Row → ℕ → ℕ
demand r l = largest_run r (arrivals r 0 l)

-- allowance over l ticks, from the present level and place
abbrev pub allowance : Row → ℕ → ℕ
allowance r zero = 0
allowance r (suc l) = cond (nat_le r.level (r.jitter + l)) (run r r.place (arrivals r r.level (suc l))) 0

-- the row after an offer was taken: one period more on the level, and on to the next cost
abbrev pub given : Row → Row
given r = record { period = r.period; jitter = r.jitter; count = r.count; costs = r.costs; level = r.level + r.period; place = next r.count r.place }

-- the row a tick later: the level is lower by 1, not below 0
abbrev pub later : Row → Row
later r = record { period = r.period; jitter = r.jitter; count = r.count; costs = r.costs; level = r.level - 1; place = r.place }

-- What every paced part keeps to. Its period and jitter:
abbrev pub Paces : Row → Type 0
Paces r = (1 ≤ r.period) × (r.period ≤ 1000000) × (r.jitter < r.period)

-- its table of 8 costs, of which the first `count` are in use, the next cost one of them, and its level:
abbrev pub Places : Row → Type 0
Places r = (length r.costs ≡ 8) × (r.count ≤ 8) × (r.place < r.count) × (r.level ≤ r.jitter + r.period)

-- and each cost:
abbrev pub Costs : Row → Type 0
Costs r = (i : ℕ) → at r.costs i ≤ 1000000

-- a row is fit if it is a paced part
pub record Fit (r : Row) : Type 0 where
  pub paces : Paces r
  pub places : Places r
  pub costs : Costs r

-- what a look-up past the end of a table reads
abbrev pub blank : Row
blank = record { period = 0; jitter = 0; count = 0; costs = []; level = 0; place = 0 }

-- paced rows, as a kind of row
abbrev pub paced : Kind Row
paced = record { demand = demand; allowance = allowance; given = λ r _. given r; later = later; blank = blank }
