-- Which paced parts can be made, and as what: the period and each cost from 1 to 1,000,000, the jitter below the
-- period, and 1 to 8 costs.
use Rattle.std.specs.Prelude.{◌≡◌, ℕ, ◌-◌, ◌<◌, ◌≤◌, ◌⊎◌, Bool, cond, ◌&&◌, List, ◌∷◌, ◌++◌, length, replicate, Some, None, Option, nat_le, nat_lt}
use Rattle.std.specs.List.{list_all, Any, Contains}
use Rattle.refusal.specs.declared.Fault.{Fault}
use Rattle.refusal.specs.declared.Fault.TheVariants.{TooMany, OutOfRange, Misfit}
use Rattle.paced.specs.declared.row.Pace.{Pace}
use Rattle.paced.specs.declared.row.Row.{Row}

-- from 1 to 1,000,000
abbrev pub in_range : ℕ → Bool
in_range x = nat_le 1 x && nat_le x 1000000

abbrev pub all_in_range : List ℕ → Bool
all_in_range costs = list_all in_range costs

-- what is asked of a paced part: its period and jitter in ticks, and its costs in units
pub record Asked : Type 0 where
  pub period : ℕ
  pub jitter : ℕ
  pub costs : List ℕ

-- what a pace asks
abbrev pub asked : Pace → Asked
asked p = record { period = p.period; jitter = p.jitter; costs = p.costs.now }

-- period, jitter and costs are numbers that may be given
abbrev pub given_right : Asked → Bool
given_right a = in_range a.period && (nat_le a.jitter 1000000 && (nat_le 1 (length a.costs) && all_in_range a.costs))

-- which rules a pace breaks, each told by its fault: more than 8 costs; a period or cost of 0, no cost, or a number above 1,000,000; a
-- jitter that is not below the period
unfoldable pub PaceBreaks : Asked → Fault → Type 0
PaceBreaks a TooMany = 8 < length a.costs
PaceBreaks a OutOfRange = Contains (a.period ∷ a.costs) 0 ⊎ (length a.costs ≡ 0) ⊎ Any (λ number. 1000000 < number) (a.period ∷ a.jitter ∷ a.costs)
PaceBreaks a Misfit = a.period ≤ a.jitter
PaceBreaks a other = ⊥

-- what is wrong with them, the fault with the smallest number first
abbrev pub fault_of : Asked → Option Fault
fault_of a = cond (nat_le (length a.costs) 8) (cond (given_right a) (cond (nat_lt a.jitter a.period) None (Some Misfit)) (Some OutOfRange)) (Some TooMany)

-- the part made of them: level and place are 0
abbrev pub fresh : Asked → Row
fresh a = record { period = a.period; jitter = a.jitter; count = length a.costs; costs = a.costs ++ replicate (8 - length a.costs) 0; level = 0; place = 0 }

-- which rules one more part breaks in a table of n that has room for `most`: those of its pace, and the table may have no room
unfoldable pub PartBreaks : ℕ → ℕ → Asked → Fault → Type 0
PartBreaks most n a TooMany = (most ≤ n) ⊎ PaceBreaks a TooMany
PartBreaks most n a other = PaceBreaks a other

-- what is wrong with one more part in a table of n that has room for `most`
abbrev pub adding : ℕ → ℕ → Asked → Option Fault
adding most n a = cond (nat_lt n most) (fault_of a) (Some TooMany)

-- a place of a table that has no part
abbrev pub unused : Row
unused = record { period = 0; jitter = 0; count = 0; costs = replicate 8 0; level = 0; place = 0 }
