-- Stores of units that are never filled up again, and parts that are all alike.
use Rattle.std.specs.Prelude.{ℕ, ◌-◌, ◌≤◌, cond, ◌&&◌, List, [], ◌∷◌, All, nat_le}
use Rattle.source.specs.Facts.{is_part}
use Rattle.source.specs.Rows.{Kind}
use Rattle.gate_tests.specs.declared.Store.{Store}

-- the units over that many ticks: none over no tick
abbrev pub over : ℕ → ℕ → ℕ
over units ticks = cond (nat_le 1 ticks) units 0

-- a store of that size, with nothing taken from it
abbrev pub full : ℕ → Store
full size = record { size = size; left = size }

-- stores, as a kind of row: a store brings its size once, and a tick changes nothing
abbrev pub stores : Kind Store
stores = record {
  demand = λ s ticks. over s.size ticks;
  allowance = λ s ticks. over s.left ticks;
  given = λ s units. record { size = s.size; left = s.left - units };
  later = λ s. s;
  blank = full 0;
}

-- what holds of every store; its size has 32 bits
pub record Fit (s : Store) : Type 0 where
  pub size : s.size ≤ 4294967295
  pub left : s.left ≤ s.size

-- what is seen of a reserve: its two stores, and that the facts above hold of both
pub record FitStores : Type 0 where
  pub first : Store
  pub second : Store
  pub fit : All Fit (first ∷ second ∷ [])

-- its stores as a list
abbrev pub in_order : FitStores → List Store
in_order r = r.first ∷ r.second ∷ []

-- what is seen of parts that are all alike: how many there are, and that a source may have so many
pub record FewParts : Type 0 where
  pub parts : ℕ
  pub few : parts ≤ 1000

-- a unit for each of n parts over any window of at least a tick
abbrev pub alike : ℕ → ℕ → ℕ → ℕ
alike n k ticks = cond (is_part n k && nat_le 1 ticks) 1 0
