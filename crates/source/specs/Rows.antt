-- Gates that are made of rows, each of one part: a list of rows, whose parts are the rows in their order, and a single row. What is
-- said and proved here holds of any kind of row.
use Rattle.std.specs.Prelude.{◌≡◌, ℕ, ◌+◌, ◌-◌, ◌≤◌, true, cond, List, length, map, slice_index_or, slice_set}
use Rattle.source.specs.Facts.{Work, is_part, offerable}

-- A kind of row: the most that a row brings in any so many ticks in a row, the most that it may bring in the next so many ticks, what a
-- taken offer of so many units makes of it, and what a tick makes of it. `blank` is what a look-up past the end of a list reads.
pub record Kind (R : Type 0) : Type 0 where
  pub demand : R → ℕ → ℕ
  pub allowance : R → ℕ → ℕ
  pub given : R → ℕ → R
  pub later : R → R
  pub blank : R

-- what rows of a kind owe, if they are fit: what a source and a gate of one part owe, and that they stay fit
pub record Owes {R : Type 0} (kind : Kind R) (Fit : R → Type 0) : Type 0 where
  pub none : (r : R) → Fit r → kind.demand r 0 ≡ 0
  pub rises : (r : R) (l m : ℕ) → Fit r → l ≤ m → kind.demand r l ≤ kind.demand r m
  pub small : (r : R) (l : ℕ) → Fit r → l ≤ 1000000 → kind.demand r l ≤ 10000000000000
  pub within : (r : R) (l : ℕ) → Fit r → kind.allowance r l ≤ kind.demand r l
  pub given_demand : (r : R) (u l : ℕ) → kind.demand (kind.given r u) l ≡ kind.demand r l
  pub given_within : (r : R) (u l : ℕ) → Fit r → 1 ≤ u → u ≤ kind.allowance r 1 → 1 ≤ l → u + kind.allowance (kind.given r u) l ≤ kind.allowance r l
  pub given_fit : (r : R) (u : ℕ) → Fit r → 1 ≤ u → u ≤ kind.allowance r 1 → Fit (kind.given r u)
  pub later_demand : (r : R) (l : ℕ) → kind.demand (kind.later r) l ≡ kind.demand r l
  pub later_shorter : (r : R) (l : ℕ) → Fit r → kind.allowance (kind.later r) l ≤ kind.allowance r (l + 1)
  pub later_fit : (r : R) → Fit r → Fit (kind.later r)

module _ {R : Type 0} (kind : Kind R) where
  -- of n rows, told by their places from 0: what each part demands, and what it may bring
  abbrev pub demand_by : ℕ → (ℕ → R) → ℕ → ℕ → ℕ
  demand_by n row k l = cond (is_part n k) (kind.demand (row (k - 1)) l) 0

  abbrev pub allowance_by : ℕ → (ℕ → R) → ℕ → ℕ → ℕ
  allowance_by n row k l = cond (is_part n k) (kind.allowance (row (k - 1)) l) 0

  -- the row at place i of a list
  abbrev pub row_of : List R → ℕ → R
  row_of rows i = slice_index_or rows i kind.blank

  -- the work of a list of rows, and what its parts may bring
  abbrev pub work_of : List R → Work
  work_of rows = record { parts = length rows; demand = demand_by (length rows) (row_of rows) }

  abbrev pub allowed_of : List R → ℕ → ℕ → ℕ
  allowed_of rows = allowance_by (length rows) (row_of rows)

  -- a list takes an offer of u units at part k: the row of that part moves on, and no other
  pub record Gives (rows : List R) (k u : ℕ) (rows' : List R) : Type 0 where
    pub offered : offerable (length rows) (allowed_of rows) k u ≡ true
    pub moved : rows' ≡ slice_set rows (k - 1) (kind.given (row_of rows (k - 1)) u)

  -- a tick passes for every row of a list
  abbrev pub Passes : List R → List R → Type 0
  Passes rows rows' = rows' ≡ map kind.later rows

  -- the work of a single row, and what it may bring as the part 1
  abbrev pub work_one : R → Work
  work_one r = record { parts = 1; demand = demand_by 1 (λ _. r) }

  abbrev pub allowed_one : R → ℕ → ℕ → ℕ
  allowed_one r = allowance_by 1 (λ _. r)

  -- a single row takes an offer of u units at part k, which is 1
  pub record GivesOne (r : R) (k u : ℕ) (r' : R) : Type 0 where
    pub offered : offerable 1 (allowed_one r) k u ≡ true
    pub moved : r' ≡ kind.given r u
