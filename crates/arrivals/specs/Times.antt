-- When offers were taken, and which arrival times explain them. Time is counted in ticks, and a part starts at the time J, its jitter,
-- so that an arrival up to J ticks before the start has a time too.
use Rattle.std.specs.Prelude.{◌≡◌, ℕ, ◌+◌, ◌%◌, ◌<◌, ◌≤◌, Bool, true, false, ◌⊎◌, List, [], ◌∷◌, ◌++◌, length, take, Decides, ◌≢◌, slice_index, slice_index_or}
use Rattle.paced.specs.Makes.{Asked}
use Rattle.arrivals.specs.declared.Step.{Step}
use Rattle.arrivals.specs.declared.Step.TheVariants.{Tick, Offer}

-- arrival times `arrival 0`, `arrival 1`, .. for offers at these times: each offer comes 0 to `jitter` ticks after its own arrival, and
-- any two arrivals are at least `period` ticks apart
pub record Explains (period jitter : ℕ) (offers : List ℕ) (arrival : ℕ → ℕ) : Type 0 where
  pub before : (i : ℕ) → i < length offers → arrival i ≤ slice_index offers i
  pub within : (i : ℕ) → i < length offers → slice_index offers i ≤ arrival i + jitter
  pub apart : (i j : ℕ) → i < length offers → j < length offers → (i ≢ j) → (arrival i + period ≤ arrival j) ⊎ (arrival j + period ≤ arrival i)

-- there are such arrival times
abbrev pub Explained : ℕ → ℕ → List ℕ → Type 0
Explained period jitter offers = (arrival : ℕ → ℕ) × Explains period jitter offers arrival

-- the time after some steps that began at time t
abbrev pub time : ℕ → List Step → ℕ
time t [] = t
time t (Tick ∷ steps) = time (t + 1) steps
time t (Offer u ∷ steps) = time t steps

-- the times of the offers that were taken, for steps that began at time t and their answers
abbrev pub times : ℕ → List Step → List Bool → List ℕ
times t [] answers = []
times t (step ∷ steps) [] = []
times t (Tick ∷ steps) (answer ∷ answers) = times (t + 1) steps answers
times t (Offer u ∷ steps) (true ∷ answers) = t ∷ times t steps answers
times t (Offer u ∷ steps) (false ∷ answers) = times t steps answers

-- the cost that is due after n offers were taken, round the cycle of costs
abbrev pub due : List ℕ → ℕ → ℕ
due costs n = slice_index costs (n % length costs)

-- a part of that pace, which took offers at the times `taken`, answers an offer of so many units at the time `now` rightly: from 1 to the
-- cost that is due, it is taken exactly when there are arrival times for those offers and this one; else it is not taken
pub record Answered (pace : Asked) (taken : List ℕ) (now units : ℕ) (answer : Bool) : Type 0 where
  pub explained : 1 ≤ units → units ≤ due pace.costs (length taken) → Decides answer (Explained pace.period pace.jitter (taken ++ now ∷ []))
  pub outside : (1 ≤ units → units ≤ due pace.costs (length taken) → ⊥) → answer ≡ false

-- the time of step i of a part of that pace, counted from 0, and the times of the offers that were taken before it
abbrev pub time_at : Asked → List Step → ℕ → ℕ
time_at pace steps i = time pace.jitter (take i steps)

abbrev pub taken_before : Asked → List Step → List Bool → ℕ → List ℕ
taken_before pace steps answers i = times pace.jitter (take i steps) (take i answers)

-- answer i is right for step i as an offer of so many units, by the steps and the answers before it
abbrev pub AnsweredAt : Asked → List Step → List Bool → ℕ → ℕ → Type 0
AnsweredAt pace steps answers i units =
    Answered pace (taken_before pace steps answers i) (time_at pace steps i) units (slice_index_or answers i false)

-- every offer among the steps is answered rightly, as far as there are answers
abbrev pub AllAnswered : Asked → List Step → List Bool → Type 0
AllAnswered pace steps answers =
    (i units : ℕ)
    → i < length steps
    → i < length answers
    → slice_index_or steps i Tick ≡ Offer units
    → AnsweredAt pace steps answers i units
