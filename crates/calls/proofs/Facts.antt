-- What every call keeps: for each task a number of ticks within which all the work before it is done, and its job with it.
use Rattle.std.proofs.Common.{◌≡◌, ℕ, ◌+◌, ◌<◌, ◌≤◌, cond, ltb, ◌⊎◌}
use Rattle.calls.specs.States.{upto, Plan, State, Fits}

-- what the bank has in its backlogs and may still bring in m ticks
abbrev pub flood : Plan → State → ℕ → ℕ
flood p s m = upto (λ k. s.backlog k + s.bank k m) p.bank.parts

-- what tasks 1 to i may still bring in m ticks, with and without what is left of their jobs
abbrev pub ahead : State → ℕ → ℕ → ℕ
ahead s i m = upto (λ j. s.left j + s.tasks j m) i

abbrev pub coming : State → ℕ → ℕ → ℕ
coming s i m = upto (λ j. s.tasks j m) i

-- the units for which a task below task i holds the processor
abbrev pub below : State → ℕ → ℕ
below s i = cond (ltb i s.holder) s.held 0

-- within m ticks the bank has nothing more to do, even if a lower task blocks task i, and there is room for its bound
pub record Quiet (p : Plan) (s : State) (i m : ℕ) : Type 0 where
  pub some : 1 ≤ m
  pub soon : m ≤ p.bound i
  pub fits : flood p s m + coming s i m + p.blocking i ≤ m

-- within m ticks the jobs of tasks 1 to i are done, and that of task i no later than its bound
pub record Busy (p : Plan) (s : State) (i m : ℕ) : Type 0 where
  pub some : 1 ≤ m
  pub soon : s.age i + m ≤ p.bound i
  pub fits : flood p s m + ahead s i m + below s i ≤ m

-- where tasks have these units left: nobody holds, or a task does, for at most its longest hold and the units left of its job
abbrev pub Holding : Plan → (ℕ → ℕ) → ℕ → ℕ → Type 0
Holding p left x u = ((x ≡ 0) × (u ≡ 0)) ⊎ ((1 ≤ x) × (x ≤ p.tasks.parts) × (1 ≤ u) × (u ≤ p.hold x) × (u ≤ left x))

-- a job is of a task, only a job has an age, and a hold is short and of a task
pub record Sane (p : Plan) (s : State) : Type 0 where
  pub zeroth : s.left 0 ≡ 0
  pub outside : (i : ℕ) → p.tasks.parts < i → s.left i ≡ 0
  pub ageless : (i : ℕ) → s.left i ≡ 0 → s.age i ≡ 0
  pub hold : Holding p s.left s.holder s.held

pub record Safe (p : Plan) (s : State) : Type 0 where
  pub fits : Fits p s
  pub sane : Sane p s
  pub quiet : (i : ℕ) → 1 ≤ i → i ≤ p.tasks.parts → (m : ℕ) × Quiet p s i m
  pub busy : (i : ℕ) → 1 ≤ i → i ≤ p.tasks.parts → 1 ≤ upto s.left i → (m : ℕ) × Busy p s i m
