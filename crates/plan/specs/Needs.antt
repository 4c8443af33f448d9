-- What a window of l ticks has to hold for a task: its blocking, its largest cost, and the demand of all that goes before
-- it. The bound is the smallest window that holds its need.
use Rattle.std.specs.Prelude.{ℕ, ◌+◌, ◌<◌, ◌≤◌, List, Some, None, Option}
use Rattle.cycles.specs.Round.{sum}
use Rattle.source.specs.Facts.{Work}
use Rattle.paced.specs.Pace.{largest_cost}
use Rattle.paced.specs.Tables.{work_in}
use Rattle.plan.specs.Tasks.{Task, task_at, rows_of}

-- the demand of the parts 1 to n over l ticks
abbrev pub total : Work → ℕ → ℕ → ℕ
total w n l = sum (λ k. w.demand (k + 1) l) n

-- what a task needs itself: its blocking and its largest cost
abbrev pub own_need : Task → ℕ
own_need task = task.limit.blocking + largest_cost task.row

-- what task i, counted from 0, needs below that bank: what it needs itself, the demand of the bank, and that of the tasks above it
abbrev pub needed : Work → List Task → ℕ → ℕ → ℕ
needed bank tasks i l = own_need (task_at tasks i) + total bank bank.parts l + total (work_in (rows_of tasks)) i l

-- w is the smallest window, of at least a tick, that holds what is needed
pub record Smallest (needed : ℕ → ℕ) (w : ℕ) : Type 0 where
  pub some : 1 ≤ w
  pub holds : needed w ≤ w
  pub smaller : (l : ℕ) → 1 ≤ l → l < w → l < needed l

-- the smallest window up to d, or none
abbrev pub Searched : (ℕ → ℕ) → ℕ → Option ℕ → Type 0
Searched needed d (Some w) = Smallest needed w × (w ≤ d)
Searched needed d None = (l : ℕ) → 1 ≤ l → l ≤ d → l < needed l
