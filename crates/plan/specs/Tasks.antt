-- The tasks of a plan: a list, the highest first. Places in it count from 0, and the number of a task is its place and one.
use Rattle.std.specs.Prelude.{◌≡◌, ℕ, ◌+◌, ◌-◌, ◌<◌, ◌≤◌, cond, List, [], ◌∷◌, All, Option, Some, None, length, map, drop, replicate, slice_index_or}
use Rattle.source.specs.Facts.{is_part}
use Rattle.paced.specs.Makes.{Asked, fresh}
use Rattle.paced.specs.Pace.{blank, Fit}
use Rattle.paced.specs.declared.row.Row.{Row}
use Rattle.plan.specs.declared.tasks.Limit.{Limit}

-- a task: its paced part, and its limits
pub record Task : Type 0 where
  pub row : Row
  pub limit : Limit

-- the limits of no task
abbrev pub unlimited : Limit
unlimited = record { blocking = 0; deadline = 0; hold = 0 }

-- the task at a place
abbrev pub task_at : List Task → ℕ → Task
task_at tasks i = slice_index_or tasks i (record { row = blank; limit = unlimited })

-- what f tells of the task with number k, if there is such a task
abbrev pub told_of_task : {A : Type 0} → (Task → A) → List Task → ℕ → Option A
told_of_task f tasks k = cond (is_part (length tasks) k) (Some (f (task_at tasks (k - 1)))) None

-- the paced parts of the tasks, and their limits
abbrev pub rows_of : List Task → List Row
rows_of tasks = map (λ task. task.row) tasks

abbrev pub limits_of : List Task → List Limit
limits_of tasks = map (λ task. task.limit) tasks

-- rows and limits as tasks, by their places, as many as there are of both
abbrev pub side_by_side : List Row → List Limit → List Task
side_by_side [] limits = []
side_by_side (r ∷ rows) [] = []
side_by_side (r ∷ rows) (l ∷ limits) = record { row = r; limit = l } ∷ side_by_side rows limits

-- the task that is made of what is asked of its paced part and of its limits
abbrev pub made : Asked → Limit → Task
made a l = record { row = fresh a; limit = l }

-- a paced part to which nothing was offered yet
pub record AtRest (r : Row) : Type 0 where
  pub level : r.level ≡ 0
  pub place : r.place ≡ 0

-- what the tasks of every plan keep to
pub record Fitting (tasks : List Task) : Type 0 where
  pub few : length tasks ≤ 16
  pub rows : All (λ task. Fit task.row) tasks
  pub rest : All (λ task. AtRest task.row) tasks
  pub deadlines : All (λ task. task.limit.deadline + task.row.jitter ≤ task.row.period) tasks
  pub blockings : All (λ task. task.limit.blocking ≤ 1000000) tasks
  pub holds : (i j : ℕ) → i < j → j < length tasks → (task_at tasks j).limit.hold ≤ (task_at tasks i).limit.blocking

-- that limits for 16 tasks are unlimited behind the first n
abbrev pub Unused : ℕ → List Limit → Type 0
Unused n limits = drop n limits ≡ replicate (16 - n) unlimited

-- what the rows and the limits in a table of tasks keep to: there is room for 16 limits, and as tasks they are fitting
pub record Sides (rows : List Row) (limits : List Limit) : Type 0 where
  pub room : length limits ≡ 16
  pub fitting : Fitting (side_by_side rows limits)

-- what the fields of Tasks keep to: they are Sides, and behind the last task there are no limits
pub record Stored (rows : List Row) (limits : List Limit) : Type 0 where
  pub sides : Sides rows limits
  pub rest : Unused (length rows) limits
