-- What waits in a run: backlogs, jobs and the hold, by the numbers of parts and tasks, which count from 1.
use Rattle.std.specs.Prelude.{◌≡◌, ℕ, ◌+◌, ◌-◌, ◌<◌, ◌≤◌, Bool, false, cond, List, Some, None, Option, option_map, length, replicate, take, nat_eq, nat_le, slice_index, slice_index_or}
use Rattle.std.specs.List.{position}
use Rattle.std.specs.Option.{ForSome}
use Rattle.plan.specs.Tasks.{Task, task_at}
use Rattle.run.specs.declared.state.Hold.{Hold}
use Rattle.run.specs.declared.state.Job.{Job}
use Rattle.run.specs.declared.state.State.{State}

-- no job is pending
abbrev pub no_job : Job
no_job = record { left = 0; age = 0 }

-- the state of a run at its start
abbrev pub at_start : State
at_start = record { backlogs = replicate 16 0; jobs = replicate 16 no_job; hold = None }

-- the backlog of part k
abbrev pub backlog_of : List ℕ → ℕ → ℕ
backlog_of backlogs k = cond (nat_le 1 k) (slice_index backlogs (k - 1)) 0

-- the units left of the job of task i, 0 if none is pending, and its age
abbrev pub left_of : List Job → ℕ → ℕ
left_of jobs i = cond (nat_le 1 i) (slice_index_or jobs (i - 1) no_job).left 0

abbrev pub age_of : List Job → ℕ → ℕ
age_of jobs i = cond (nat_le 1 i) (slice_index_or jobs (i - 1) no_job).age 0

-- the longest hold of task i
abbrev pub hold_of : List Task → ℕ → ℕ
hold_of tasks i = cond (nat_le 1 i) (task_at tasks (i - 1)).limit.hold 0

-- the task that a hold is of, 0 for no hold, and for how many more units it is
abbrev pub holder_in : Option Hold → ℕ
holder_in None = 0
holder_in (Some h) = h.task

abbrev pub held_in : Option Hold → ℕ
held_in None = 0
held_in (Some h) = h.units

-- the task that holds the processor, 0 if nobody does, and for how many more units it holds
abbrev pub holder : State → ℕ
holder s = holder_in s.hold

abbrev pub held : State → ℕ
held s = held_in s.hold

-- whether a hold is of task i
abbrev pub holds : Option Hold → ℕ → Bool
holds None i = false
holds (Some h) i = nat_eq h.task i

-- a hold that a run of these tasks may have: of one of them, for no more units than are left of its job, nor than its longest hold
pub record Within (tasks : List Task) (jobs : List Job) (h : Hold) : Type 0 where
  pub first : 1 ≤ h.task
  pub last : h.task ≤ length tasks
  pub left : h.units ≤ left_of jobs h.task
  pub short : h.units ≤ hold_of tasks h.task

-- there is no hold but such a one
abbrev pub Known : List Task → State → Type 0
Known tasks s = ForSome s.hold (λ h. Within tasks s.jobs h)

-- a hold has a unit left
abbrev pub Lasting : State → Type 0
Lasting s = ForSome s.hold (λ h. 1 ≤ h.units)

-- the first of the numbers 1 to n at which what stands in a list passes a test
abbrev pub first_at : {A : Type 0} → (A → Bool) → List A → ℕ → Option ℕ
first_at passes xs n = option_map (λ i. i + 1) (position passes (take n xs))

-- of n parts, the first with backlog
abbrev pub first_backlog : List ℕ → ℕ → Option ℕ
first_backlog backlogs n = first_at (λ units. nat_le 1 units) backlogs n

-- of n tasks, the highest with a pending job
abbrev pub first_pending : List Job → ℕ → Option ℕ
first_pending jobs n = first_at (λ job. nat_le 1 job.left) jobs n

-- k is the first of the numbers 1 to n at which f is not 0
pub record First (f : ℕ → ℕ) (n k : ℕ) : Type 0 where
  pub some : 1 ≤ k
  pub within : k ≤ n
  pub there : 1 ≤ f k
  pub before : (j : ℕ) → 1 ≤ j → j < k → f j ≡ 0
