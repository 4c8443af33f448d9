-- What each call makes of the state of a run, where it is not refused.
use Rattle.std.specs.Prelude.{ℕ, ◌+◌, ◌-◌, ◌≤◌, min, Bool, cond, ◌&&◌, List, map, Option, Some, None, option_map, nat_eq, nat_le, slice_index_or, slice_set}
use Rattle.std.specs.Option.{option_or}
use Rattle.calls.specs.declared.Got.{Got}
use Rattle.calls.specs.declared.Got.TheVariants.{Nobody, Part, Task}
use Rattle.run.specs.States.{no_job, backlog_of, left_of, age_of, holds, first_backlog, first_pending}
use Rattle.run.specs.declared.state.Hold.{Hold}
use Rattle.run.specs.declared.state.Job.{Job}
use Rattle.run.specs.declared.state.State.{State}

-- u units were offered to part k: its backlog grows by them
abbrev pub grown : State → ℕ → ℕ → State
grown s k u = record { backlogs = slice_set s.backlogs (k - 1) (backlog_of s.backlogs k + u); jobs = s.jobs; hold = s.hold }

-- task i was released with u units: a job of age 0
abbrev pub released : State → ℕ → ℕ → State
released s i u = record { backlogs = s.backlogs; jobs = slice_set s.jobs (i - 1) (record { left = u; age = 0 }); hold = s.hold }

-- task i holds for u units
abbrev pub granted : State → ℕ → ℕ → State
granted s i u = record { backlogs = s.backlogs; jobs = s.jobs; hold = Some (record { task = i; units = u }) }

-- nobody holds
abbrev pub let_go : State → State
let_go s = record { backlogs = s.backlogs; jobs = s.jobs; hold = None }

-- the job of task i is ended, and any hold of that task
abbrev pub ended : State → ℕ → State
ended s i = record { backlogs = s.backlogs; jobs = slice_set s.jobs (i - 1) no_job; hold = cond (holds s.hold i) None s.hold }

-- the age that is told of a task that gets a unit: that of its job, this tick included, if the job ends with the unit, or none
abbrev pub told_age : List Job → ℕ → Option ℕ
told_age jobs i = cond (nat_le (left_of jobs i) 1) (Some (min (age_of jobs i + 1) 4294967295)) None

-- the task that goes before the other tasks of n: the holder, else the highest with a pending job
abbrev pub foremost : ℕ → State → Option ℕ
foremost n s = option_or (option_map (λ h. h.task) s.hold) (first_pending s.jobs n)

-- a task that gets the unit, or nobody
abbrev pub due_task : List Job → Option ℕ → Got
due_task jobs None = Nobody
due_task jobs (Some i) = Task i (told_age jobs i)

-- a part that gets the unit, or else who that is
abbrev pub due_first : Option ℕ → Got → Got
due_first None got = got
due_first (Some k) got = Part k

-- who gets the unit of a tick, of a bank of m parts and n tasks: the lowest-numbered part with backlog, else the task that
-- goes before the others, else nobody
abbrev pub due : ℕ → ℕ → State → Got
due m n s = due_first (first_backlog s.backlogs m) (due_task s.jobs (foremost n s))

-- part k is given a unit
abbrev pub part_served : State → ℕ → State
part_served s k = record { backlogs = slice_set s.backlogs (k - 1) (backlog_of s.backlogs k - 1); jobs = s.jobs; hold = s.hold }

-- a unit less is left of a job
abbrev pub worked : Job → Job
worked j = record { left = j.left - 1; age = j.age }

-- a unit of task i less is left of a hold, if it is of that task
abbrev pub used : ℕ → Hold → Hold
used i h = record { task = h.task; units = cond (nat_eq h.task i) (h.units - 1) h.units }

-- task i is given a unit: one fewer is left of its job, and of the hold if it holds
abbrev pub task_served : State → ℕ → State
task_served s i = record { backlogs = s.backlogs; jobs = slice_set s.jobs (i - 1) (worked (slice_index_or s.jobs (i - 1) no_job)); hold = option_map (used i) s.hold }

-- the unit of a tick is given
abbrev pub served : State → Got → State
served s Nobody = s
served s (Part k) = part_served s k
served s (Task i a) = task_served s i

-- a job a tick later: a tick older if it is pending, up to the largest age that there is room for, and else over
abbrev pub older : Job → Job
older j = cond (nat_le 1 j.left) (record { left = j.left; age = min (j.age + 1) 4294967295 }) no_job

-- every pending job is a tick older
abbrev pub aged : State → State
aged s = record { backlogs = s.backlogs; jobs = map older s.jobs; hold = s.hold }

-- a hold goes on while it has units left, and its task a job
abbrev pub goes_on : List Job → Hold → Bool
goes_on jobs h = nat_le 1 h.units && nat_le 1 (left_of jobs h.task)

abbrev pub going_on : List Job → Option Hold → Option Hold
going_on jobs None = None
going_on jobs (Some h) = cond (goes_on jobs h) (Some h) None

-- a hold with no units left, or of a task with no job any more, is over
abbrev pub settled : State → State
settled s = record { backlogs = s.backlogs; jobs = s.jobs; hold = going_on s.jobs s.hold }

-- a tick in which that one gets the unit
abbrev pub passed : State → Got → State
passed s got = settled (aged (served s got))

-- the one who gets the unit has a number that there is a place for
abbrev pub Placed : Got → Type 0
Placed Nobody = Unit
Placed (Part k) = (1 ≤ k) × (k ≤ 16)
Placed (Task i a) = (1 ≤ i) × (i ≤ 16)
