-- A run as one value, and what each call makes of it where it is not refused.
use Rattle.std.specs.Prelude.{◌≡◌, ℕ, ◌-◌, ◌≤◌, Bool, true, false, List, map, length, Option, Some, None, unwrap_or, slice_set}
use Rattle.std.specs.List.{sum}
use Rattle.source.specs.Facts.{Work, Moves}
use Rattle.paced.specs.Pace.{given, later}
use Rattle.paced.specs.Tables.{work_in, allowances_in}
use Rattle.plan.specs.Plans.{Judgement, ByJudge}
use Rattle.plan.specs.Tasks.{Task, task_at, rows_of}
use Rattle.plan.specs.declared.verdict.Verdict.{Verdict}
use Rattle.plan.specs.declared.verdict.Verdict.TheVariants.{Accepted, NotJudgeable, Late}
use Rattle.calls.specs.declared.Got.{Got}
use Rattle.run.specs.States.{at_start, backlog_of, left_of, First, Known, Lasting}
use Rattle.run.specs.Steps.{grown, released, granted, let_go, ended, due, passed}
use Rattle.run.specs.declared.state.State.{State}

-- what is seen of a run: its bank and its tasks as they are now, the bounds of its plan, how many parts the bank has if that plan is
-- accepted, and what waits
pub record Now (S : Type 0) : Type 0 where
  pub bank : S
  pub tasks : List Task
  pub bounds : List ℕ
  pub parts : Option ℕ
  pub state : State

-- a plan with that verdict is accepted
abbrev pub is_accepted : Verdict → Bool
is_accepted (Accepted n) = true
is_accepted NotJudgeable = false
is_accepted (Late i) = false

-- how many parts the bank has, if the plan is accepted
abbrev pub parts_of : Work → Verdict → Option ℕ
parts_of bank (Accepted n) = Some bank.parts
parts_of bank NotJudgeable = None
parts_of bank (Late i) = None

-- a run of a judged plan at its start: nothing waits
abbrev pub started : {S : Type 0} → (S → Work) → Judgement S → Now S
started work j = record { bank = j.plan.bank; tasks = j.plan.tasks; bounds = j.bounds; parts = parts_of (work j.plan.bank) j.verdict; state = at_start }

-- who gets the unit of a tick
abbrev pub due_in : {S : Type 0} → Now S → Got
due_in r = due (unwrap_or r.parts 0) (length r.tasks) r.state

-- what the paced parts of the tasks bring, and what they may still bring
abbrev pub tasks_work : {S : Type 0} → Now S → Work
tasks_work r = work_in (rows_of r.tasks)

abbrev pub tasks_allowed : {S : Type 0} → Now S → ℕ → ℕ → ℕ
tasks_allowed r = allowances_in (rows_of r.tasks)

-- part k of the bank is the lowest-numbered with backlog
abbrev pub LowestWaiting : {S : Type 0} → (S → Work) → Now S → ℕ → Type 0
LowestWaiting work r k = First (backlog_of r.state.backlogs) (work r.bank).parts k

-- task i is the highest with a pending job: units of its job are left, and no task above it, with a smaller number, has any
abbrev pub HighestPending : {S : Type 0} → Now S → ℕ → Type 0
HighestPending r i = First (left_of r.state.jobs) (length r.tasks) i

-- a task to which an offer was made that it took, and a task a tick later
abbrev pub given_task : Task → Task
given_task task = record task { row = given task.row }

abbrev pub later_task : Task → Task
later_task task = record task { row = later task.row }

-- an offer of u units to part k was taken: the bank took it, and the backlog of that part grew
pub record Offered {S : Type 0} (moves : Moves S) (k u : ℕ) (r r' : Now S) : Type 0 where
  pub bank : moves.takes r.bank k u r'.bank
  pub rest : r' ≡ record r { bank = r'.bank; state = grown r.state k u }

-- task i was released with u units: its paced part took them, and a job of age 0 is pending
abbrev pub run_released : {S : Type 0} → Now S → ℕ → ℕ → Now S
run_released r i u = record r { tasks = slice_set r.tasks (i - 1) (given_task (task_at r.tasks (i - 1))); state = released r.state i u }

-- task i holds for u units
abbrev pub run_granted : {S : Type 0} → Now S → ℕ → ℕ → Now S
run_granted r i u = record r { state = granted r.state i u }

-- nobody holds
abbrev pub run_let_go : {S : Type 0} → Now S → Now S
run_let_go r = record r { state = let_go r.state }

-- the job of task i is ended, and any hold of that task
abbrev pub run_ended : {S : Type 0} → Now S → ℕ → Now S
run_ended r i = record r { state = ended r.state i }

-- a tick passed: the one who was due got the unit, and the bank and all tasks ticked
pub record TickPassed {S : Type 0} (moves : Moves S) (r r' : Now S) : Type 0 where
  pub bank : moves.ticks r.bank r'.bank
  pub rest : r' ≡ record r { bank = r'.bank; tasks = map later_task r.tasks; state = passed r.state (due_in r) }

-- a task as it was at the start
abbrev pub rested : Task → Task
rested task = record task { row = record task.row { level = 0; place = 0 } }

-- the run was started from a judged plan: but for levels and places its tasks are those of the plan, its bank has the work that the bank
-- of the plan had, and its bounds are those of the plan
pub record Started {S : Type 0} (work : S → Work) (r : Now S) : Type 0 where
  pub judged : Judgement S
  pub by_judge : ByJudge work judged
  pub bank : work r.bank ≡ work judged.plan.bank
  pub tasks : map rested r.tasks ≡ judged.plan.tasks
  pub bounds : r.bounds ≡ judged.bounds
  pub parts : r.parts ≡ parts_of (work judged.plan.bank) judged.verdict

-- what every run keeps to
pub record Held {S : Type 0} (work : S → Work) (r : Now S) : Type 0 where
  pub started : Started work r
  pub backlogs : length r.state.backlogs ≡ 16
  pub jobs : length r.state.jobs ≡ 16
  pub waiting : sum r.state.backlogs ≤ 1000000
  pub known : Known r.tasks r.state
  pub lasting : Lasting r.state
