-- What the judge finds: the verdict on a plan.
use Rattle.std.specs.Prelude.{◌≡◌, ℕ, ◌+◌, ◌-◌, ◌<◌, ◌≤◌, ◌⊎◌, List, Some, None, Option, Ok, Err, Result, length, slice_index}
use Rattle.refusal.specs.Refusals.{about, plain}
use Rattle.refusal.specs.Table.{row}
use Rattle.refusal.specs.declared.Fault.{Fault}
use Rattle.refusal.specs.declared.Fault.TheVariants as faults
use Rattle.refusal.specs.declared.Refusal.{Refusal}
use Rattle.source.specs.Facts.{Work}
use Rattle.plan.specs.Needs.{needed, Smallest, Searched}
use Rattle.plan.specs.Tasks.{Task, task_at, rows_of}
use Rattle.plan.specs.declared.verdict.Verdict.{Verdict}
use Rattle.plan.specs.declared.verdict.Verdict.TheVariants.{Accepted, NotJudgeable, Late}

-- the fault that a verdict stands for, if it refuses the plan
abbrev pub fault_told : Verdict → Option Fault
fault_told (Accepted n) = None
fault_told NotJudgeable = Some faults.NotJudgeable
fault_told (Late i) = Some faults.NoWindow

-- its number, 0 without a fault
abbrev pub number_told : Option Fault → ℕ
number_told None = 0
number_told (Some f) = (row f).number

-- the count of tasks, or the refusal, which is about no line yet
abbrev pub outcome_of : Verdict → Result ℕ Refusal
outcome_of (Accepted n) = Ok n
outcome_of NotJudgeable = Err (plain faults.NotJudgeable)
outcome_of (Late i) = Err (about i faults.NoWindow)

-- how many bounds a plan with that verdict tells
abbrev pub bounds_told : Verdict → ℕ
bounds_told (Accepted n) = n
bounds_told NotJudgeable = 0
bounds_told (Late i) = 0

-- how many tasks have a window by that verdict: all, none, or those above the late one
abbrev pub windows_told : Verdict → ℕ
windows_told (Accepted n) = n
windows_told NotJudgeable = 0
windows_told (Late i) = i - 1

module _ (bank : Work) (tasks : List Task) where
  -- task i, counted from 0, has w as the smallest window that holds what it needs, within its deadline
  abbrev pub Bounded : ℕ → ℕ → Type 0
  Bounded i w = Smallest (needed bank tasks i) w × (w ≤ (task_at tasks i).limit.deadline)

  -- task i has no window within its deadline
  abbrev pub Unbounded : ℕ → Type 0
  Unbounded i = Searched (needed bank tasks i) (task_at tasks i).limit.deadline None

  -- which rules a plan of these tasks breaks: it has no task, or its bank more than 16 parts; some task has no window within its deadline
  unfoldable pub PlanBreaks : Fault → Type 0
  PlanBreaks faults.NotJudgeable = (length tasks ≡ 0) ⊎ (16 < bank.parts)
  PlanBreaks faults.NoWindow = (i : ℕ) × (i < length tasks) × Unbounded i
  PlanBreaks other = ⊥

  -- the verdict on these tasks below that bank, and the bounds that go with it
  abbrev pub Judged : Verdict → List ℕ → Type 0
  Judged (Accepted k) bounds = (k ≡ length tasks) × (1 ≤ k) × (bank.parts ≤ 16) × ((i : ℕ) → i < k → Bounded i (slice_index bounds i))
  Judged NotJudgeable bounds = (length tasks ≡ 0) ⊎ (16 < bank.parts)
  Judged (Late k) bounds = (bank.parts ≤ 16) × (1 ≤ k) × (k ≤ length tasks) × ((i : ℕ) → i + 1 < k → (w : ℕ) × Bounded i w) × ((i : ℕ) → i + 1 ≡ k → Unbounded i)

  -- the list that goes with a verdict: the window of each task that has one by it, and 0 behind them
  pub record Filled (v : Verdict) (bounds : List ℕ) : Type 0 where
    pub windows : (i : ℕ) → i < windows_told v → Bounded i (slice_index bounds i)
    pub rest : (i : ℕ) → windows_told v ≤ i → slice_index bounds i ≡ 0

  -- no other verdict can be given, and no other bounds
  abbrev pub OnlyJudged : Verdict → List ℕ → Type 0
  OnlyJudged v bounds = (v' : Verdict) (bounds' : List ℕ) → Judged v' bounds' → (v' ≡ v) × ((i : ℕ) → i < bounds_told v → slice_index bounds' i ≡ slice_index bounds i)

-- the same tasks with the same blocking, and with no deadline lower
pub record Raised (tasks tasks' : List Task) : Type 0 where
  pub rows : rows_of tasks' ≡ rows_of tasks
  pub blockings : (i : ℕ) → i < length tasks → (task_at tasks' i).limit.blocking ≡ (task_at tasks i).limit.blocking
  pub deadlines : (i : ℕ) → i < length tasks → (task_at tasks i).limit.deadline ≤ (task_at tasks' i).limit.deadline

-- a higher deadline never turns an accepted plan into a refused one, and the bounds stay
abbrev pub StaysAccepted : Work → List Task → Verdict → List ℕ → Type 0
StaysAccepted bank tasks v bounds = (tasks' : List Task) → Raised tasks tasks' → v ≡ Accepted (length tasks) → Judged bank tasks' v bounds
