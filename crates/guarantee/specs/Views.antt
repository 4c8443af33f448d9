-- A plan and a run as the two rules see them: numbers and functions of the number of a part or task, from 1.
use Rattle.std.specs.Prelude.{ℕ, ◌-◌, List, slice_index}
use Rattle.source.specs.Facts.{Work}
use Rattle.paced.specs.Pace.{largest_cost}
use Rattle.paced.specs.Tables.{work_in}
use Rattle.plan.specs.Plans.{Plan}
use Rattle.plan.specs.Tasks.{task_at, rows_of}
use Rattle.calls.specs.States as model
use Rattle.run.specs.Runs.{Now, tasks_allowed}
use Rattle.run.specs.States.{backlog_of, left_of, age_of, hold_of, holder, held}
use Rattle.run.specs.declared.state.State.{State}

-- the bound of task i
abbrev pub bound_of : List ℕ → ℕ → ℕ
bound_of bounds i = slice_index bounds (i - 1)

-- a plan with these bounds; ages are kept in 32 bits
abbrev pub model_of : {S : Type 0} → (S → Work) → Plan S → List ℕ → model.Plan
model_of work plan bounds = record {
  bank = work plan.bank;
  tasks = work_in (rows_of plan.tasks);
  blocking = λ i. (task_at plan.tasks (i - 1)).limit.blocking;
  hold = hold_of plan.tasks;
  cost = λ i. largest_cost (task_at plan.tasks (i - 1)).row;
  bound = bound_of bounds;
  cap = 4294967295;
}

-- a state of a run whose bank has the allowance a, and whose tasks have b
abbrev pub view_of : (ℕ → ℕ → ℕ) → (ℕ → ℕ → ℕ) → State → model.State
view_of a b s = record { bank = a; tasks = b; backlog = backlog_of s.backlogs; left = left_of s.jobs; age = age_of s.jobs; holder = holder s; held = held s }

-- a run whose bank has that allowance
abbrev pub seen : {S : Type 0} → (S → ℕ → ℕ → ℕ) → Now S → model.State
seen allowed r = view_of (allowed r.bank) (tasks_allowed r) r.state
