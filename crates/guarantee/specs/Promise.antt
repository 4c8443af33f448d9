-- What is promised of a run: which plans are acceptable, and that the log of a run of such a plan keeps both rules.
use Rattle.std.specs.Prelude.{ℕ, ◌<◌, ◌≤◌, List, length}
use Rattle.source.specs.Facts.{Work, Moves}
use Rattle.paced.specs.Tables.{work_in}
use Rattle.plan.specs.Needs.{needed}
use Rattle.plan.specs.Plans.{Plan, Judgement, ByJudge}
use Rattle.plan.specs.Tasks.{task_at, rows_of}
use Rattle.calls.specs.Events.{Event, log_of}
use Rattle.calls.specs.Rules.{NeverLate, NeverMore}
use Rattle.calls.specs.States as model
use Rattle.calls.specs.Steps.{Leads}
use Rattle.calls.specs.declared.Answer.{Answer}
use Rattle.calls.specs.declared.Call.{Call}
use Rattle.run.specs.Runs.{Now, started}
use Rattle.run.specs.States.{at_start}
use Rattle.guarantee.specs.Playing.{Played}
use Rattle.guarantee.specs.Views.{bound_of, model_of, seen}

-- a plan with a task, over at most 16 parts, of which each task has a window within its deadline that holds what it needs; `work` tells
-- what a bank brings
pub record Acceptable {S : Type 0} (work : S → Work) (plan : Plan S) : Type 0 where
  pub some : 1 ≤ length plan.tasks
  pub few : (work plan.bank).parts ≤ 16
  pub windows : (i : ℕ) → i < length plan.tasks → (w : ℕ) × (1 ≤ w) × (needed (work plan.bank) plan.tasks i w ≤ w) × (w ≤ (task_at plan.tasks i).limit.deadline)

-- the log keeps both rules: no job of the plan's tasks is late by these bounds, and no more is let in than the demand of bank and tasks
pub record Keeps {S : Type 0} (work : S → Work) (plan : Plan S) (bounds : List ℕ) (log : List Event) : Type 0 where
  pub never_late : NeverLate (bound_of bounds) log
  pub never_more : NeverMore (work plan.bank).demand (work_in (rows_of plan.tasks)).demand log

-- the run r of a plan, as it was at its start
abbrev pub begun : {S : Type 0} → Plan S → Now S → Now S
begun plan r = record r { bank = plan.bank; tasks = plan.tasks; state = at_start }

-- the plan p of the model is accepted, s is a run of it at its start, and the calls of the log lead from s to t by the steps of
-- the model, which say for each call, part by part and task by task, what it changes, and for a tick who gets the unit
pub record ModelLeads (p : model.Plan) (s t : model.State) (log : List Event) : Type 0 where
  pub accepted : model.Accepted p
  pub fresh : model.Fresh s
  pub fits : model.Fits p s
  pub leads : Leads p s log t

-- the log leads from the start of the run r of a plan to r by the steps of the model
abbrev pub Modelled : {S : Type 0} → (S → Work) → (S → ℕ → ℕ → ℕ) → Plan S → Now S → List Event → Type 0
Modelled work allowed plan r log = ModelLeads (model_of work plan r.bounds) (seen allowed (begun plan r)) (seen allowed r) log

-- whoever makes calls on a run of a judged plan: if the plan is acceptable, the log of the calls keeps both rules
abbrev pub Promised : {S : Type 0} → (S → Work) → (S → ℕ → ℕ → ℕ) → Moves S → Type 0
Promised {S} work allowed moves =
    (judged : Judgement S) → ByJudge work judged → Acceptable work judged.plan → (calls : List Call) (answers : List Answer) (r : Now S) → Played allowed moves calls answers (started work judged) r → Keeps work judged.plan judged.bounds (log_of calls answers)
