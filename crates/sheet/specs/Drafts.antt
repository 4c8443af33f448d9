-- What the lines of a sheet make of a plan, one after another.
use Rattle.std.specs.Prelude.{ℕ, ◌+◌, cond, ◌&&◌, List, [], ◌∷◌, ◌++◌, length, Some, None, Ok, Err, Option, Result, ◌==◌}
use Rattle.refusal.specs.Refusals.{plain, refusal_of}
use Rattle.refusal.specs.declared.Fault.TheVariants.{BadLine}
use Rattle.refusal.specs.declared.Refusal.{Refusal}
use Rattle.source.specs.declared.pair.Pair.{Pair}
use Rattle.paced.specs.Makes.{Asked, adding, fresh}
use Rattle.paced.specs.Tables.{FitRows}
use Rattle.paced.specs.declared.row.Row.{Row}
use Rattle.schedule.specs.Makes as schedules
use Rattle.schedule.specs.Phases.{Timetable, FitTimetable}
use Rattle.plan.specs.Limits.{task_fault}
use Rattle.plan.specs.Plans as plans
use Rattle.plan.specs.Tasks.{Task, made}
use Rattle.plan.specs.declared.tasks.Limit.{Limit}
use Rattle.lines.specs.Rows.{Said, cycle, at, irq, task}

-- a plan as far as the rules go: the timetable of its schedule, its interrupts and its tasks
pub record Plan : Type 0 where
  pub timetable : Timetable
  pub irqs : List Row
  pub tasks : List Task

-- what these rules see of a plan whose bank is a rack beside a schedule
abbrev pub plan_view : plans.Plan (Pair (FitRows 8) FitTimetable) → Plan
plan_view p = record { timetable = p.bank.right.timetable; irqs = p.bank.left.list; tasks = p.tasks }

-- a cycle line opens a plan with no pair, no interrupt and no task
abbrev pub opened : ℕ → Plan
opened c = record { timetable = schedules.opened c; irqs = []; tasks = [] }

abbrev pub with_pair : Plan → ℕ → ℕ → Plan
with_pair p o z = record p { timetable = schedules.with_pair p.timetable o z }

abbrev pub with_irq : Plan → Asked → Plan
with_irq p a = record p { irqs = p.irqs ++ fresh a ∷ [] }

abbrev pub with_task : Plan → Asked → Limit → Plan
with_task p a l = record p { tasks = p.tasks ++ made a l ∷ [] }

-- the plan, unless there is a refusal
abbrev pub unless : Option Refusal → Plan → Result Plan Refusal
unless None p = Ok p
unless (Some e) p = Err e

-- what each kind of line makes of a plan: pairs come before interrupts, and these before tasks
abbrev pub cycle_line : ℕ → Result Plan Refusal
cycle_line c = unless (refusal_of (schedules.cycle_fault c) 0) (opened c)

abbrev pub pair_line : Plan → ℕ → ℕ → Result Plan Refusal
pair_line p o z =
    cond (length p.irqs == 0 && length p.tasks == 0)
    (unless (refusal_of (schedules.pair_fault p.timetable o z) 0) (with_pair p o z))
    (Err (plain BadLine))

abbrev pub irq_line : Plan → Asked → Result Plan Refusal
irq_line p a = cond (length p.tasks == 0) (unless (refusal_of (adding 8 (length p.irqs) a) 0) (with_irq p a)) (Err (plain BadLine))

-- a task that is refused is named by the number that it would have had
abbrev pub task_line : Plan → Asked → Limit → Result Plan Refusal
task_line p a l = unless (refusal_of (task_fault p.tasks a l) (length p.tasks + 1)) (with_task p a l)

-- what the first line makes: it has to be a cycle line
abbrev pub begin_with : Said → Result Plan Refusal
begin_with (cycle c) = cycle_line c
begin_with (at o z) = Err (plain BadLine)
begin_with (irq t j cs) = Err (plain BadLine)
begin_with (task t j b d h cs) = Err (plain BadLine)

-- what a later line makes of the plan
abbrev pub go_on_with : Plan → Said → Result Plan Refusal
go_on_with p (cycle c) = Err (plain BadLine)
go_on_with p (at o z) = pair_line p o z
go_on_with p (irq t j cs) = irq_line p (record { period = t; jitter = j; costs = cs })
go_on_with p (task t j b d h cs) =
    task_line p (record { period = t; jitter = j; costs = cs }) (record { blocking = b; deadline = d; hold = h })
