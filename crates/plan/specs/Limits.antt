-- Which tasks a plan takes: what is wrong with the limits of one task more, its blocking, deadline and longest hold.
use Rattle.std.specs.Prelude.{◌≡◌, ℕ, ◌+◌, ◌-◌, ◌<◌, ◌≤◌, ◌⊎◌, Bool, cond, ◌&&◌, List, [], ◌∷◌, Some, None, Option, length, nat_le}
use Rattle.std.specs.List.{list_all, Any}
use Rattle.refusal.specs.Table.{first_of}
use Rattle.refusal.specs.declared.Fault.{Fault}
use Rattle.refusal.specs.declared.Fault.TheVariants.{TooMany, OutOfRange, Misfit, HoldAboveBlocking}
use Rattle.paced.specs.Makes.{Asked, in_range, adding, PaceBreaks}
use Rattle.plan.specs.Tasks.{Task, limits_of}
use Rattle.plan.specs.declared.tasks.Limit.{Limit}

-- a hold of h units is at most the blocking of each of the tasks
abbrev pub bearable : List Task → ℕ → Bool
bearable tasks h = list_all (λ limit. nat_le h limit.blocking) (limits_of tasks)

-- limits whose numbers may be given: the deadline from 1 to 1,000,000, blocking and hold at most that
abbrev pub limits_right : Limit → Bool
limits_right l = in_range l.deadline && (nat_le l.blocking 1000000 && nat_le l.hold 1000000)

-- what is wrong with the limits l of one task more, of whose paced part that is asked, the fault with the smallest number first
abbrev pub limit_fault : List Task → Asked → Limit → Option Fault
limit_fault tasks a l = cond (limits_right l) (cond (nat_le (l.deadline + a.jitter) a.period) (cond (bearable tasks l.hold) None (Some HoldAboveBlocking)) (Some Misfit)) (Some OutOfRange)

-- which rules one task more breaks, each told by its fault: a 17th task or more than 8 costs; a number of its pace that may not be given, a
-- deadline of 0, or a blocking, deadline or hold above 1,000,000; a jitter that is not below the period or a deadline above period less
-- jitter; a hold above the blocking of an earlier task
unfoldable pub TaskBreaks : List Task → Asked → Limit → Fault → Type 0
TaskBreaks tasks a l TooMany = (16 ≤ length tasks) ⊎ PaceBreaks a TooMany
TaskBreaks tasks a l OutOfRange = PaceBreaks a OutOfRange ⊎ (l.deadline ≡ 0) ⊎ Any (λ number. 1000000 < number) (l.blocking ∷ l.deadline ∷ l.hold ∷ [])
TaskBreaks tasks a l Misfit = PaceBreaks a Misfit ⊎ (a.period - a.jitter < l.deadline)
TaskBreaks tasks a l HoldAboveBlocking = Any (λ earlier. earlier.limit.blocking < l.hold) tasks
TaskBreaks tasks a l other = ⊥

-- what is wrong with one task more
abbrev pub task_fault : List Task → Asked → Limit → Option Fault
task_fault tasks a l = first_of (adding 16 (length tasks) a) (limit_fault tasks a l)
