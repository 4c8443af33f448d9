-- The rows of a timeline: one cell for each tick that passed, told by what the log of the run says before it.
use Rattle.std.specs.Prelude.{◌≡◌, ℕ, ◌+◌, ◌/◌, ◌%◌, Bool, false, cond, List, [], ◌∷◌, ◌++◌, Some, None, Option, is_some, ◌==◌, nat_le, nat_lt, length, slice_index}
use Rattle.calls.specs.declared.Call.{Call}
use Rattle.calls.specs.declared.Call.TheVariants.{Tick}
use Rattle.calls.specs.declared.Got.{Got}
use Rattle.calls.specs.declared.Got.TheVariants.{Part, Task}
use Rattle.calls.specs.declared.Answer.{Answer}
use Rattle.calls.specs.declared.Answer.TheVariants.{Ticked}
use Rattle.calls.specs.Events.{Event, let_in_part}
use Rattle.calls.specs.Jobs.{Job, job_of}
use Rattle.calls.specs.Rules.{NeverLate}

-- whether it was part k that got the unit, and whether it was task i
abbrev pub is_part : ℕ → Got → Bool
is_part k (Part j) = j == k
is_part k _ = false

abbrev pub is_task : ℕ → Got → Bool
is_task i (Task j a) = j == i
is_task i _ = false

-- the units that a call with that answer gives part k: one in a tick that passed and gave it to that part
abbrev pub given_in : ℕ → Call → Answer → ℕ
given_in k Tick (Ticked got) = cond (is_part k got) 1 0
given_in k _ _ = 0

-- all that the calls of a log gave part k
abbrev pub given : ℕ → List Event → ℕ
given k [] = 0
given k (e ∷ log) = given_in k e.call e.answer + given k log

-- whether part k has backlog after these calls of a run that began with none: more was let in for it than it was given
abbrev pub has_backlog : ℕ → List Event → Bool
has_backlog k log = nat_lt (given k log) (let_in_part k log)

-- the units that are left of a job, if it is pending
abbrev pub left_of : Option Job → Option ℕ
left_of None = None
left_of (Some j) = Some j.left

-- What stands in the row of part k for a tick of which that one got the unit, where waits says whether the part has backlog: # if
-- the part got it, - if it waits, else a dot.
abbrev pub part_mark : ℕ → Bool → Got → ℕ
part_mark k waits got = cond (is_part k got) 35 (cond waits 45 46)

-- And in the row of task i, of whose job so many units are left, if one is pending: ! if the task got the last of them, # if it
-- got another one, - if its job waits, else a dot.
abbrev pub task_mark : ℕ → Option ℕ → Got → ℕ
task_mark i None got = cond (is_task i got) 35 46
task_mark i (Some u) got = cond (is_task i got) (cond (nat_le u 1) 33 35) 45

-- the same for a tick with that log before it
abbrev pub part_cell : ℕ → List Event → Got → ℕ
part_cell k before got = part_mark k (has_backlog k before) got

abbrev pub task_cell : ℕ → List Event → Got → ℕ
task_cell i before got = task_mark i (left_of (job_of i before)) got

-- 1 for a tick that passed, 0 for any other call
abbrev pub passed_in : Call → Answer → ℕ
passed_in Tick (Ticked got) = 1
passed_in _ _ = 0

-- how many ticks passed
abbrev pub passed : List Event → ℕ
passed [] = 0
passed (e ∷ log) = passed_in e.call e.answer + passed log

-- What stands in the ruler for the n-th tick: at each tenth the last digit of n / 10, half way between two of them +, else -.
abbrev pub ruler_mark : ℕ → ℕ
ruler_mark n = cond (n % 10 == 0) (48 + n / 10 % 10) (cond (n % 5 == 0) 43 45)

abbrev pub ruler_cell : List Event → Got → ℕ
ruler_cell before got = ruler_mark (passed before + 1)

-- what a call with that answer adds to a row: a cell if it is a tick that passed, else nothing
abbrev pub added : (Got → ℕ) → Call → Answer → List ℕ
added cell Tick (Ticked got) = cell got ∷ []
added cell _ _ = []

-- what the calls of a log add to it, one after another, with these calls before them
abbrev pub cells : (List Event → Got → ℕ) → List Event → List Event → List ℕ
cells cell before [] = []
cells cell before (e ∷ log) = added (cell before) e.call e.answer ++ cells cell (before ++ (e ∷ [])) log

-- the ruler, the row of part k and that of task i
abbrev pub ruler : List Event → List ℕ
ruler log = cells ruler_cell [] log

abbrev pub part_row : ℕ → List Event → List ℕ
part_row k log = cells (part_cell k) [] log

abbrev pub task_row : ℕ → List Event → List ℕ
task_row i log = cells (task_cell i) [] log

-- The law of a row: it has as many cells as ticks passed; and cut the log before any of these ticks, then the cell with as many
-- others before it as ticks passed before the cut is the one that the calls before the cut tell.
pub record RowOf (cell : List Event → Got → ℕ) (log : List Event) (row : List ℕ) : Type 0 where
  pub many : length row ≡ passed log
  pub each : (before rest : List Event) (got : Got) → log ≡ before ++ (record { call = Tick; answer = Ticked got } ∷ rest) → slice_index row (passed before) ≡ cell before got

-- In the log of a run that is never late, the row of task i has ! just where an answer tells the age of a job that ended, and #
-- where the task got a unit and the answer tells none.
abbrev pub ShowsEnds : ℕ → List Event → List ℕ → Type 0
ShowsEnds i log row = (bound : ℕ → ℕ) → NeverLate bound log → (before rest : List Event) (a : Option ℕ) → log ≡ before ++ (record { call = Tick; answer = Ticked (Task i a) } ∷ rest) → slice_index row (passed before) ≡ cond (is_some a) 33 35
