-- The worked figures of the sample plan, in four groups: its two bounds, what refuses it, and two loads.
use Rattle.std.specs.Prelude.{◌≡◌, ℕ, List, [], ◌∷◌, ◌++◌, false, codes}
use Rattle.loads.specs.Share.{load_of}
use Rattle.source.specs.Facts.{Work}
use Rattle.source.specs.Rows.{work_one}
use Rattle.source.specs.Sides.{both}
use Rattle.paced.specs.Loads.{row_load}
use Rattle.paced.specs.Makes.{Asked, fresh}
use Rattle.paced.specs.Tables.{work_in}
use Rattle.schedule.specs.Phases.{Timetable, timetables}
use Rattle.plan.specs.Judged.{Bounded, Judged}
use Rattle.plan.specs.Tasks.{Task, made}
use Rattle.plan.specs.declared.verdict.Verdict.TheVariants.{Accepted, Late}
use Rattle.sheet.specs.Marking.{Listed}
use Rattle.figures.specs.Worked.{early, jittery}

-- the schedule of the sample plan: pairs at 0 and 5 of a cycle of 12
abbrev pub timetable : Timetable
timetable = record { cycle = 12; pairs = early; phase = 0; taken = false }

-- its bank: the interrupt `jittery` beside that schedule
abbrev pub bank : Work
bank = both (work_in (jittery ∷ [])) (work_one timetables timetable)

-- what is asked of its lower task: period 60, jitter 5, costs 3 and 1 in turn
abbrev pub lower : Asked
lower = record { period = 60; jitter = 5; costs = 3 ∷ 1 ∷ [] }

-- its two tasks, the first with deadline d
abbrev pub tasks : ℕ → List Task
tasks d =
    made (record { period = 40; jitter = 0; costs = 2 ∷ [] }) (record { blocking = 2; deadline = d; hold = 0 })
    ∷ made lower (record { blocking = 0; deadline = 40; hold = 2 })
    ∷ []

-- lines, each with its line feed
abbrev pub text_of : List (List ℕ) → List ℕ
text_of [] = []
text_of (line ∷ lines) = line ++ (10 ∷ text_of lines)

-- the lines of the sample plan as a sheet, with this one for its first task
abbrev pub lines_with : List ℕ → List (List ℕ)
lines_with first =
    codes "cycle 12"
    ∷ codes "at 0 3"
    ∷ codes "at 5 2"
    ∷ codes "irq 10 2 1"
    ∷ first
    ∷ codes "task 60 5 0 40 2 3 1"
    ∷ []

-- the lines of its listing, if it is accepted
abbrev pub listing_lines : List (List ℕ)
listing_lines =
    codes "accepted 2"
    ∷ codes "part 1 load 1000"
    ∷ codes "part 2 load 4167"
    ∷ codes "task 1 bound 11 deadline 15 load 500"
    ∷ codes "task 2 bound 12 deadline 40 load 334"
    ∷ []

-- with deadline 15 the first task of the sample plan has bound 11
abbrev pub FirstBound : Type 0
FirstBound = Bounded bank (tasks 15) 0 11

-- and its second has bound 12, so the plan is accepted with these two
pub record SecondBound : Type 0 where
  pub bound : Bounded bank (tasks 15) 1 12
  pub judged : Judged bank (tasks 15) (Accepted 2) (11 ∷ 12 ∷ [])

-- with deadline 10 it is refused for task 1, as a plan and as a sheet
pub record TooLate : Type 0 where
  pub judged : Judged bank (tasks 10) (Late 1) []
  pub listed : Listed (text_of (lines_with (codes "task 40 0 2 10 0 2"))) (text_of (codes "refused 10 judge 5" ∷ []))

-- five units in twelve ticks, and costs 3 and 1 in two periods of 60; and the listing that prints these loads, with both bounds
pub record Loads : Type 0 where
  pub schedule : load_of 5 12 ≡ 4167
  pub task : row_load (fresh lower) ≡ 334
  pub listed : Listed (text_of (lines_with (codes "task 40 0 2 15 0 2"))) (text_of listing_lines)
