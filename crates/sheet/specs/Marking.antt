-- The listing of a sheet: what the judge says of its plan, or why it is refused.
use Rattle.std.specs.Prelude.{◌≡◌, ℕ, ◌-◌, List, [], ◌∷◌, ◌++◌, Ok, Err, Result, length, map, slice_index}
use Rattle.std.specs.List.{range_with_len}
use Rattle.loads.specs.Share.{load_of}
use Rattle.refusal.specs.Refusals.{plain}
use Rattle.refusal.specs.declared.Fault.TheVariants as faults
use Rattle.refusal.specs.declared.Refusal.{Refusal}
use Rattle.source.specs.Facts.{Work}
use Rattle.source.specs.Rows.{work_one}
use Rattle.source.specs.Sides.{both}
use Rattle.paced.specs.Loads.{row_load}
use Rattle.paced.specs.Tables.{work_in}
use Rattle.paced.specs.declared.row.Row.{Row}
use Rattle.schedule.specs.Phases.{Timetable, total_length, timetables}
use Rattle.plan.specs.Judged.{Judged}
use Rattle.plan.specs.Tasks.{Task, task_at}
use Rattle.plan.specs.declared.verdict.Verdict.{Verdict}
use Rattle.plan.specs.declared.verdict.Verdict.TheVariants.{Accepted, NotJudgeable, Late}
use Rattle.listing.specs.Listings.{Marked, marks_text}
use Rattle.listing.specs.Texts.{refusal_text}
use Rattle.listing.specs.declared.marks.TaskMark.{TaskMark}
use Rattle.sheet.specs.Drafts.{Plan}
use Rattle.sheet.specs.Reading.{Sheet, on_line, read}

-- the bank of a sheet: its interrupts beside its schedule
abbrev pub bank_work : Plan → Work
bank_work p = both (work_in p.irqs) (work_one timetables p.timetable)

-- the loads of the parts: the interrupts in their order, then the schedule
abbrev pub part_loads : List Row → Timetable → List ℕ
part_loads irqs t = map row_load irqs ++ load_of (total_length t.pairs) t.cycle ∷ []

-- what is told of a task with that bound
abbrev pub task_mark : Task → ℕ → TaskMark
task_mark task bound = record { bound = bound; deadline = task.limit.deadline; load = row_load task.row }

-- what is told of the task at place i
abbrev pub mark_at : List Task → List ℕ → ℕ → TaskMark
mark_at tasks bounds i = task_mark (task_at tasks i) (slice_index bounds i)

-- what is told of all tasks, in their order
abbrev pub task_marks : List Task → List ℕ → List TaskMark
task_marks tasks bounds = map (mark_at tasks bounds) (range_with_len 0 (length tasks))

-- what is told of an accepted plan: its parts, and its tasks
abbrev pub marks_of : Plan → List ℕ → Marked
marks_of p bounds = record { parts = part_loads p.irqs p.timetable; tasks = task_marks p.tasks bounds }

-- the text of an accepted plan
abbrev pub accepted_plan : Plan → List ℕ → List ℕ
accepted_plan p bounds = marks_text (marks_of p bounds)

-- the line of task i of so many, on a sheet of so many lines: the tasks stand on the last ones
abbrev pub line_of : ℕ → ℕ → ℕ → ℕ
line_of lines tasks i = lines - (tasks - i)

-- what a verdict comes to, with the line of the task on a refusal
abbrev pub placed : ℕ → ℕ → Result ℕ Refusal → Result ℕ Refusal
placed lines tasks (Ok n) = Ok n
placed lines tasks (Err e) = Err (on_line (line_of lines tasks e.task) e)

-- the refusal of a plan for its task i of so many, with the line of that task
abbrev pub late : ℕ → ℕ → ℕ → Refusal
late lines tasks i = record { fault = faults.NoWindow; line = line_of lines tasks i; task = i }

-- the text for a verdict on the plan of a sheet of so many lines, and for the bounds that go with it
abbrev pub verdict_text : Plan → ℕ → Verdict → List ℕ → List ℕ
verdict_text p lines (Accepted n) bounds = accepted_plan p bounds
verdict_text p lines NotJudgeable bounds = refusal_text (plain faults.NotJudgeable)
verdict_text p lines (Late i) bounds = refusal_text (late lines (length p.tasks) i)

-- the text is the listing of what was read: of its verdict and its bounds, which are those of the judge
abbrev pub ListedAs : Result Sheet Refusal → List ℕ → Type 0
ListedAs (Err e) text = text ≡ refusal_text e
ListedAs (Ok s) text =
    (v : Verdict) × (bounds : List ℕ) × Judged (bank_work s.plan) s.plan.tasks v bounds × (text ≡ verdict_text s.plan s.lines v bounds)

-- the text is the listing of the sheet
abbrev pub Listed : List ℕ → List ℕ → Type 0
Listed sheet text = ListedAs (read sheet) text

-- a sheet has only one listing
abbrev pub OnlyListed : List ℕ → Type 0
OnlyListed sheet = (text other : List ℕ) → Listed sheet text → Listed sheet other → text ≡ other
