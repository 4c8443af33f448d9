-- The text of each kind of listing, and why one is not written.
use Rattle.std.specs.Prelude.{ℕ, ◌<◌, ◌≤◌, List, ◌++◌, if◌then◌else◌, nat_lt, Some, None, Option, Ok, Err, Result, length}
use Rattle.refusal.specs.declared.Fault.{Fault}
use Rattle.refusal.specs.declared.Fault.TheVariants.{BufferTooShort}
use Rattle.refusal.specs.declared.Refusal.{Refusal}
use Rattle.listing.specs.declared.marks.TaskMark.{TaskMark}
use Rattle.listing.specs.Texts.{accepted_line, part_lines, task_lines, refusal_text}

-- what is told of an accepted plan: the loads of its parts, and its tasks, in their order
pub record Marked : Type 0 where
  pub parts : List ℕ
  pub tasks : List TaskMark

-- at most as many parts and tasks as a plan has
pub record Few (marks : Marked) : Type 0 where
  pub parts : length marks.parts ≤ 9
  pub tasks : length marks.tasks ≤ 16

-- the count of the tasks, then the parts, then the tasks
abbrev pub marks_text : Marked → List ℕ
marks_text marks = accepted_line (length marks.tasks) ++ (part_lines marks.parts ++ task_lines marks.tasks)

abbrev pub listing_text : Result Marked Refusal → List ℕ
listing_text (Ok marks) = marks_text marks
listing_text (Err refusal) = refusal_text refusal

-- the refusal of a buffer that is too short for a listing
abbrev pub too_short : Refusal
too_short = record { fault = BufferTooShort; line = 0; task = 0 }

-- why a buffer of so many bytes is refused, if it is
abbrev pub room_refusal : ℕ → Option Refusal
room_refusal bytes = if nat_lt bytes 2048 then Some too_short else None

-- which rules a buffer of so many bytes breaks, into which a listing is to be written
unfoldable pub BufferBreaks : ℕ → Fault → Type 0
BufferBreaks bytes BufferTooShort = bytes < 2048
BufferBreaks bytes other = ⊥
