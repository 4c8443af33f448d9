use Rattle.std.proofs.Common.{◌≡◌, ℕ, ◌<◌, length, get_or}
use Rattle.sheet.specs.Marking.{part_loads, mark_at}
use Rattle.sheet.proofs.Telling.{unmarked}
use Rattle.sheet.proofs.marking.marks_of.Given as goal

abbrev pub invariant-loop-place : goal.invariant-loop-place
invariant-loop-place l =
    (l.marks.parts ≡ part_loads l.judged.plan.bank.left.list l.judged.plan.bank.right.timetable)
    × (length l.marks.tasks ≡ l.place)
    × ((i : ℕ) → i < l.place → get_or l.marks.tasks i unmarked ≡ mark_at l.judged.plan.tasks l.judged.bounds i)
