use Rattle.std.proofs.Common.{◌+◌, ◌*◌, ◌≤◌, take}
use Rattle.listing.specs.Put.{Puts}
use Rattle.listing.specs.Texts.{task_lines}
use Rattle.listing.proofs.pieces.Text.put_tasks.Given as goal

abbrev pub invariant-loop-place : goal.invariant-loop-place
invariant-loop-place l = Puts l.initial.self l.self (task_lines (take l.place l.marks.tasks)) × (l.self.end ≤ l.initial.self.end + 79 * l.place)
