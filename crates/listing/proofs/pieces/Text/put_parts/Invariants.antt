use Rattle.std.proofs.Common.{◌+◌, ◌*◌, ◌≤◌, take}
use Rattle.listing.specs.Put.{Puts}
use Rattle.listing.specs.Texts.{part_lines}
use Rattle.listing.proofs.pieces.Text.put_parts.Given as goal

abbrev pub invariant-loop-place : goal.invariant-loop-place
invariant-loop-place l = Puts l.initial.self l.self (part_lines (take l.place l.marks.parts)) × (l.self.end ≤ l.initial.self.end + 42 * l.place)
