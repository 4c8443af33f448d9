use Rattle.std.proofs.Common.{◌≡◌, ◌+◌, ◌≤◌, length, Some}
use Rattle.words.specs.Split.{pieces}
use Rattle.sheet.specs.Reading.{read_on}
use Rattle.sheet.proofs.reading.read_on.Given as goal

-- what is left gives what all lines after the first give
abbrev pub invariant-loop-rest : goal.invariant-loop-rest
invariant-loop-rest l = (l.lines + length l.rest ≤ length l.sheet + 1) × (read_on l.lines (Some l.draft) (pieces 10 l.rest) ≡ read_on 1 (Some l.fn.draft) (pieces 10 l.sheet))

abbrev pub decreases-loop-rest : goal.decreases-loop-rest
decreases-loop-rest l = length l.rest
