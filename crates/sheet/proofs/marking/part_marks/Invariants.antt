use Rattle.std.proofs.Common.{◌≡◌, ◌+◌, ◌-◌, ◌≤◌, [], length, map, take}
use Rattle.paced.specs.Loads.{row_load}
use Rattle.sheet.proofs.marking.part_marks.Given as goal

abbrev pub invariant-loop-part : goal.invariant-loop-part
invariant-loop-part l =
    (l.marks ≡ record { parts = map row_load (take (l.part - 1) l.bank.left.list); tasks = [] })
    × (1 ≤ l.part)
    × (l.part ≤ length l.bank.left.list + 1)
