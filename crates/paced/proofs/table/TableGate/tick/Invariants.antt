use Rattle.std.proofs.Common.{◌≡◌, ◌++◌, map, take, drop}
use Rattle.paced.specs.Pace.{later}
use Rattle.paced.proofs.table.TableGate.tick.Given as goal

abbrev pub invariant-loop-row : goal.invariant-loop-row
invariant-loop-row g l = l.row-items ≡ map later (take l.row-index l.initial.row-items) ++ drop l.row-index l.initial.row-items
