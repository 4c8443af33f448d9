use Rattle.std.proofs.Common.{◌≡◌, length}
use Rattle.cycles.specs.Round.{met}
use Rattle.paced.specs.Runs.{at, largest_from}
use Rattle.paced.proofs.Runs.{turn}
use Rattle.paced.proofs.row.largest_part.Given as goal

abbrev pub invariant-loop-place : goal.invariant-loop-place
invariant-loop-place l =
    (l.window ≡ met (length l.costs) (at l.costs) (turn (length l.costs) l.place) l.m)
    × (l.best ≡ largest_from (length l.costs) l.costs l.m l.place)
