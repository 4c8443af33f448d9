use Rattle.std.proofs.Common.{◌≡◌}
use Rattle.cycles.specs.Round.{top}
use Rattle.paced.specs.Runs.{at}
use Rattle.paced.proofs.row.largest.Given as goal

abbrev pub invariant-loop-cost : goal.invariant-loop-cost
invariant-loop-cost l = l.most ≡ top (at l.costs) l.cost-index
