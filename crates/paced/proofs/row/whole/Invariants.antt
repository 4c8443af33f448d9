use Rattle.std.proofs.Common.{◌≡◌}
use Rattle.cycles.specs.Round.{sum}
use Rattle.paced.specs.Runs.{at}
use Rattle.paced.proofs.row.whole.Given as goal

abbrev pub invariant-loop-cost : goal.invariant-loop-cost
invariant-loop-cost l = l.all ≡ sum (at l.costs) l.cost-index
