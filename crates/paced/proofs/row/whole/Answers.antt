use Rattle.std.proofs.Common.{arith}
use Rattle.cycles.proofs.Rounds.{sum_least}
use Rattle.paced.specs.Runs.{at}
use Rattle.paced.proofs.row.whole.Goals as goal

pub overflow_add-all : goal.overflow_add-all
overflow_add-all c =
    let costs = c.args.costs.now in
    let i = c.loop-cost.cost-index in
    omega (arith, sum_least (at costs) i 1000000 (λ p _. c.requires.small p), c.requires.small i)
