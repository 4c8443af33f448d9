use Rattle.std.proofs.Common.{◌≤◌, length, ◌∙◌, arith}
use Rattle.paced.proofs.Runs.{front_top}
use Rattle.paced.proofs.row.Row.largest_cost.Goals as goal

pub returns : goal.returns
returns c =
    let r = c.args.self.now in
    let short : r.count ≤ length r.costs = omega arith in
    c.largest.ensures ∙ front_top r.costs r.count short
