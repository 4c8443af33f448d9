use Rattle.std.proofs.Common.{◌*◌, ◌≤◌, length, ap, ◌∙◌, arith}
use Rattle.loads.specs.Share.{load_of}
use Rattle.paced.proofs.Runs.{front_sum}
use Rattle.paced.proofs.row.Row.load.Goals as goal

pub returns : goal.returns
returns c =
    let r = c.args.self.now in
    let short : r.count ≤ length r.costs = omega arith in
    c.load.ensures.value ∙ ap (λ units. load_of units (r.period * r.count)) (c.whole.ensures ∙ front_sum r.costs r.count short)
