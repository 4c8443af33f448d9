use Rattle.std.proofs.Common.{◌≡◌, sym, subst, rules}
use Rattle.plan.specs.Tasks.{side_by_side}
use Rattle.run.specs.Runs.{Now, Held, started}
use Rattle.run.proofs.Held.{held_start}
use Rattle.run.proofs.Run.start.Goals as goal

pub invariant_of-result-2 : goal.invariant_of-result-2
invariant_of-result-2 g c =
    let plan = c.into_parts-plan.result in
    let terms = c.new-terms.result in
    let made : Now g.row.G.Denot = record { bank = plan.bank; tasks = side_by_side c.into_parts-table.result.0.list terms.limits; bounds = terms.bounds; parts = terms.parts; state = c.at_start.result } in
    let seen : made ≡ started g.G.Source.work c.args.judged = search rules in
    subst (Held g.G.Source.work) (sym seen) (held_start g.G.Source.work c.args.judged c.into_parts-plan.ensures.by_judge)
