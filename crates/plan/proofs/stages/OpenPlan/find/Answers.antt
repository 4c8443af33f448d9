use Rattle.std.proofs.Common.{◌<◌, length, ◌∙◌, arith, length-set}
use Rattle.plan.specs.Judged.{Bounded}
use Rattle.plan.proofs.Bounds.{bound_more, rest_more}
use Rattle.plan.proofs.stages.OpenPlan.find.Goals as goal

pub loop-place-preserved : goal.loop-place-preserved
loop-place-preserved g c =
    let b = c.args.self.now.bank in
    let t = c.args.self.now.tasks in
    let inv = c.loop-place.invariant in
    let room : c.loop-place.place < length c.loop-place.bounds = omega (arith, inv.0, c.count-count.ensures.count, c.count-count.ensures.fitting.few) in (
      length-set c.loop-place.bounds c.loop-place.place c.in-Some.ticks ∙ inv.0,
      bound_more (Bounded (g.S.Source.work b) t) c.loop-place.bounds c.loop-place.place c.in-Some.ticks room inv.1 c.in-Some.ensures,
      rest_more c.loop-place.bounds c.loop-place.place c.in-Some.ticks inv.2,
    )
