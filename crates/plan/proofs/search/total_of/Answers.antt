use Rattle.std.proofs.Common.{◌≡◌, ◌+◌, ap, ◌∙◌, arith}
use Rattle.plan.specs.Needs.{total}
use Rattle.plan.proofs.Totals.{asked, total_small}
use Rattle.plan.proofs.search.total_of.Goals as goal

pub overflow_add-all : goal.overflow_add-all
overflow_add-all g c =
    let s = c.args.source.now in
    let w = g.S.Source.work s in
    let sound = g.met.S.Source.sound s in
    let k = c.loop-place.place in
    let l = c.args.ticks in
    let here = asked w.parts k l (w.demand (k + 1) l) c.demand.result (omega arith) c.requires.window c.demand.ensures in
    omega (arith, here, c.unwrap_or-all.ensures, c.loop-place.invariant, sound.small (k + 1) l c.requires.window, total_small w (g.S.Source.allowed s) sound k l c.requires.window)

pub returns : goal.returns
returns g c =
    let s = c.args.source.now in
    let w = g.S.Source.work s in
    let sound = g.met.S.Source.sound s in
    let l = c.args.ticks in
    let end : c.loop-place.place ≡ c.args.parts = omega arith in
    let value : c.loop-place.all ≡ total w c.args.parts l = c.loop-place.invariant ∙ ap (λ k. total w k l) end in
    record { value = value; small = omega (arith, value, total_small w (g.S.Source.allowed s) sound c.args.parts l c.requires.window) }
