use Rattle.std.proofs.Common.{◌≡◌, ℕ, length, ap, ◌∙◌, arith}
use Rattle.std.proofs.lemmas.List.{length-take-le}
use Rattle.plan.specs.Judged.{bounds_told}
use Rattle.sheet.specs.Drafts.{plan_view}
use Rattle.sheet.proofs.Telling.{marks_same}
use Rattle.sheet.proofs.marking.marks_of.Goals as goal

pub returns : goal.returns
returns c =
    let j = c.args.judged.now in
    let p = plan_view j.plan in
    let so_far = c.loop-place.invariant in
    let all : bounds_told j.verdict ≡ length p.tasks = ap bounds_told c.requires in
    let end : c.loop-place.place ≡ length p.tasks = omega (arith, c.bounds-count.ensures.count, c.bounds-count.ensures.by_judge.fitting.few, length-take-le {A = ℕ}) in
    let tasks = marks_same p.tasks j.bounds c.loop-place.marks.tasks (so_far.1 ∙ end) (λ i h. so_far.2 i (omega arith)) in
    λ i. record { parts = so_far.0 i; tasks = tasks i }
