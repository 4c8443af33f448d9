use Rattle.std.proofs.Common.{◌≡◌, ℕ, ◌<◌, ap, ◌∙◌, subst, arith}
use Rattle.plan.specs.Needs.{needed}
use Rattle.plan.specs.Tasks.{task_at, Fitting}
use Rattle.plan.proofs.Climbing.{task_rises, climbs, none_within}
use Rattle.plan.proofs.stages.OpenPlan.window_of.Goals as goal

pub returns-then-need-from-2 : goal.returns-then-need-from-2
returns-then-need-from-2 g c =
    let b = c.args.self.now.bank in
    let t = c.args.self.now.tasks in
    let f : ℕ → ℕ = needed (g.S.Source.work b) t c.args.place in
    let fitting = subst Fitting (ap (λ p. p.tasks) c.self.view_is) c.deadline-deadline.ensures.fitting in
    let rises = task_rises (g.S.Source.work b) (g.S.Source.allowed b) (g.met.S.Source.sound b) t fitting c.args.place in
    let deadline : c.deadline-deadline.result ≡ (task_at t c.args.place).limit.deadline = c.deadline-deadline.ensures.value ∙ ap (λ p. (task_at p.tasks c.args.place).limit.deadline) c.self.view_is in
    let late : c.deadline-deadline.result < f c.loop-ticks.ticks = omega (arith, c.need_of-need.ensures, c.from-in-loop-ticks.ensures) in
    λ l h k. none_within f rises c.loop-ticks.ticks c.loop-ticks.invariant.1 c.deadline-deadline.result late l h (omega (arith, deadline))

pub loop-ticks-preserved : goal.loop-ticks-preserved
loop-ticks-preserved g c =
    let b = c.args.self.now.bank in
    let t = c.args.self.now.tasks in
    let fitting = subst Fitting (ap (λ p. p.tasks) c.self.view_is) c.deadline-deadline.ensures.fitting in
    let rises = task_rises (g.S.Source.work b) (g.S.Source.allowed b) (g.met.S.Source.sound b) t fitting c.args.place in
    (omega arith, λ m h l. climbs _ rises c.loop-ticks.ticks c.loop-ticks.invariant.1 m h (omega (arith, c.need_of-need.ensures)))
