use Rattle.std.proofs.Common.{◌≡◌, ℕ, length, set, Some, None, ap, sym, ◌∙◌, rules, arith}
use Rattle.refusal.specs.Refusals.{refusal_of}
use Rattle.paced.specs.Makes.{asked, adding}
use Rattle.plan.specs.Limits.{task_fault}
use Rattle.plan.proofs.Adding.{part_clean, grown, grown_stored}
use Rattle.plan.proofs.Sides.{seen_count}
use Rattle.plan.proofs.tasks.Tasks.add.Goals as goal

-- where the call goes on, nothing is wrong with the task
clean : (c : goal.After-self-1) → task_fault c.args.self.now (asked c.args.pace) c.args.limit ≡ None
clean c = sym c.fault.ensures.answer ∙ search rules

-- so its paced part can be added
never : (c : goal.After-from_residual) → ⊥
never c =
    let s = c.self.inside in
    let tasks = c.args.self.now in
    let a = asked c.args.pace in
    let fine : task_fault tasks a c.args.limit ≡ None = sym c.fault.ensures.answer ∙ search rules in
    let count = seen_count s.parts s.limits c.self.invariant.sides tasks c.self.view_is in
    let none : Some c.in_err-add.field-0.0 ≡ None = c.in_err-add.ensures.answer ∙ ap (λ n. refusal_of (adding 16 n a) 0) count ∙ ap (λ f. refusal_of f 0) (part_clean tasks a c.args.limit fine) in
    let z : ◌≡◌ {A = ℕ} 0 1 = cc in
    absurd (omega arith)

pub returns-in_err-add-clause-answer : goal.returns-in_err-add-clause-answer
returns-in_err-add-clause-answer c = absurd (never c)

pub returns-in_err-add-clause-first : goal.returns-in_err-add-clause-first
returns-in_err-add-clause-first c = absurd (never c)

limits : (c : goal.After-self-1) → c.with_limit-self-inside.result ≡ set c.self.inside.limits (length c.args.self.now) c.args.limit
limits c = c.with_limit-self-inside.ensures ∙ ap (λ n. set c.self.inside.limits n c.args.limit) c.count-place.ensures.count

pub invariant_of-self-2 : goal.invariant_of-self-2
invariant_of-self-2 c =
    let s = c.self.inside in
    grown_stored s.parts s.limits c.self.invariant c.args.self.now c.self.view_is (asked c.args.pace) c.args.limit (clean c) c.add.new.self.list c.with_limit-self-inside.result c.in_ok-add.ensures.added (limits c)

pub returns-clause-added : goal.returns-clause-added
returns-clause-added c =
    let s = c.self.inside in
    grown s.parts s.limits c.self.invariant.sides c.args.self.now c.self.view_is (asked c.args.pace) c.args.limit (clean c) c.add.new.self.list c.with_limit-self-inside.result c.in_ok-add.ensures.added (limits c)
