use Rattle.std.proofs.Common.{◌≡◌, length, ap, ◌∙◌}
use Rattle.std.proofs.lemmas.List.{length-map}
use Rattle.refusal.specs.Table.{first_of}
use Rattle.paced.specs.Makes.{asked, adding}
use Rattle.plan.specs.Limits.{task_fault}
use Rattle.plan.proofs.Breaking.{task_broken}
use Rattle.plan.proofs.tasks.Tasks.fault.Goals as goal

pub returns-clause-first : goal.returns-clause-first
returns-clause-first c =
    let tasks = c.args.self.now in
    let long : length c.parts.result.now.list ≡ length tasks = ap length c.parts.ensures ∙ length-map tasks (λ t. t.row) in
    let found : c.first_fault.result ≡ task_fault tasks (asked c.args.pace) c.args.limit = c.first_fault.ensures ∙ (λ i. first_of ((c.fault.ensures.answer ∙ ap (λ n. adding 16 n (asked c.args.pace)) long) i) (c.limit_fault.ensures i)) in
    task_broken tasks (asked c.args.pace) c.args.limit c.first_fault.result found
