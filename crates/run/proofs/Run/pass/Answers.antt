use Rattle.std.proofs.Common.{◌≡◌, sym, subst, ap, length, rules, arith}
use Rattle.calls.specs.Told.{told}
use Rattle.run.specs.Runs.{Held, due_in}
use Rattle.run.specs.Steps.{Placed}
use Rattle.run.specs.Told.{TickTold}
use Rattle.run.proofs.Calls.{after_tick, tick_facts, tick_passed}
use Rattle.run.proofs.Told.{tick_told}
use Rattle.run.proofs.Run.pass.Goals as goal

pub due-got-requires-clause-hold : goal.due-got-requires-clause-hold
due-got-requires-clause-hold g c h e =
    let within = c.self.invariant.known h e in
    (within.first, omega (arith, within.last, c.task_count.ensures.count, ap (λ r. length r.tasks) c.self.view_is))

pub invariant_of-self : goal.invariant_of-self
invariant_of-self g c =
    let s = c.self.inside in
    let placed : Placed c.due-got.result = search rules in
    after_tick g.G.Source.work s.bank s.table s.terms.limits s.room s.terms.bounds s.terms.parts s.state c.self.invariant c.tick_both.new.bank c.tick_both.new.tasks c.due-got.result c.tick_both.ensures.bank_kept c.tick_both.ensures.tasks_tick placed c.pass.new.self c.pass.ensures

pub returns-clause-passed : goal.returns-clause-passed
returns-clause-passed g c =
    let s = c.self.inside in
    tick_passed g.G.Source.work s.bank s.table s.terms.limits s.room s.terms.bounds s.terms.parts s.state g.G.Gate.moves c.tick_both.new.bank c.tick_both.new.tasks c.args.parts c.task_count.result c.due-got.result c.args.self.now c.self.view_is c.tick_both.ensures.bank_ticks c.tick_both.ensures.tasks_tick c.requires c.task_count.ensures.count c.due-got.ensures c.pass.new.self c.pass.ensures

pub returns-clause-tasks_ticked : goal.returns-clause-tasks_ticked
returns-clause-tasks_ticked g c =
    let s = c.self.inside in
    let facts = tick_facts g.G.Source.work s.bank s.table s.terms.limits s.room s.terms.bounds s.terms.parts s.state c.tick_both.new.tasks c.tick_both.ensures.tasks_ticked c.tick_both.ensures.tasks_kept c.args.self.now c.self.view_is in
    facts.0

pub returns-clause-tasks_kept : goal.returns-clause-tasks_kept
returns-clause-tasks_kept g c =
    let s = c.self.inside in
    let facts = tick_facts g.G.Source.work s.bank s.table s.terms.limits s.room s.terms.bounds s.terms.parts s.state c.tick_both.new.tasks c.tick_both.ensures.tasks_ticked c.tick_both.ensures.tasks_kept c.args.self.now c.self.view_is in
    facts.1

pub returns-clause-told : goal.returns-clause-told
returns-clause-told g c =
    let r = c.args.self.now in
    let who : c.due-got.result ≡ due_in r = search rules in
    subst (λ got. TickTold g.G.Source.work r (told got)) (sym who) (tick_told g.G.Source.work r (subst (Held g.G.Source.work) c.self.view_is c.self.invariant) c.args.parts c.requires)
