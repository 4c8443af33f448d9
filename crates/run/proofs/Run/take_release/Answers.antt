use Rattle.std.proofs.Common.{ap, ◌∙◌}
use Rattle.run.specs.Faults.{release_fault}
use Rattle.run.specs.Runs.{run_released}
use Rattle.run.proofs.Calls.{after_release, release_facts, release_seen, release_taken}
use Rattle.run.proofs.Run.take_release.Goals as goal

pub give-requires : goal.give-requires
give-requires g c =
    let s = c.self.inside in
    release_taken g.G.Source.work s.bank s.table s.terms.limits s.room s.terms.bounds s.terms.parts s.state c.args.task c.args.units (ap (λ r. release_fault r c.args.task c.args.units) c.self.view_is ∙ c.requires)

pub invariant_of-self : goal.invariant_of-self
invariant_of-self g c =
    let s = c.self.inside in
    after_release g.G.Source.work s.bank s.table s.terms.limits s.room s.terms.bounds s.terms.parts s.state c.self.invariant c.args.task c.args.units c.give.new.gate (ap (λ r. release_fault r c.args.task c.args.units) c.self.view_is ∙ c.requires) c.give.ensures.takes c.release.new.self c.release.ensures

pub returns-clause-released : goal.returns-clause-released
returns-clause-released g c =
    let s = c.self.inside in
    release_seen g.G.Source.work s.bank s.table s.terms.limits s.room s.terms.bounds s.terms.parts s.state c.args.task c.args.units c.give.new.gate (ap (λ r. release_fault r c.args.task c.args.units) c.self.view_is ∙ c.requires) c.give.ensures.takes c.release.new.self c.release.ensures
    ∙ ap (λ r. run_released r c.args.task c.args.units) c.self.view_is

pub returns-clause-taken : goal.returns-clause-taken
returns-clause-taken g c =
    let s = c.self.inside in
    let facts = release_facts g.G.Source.work s.bank s.table s.terms.limits s.room s.terms.bounds s.terms.parts s.state c.args.task c.args.units c.give.new.gate c.give.ensures.taken c.give.ensures.kept c.args.self.now c.self.view_is in
    facts.0

pub returns-clause-kept : goal.returns-clause-kept
returns-clause-kept g c =
    let s = c.self.inside in
    let facts = release_facts g.G.Source.work s.bank s.table s.terms.limits s.room s.terms.bounds s.terms.parts s.state c.args.task c.args.units c.give.new.gate c.give.ensures.taken c.give.ensures.kept c.args.self.now c.self.view_is in
    facts.1
