use Rattle.std.proofs.Common.{◌≡◌, None, ap, ◌∙◌, rules}
use Rattle.refusal.proofs.Firsts.{named_broken}
use Rattle.run.specs.Faults.{hold_fault}
use Rattle.run.proofs.Calls.{after_hold}
use Rattle.run.proofs.Rules.{hold_law}
use Rattle.run.proofs.Run.hold.Goals as goal

pub invariant_of-self : goal.invariant_of-self
invariant_of-self g c =
    let s = c.self.inside in
    let clean : hold_fault c.args.self.now c.args.task c.args.units ≡ None = search rules in
    after_hold g.G.Source.work s.bank s.table s.terms.limits s.room s.terms.bounds s.terms.parts s.state c.self.invariant c.args.task c.args.units (ap (λ r. hold_fault r c.args.task c.args.units) c.self.view_is ∙ clean) c.grant.new.self c.grant.ensures

pub returns-in_err-map_err-clause-first : goal.returns-in_err-map_err-clause-first
returns-in_err-map_err-clause-first g c = named_broken _ _ c.args.task _ (search rules) (hold_law g.G.Source.work c.args.self.now c.check_hold.ensures.held c.args.task c.args.units)

pub returns-clause-first : goal.returns-clause-first
returns-clause-first g c = named_broken _ _ c.args.task None (search rules) (hold_law g.G.Source.work c.args.self.now c.check_hold.ensures.held c.args.task c.args.units)
