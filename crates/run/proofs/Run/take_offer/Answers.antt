use Rattle.std.proofs.Common.{ap, ◌∙◌}
use Rattle.run.specs.Faults.{offer_fault}
use Rattle.run.proofs.Calls.{after_offer}
use Rattle.run.proofs.Run.take_offer.Goals as goal

pub invariant_of-self : goal.invariant_of-self
invariant_of-self g c =
    let s = c.self.inside in
    let allowed = g.G.Source.allowed in
    after_offer g.G.Source.work s.bank s.table s.terms.limits s.room s.terms.bounds s.terms.parts s.state c.self.invariant allowed c.give.new.gate c.args.part c.args.units c.give.ensures.kept (ap (λ r. offer_fault allowed r c.args.part c.args.units) c.self.view_is ∙ c.requires) c.grow.new.self c.grow.ensures
