use Rattle.std.proofs.Common.{None, rules}
use Rattle.refusal.proofs.Firsts.{refused_broken}
use Rattle.run.proofs.Rules.{offer_law}
use Rattle.run.proofs.Run.offer.Goals as goal

pub returns-in_err-check_offer-clause-first : goal.returns-in_err-check_offer-clause-first
returns-in_err-check_offer-clause-first g c = refused_broken _ _ 0 _ (search rules) (offer_law g.G.Source.work c.args.self.now c.in_err-check_offer.ensures.held g.G.Source.allowed c.args.part c.args.units)

pub returns-clause-first : goal.returns-clause-first
returns-clause-first g c = refused_broken _ _ 0 None (search rules) (offer_law g.G.Source.work c.args.self.now c.in_ok-check_offer.ensures.held g.G.Source.allowed c.args.part c.args.units)
