use Rattle.std.proofs.Common.{None, rules}
use Rattle.refusal.proofs.Firsts.{named_broken}
use Rattle.run.proofs.Calls.{after_let_go}
use Rattle.run.proofs.Rules.{let_go_law}
use Rattle.run.proofs.Run.let_go.Goals as goal

pub invariant_of-self : goal.invariant_of-self
invariant_of-self g c =
    let s = c.self.inside in
    after_let_go g.G.Source.work s.bank s.table s.terms.limits s.room s.terms.bounds s.terms.parts s.state c.self.invariant c.let_go.new.self c.let_go.ensures

pub returns-in_err-map_err-clause-first : goal.returns-in_err-map_err-clause-first
returns-in_err-map_err-clause-first g c = named_broken _ _ c.args.task _ (search rules) (let_go_law g.G.Source.work c.args.self.now c.check_let_go.ensures.held c.args.task)

pub returns-clause-first : goal.returns-clause-first
returns-clause-first g c = named_broken _ _ c.args.task None (search rules) (let_go_law g.G.Source.work c.args.self.now c.check_let_go.ensures.held c.args.task)
