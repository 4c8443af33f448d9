use Rattle.std.proofs.Common.{◌≡◌, None, ap, ◌∙◌, rules}
use Rattle.refusal.proofs.Firsts.{named_broken}
use Rattle.run.specs.Faults.{end_fault}
use Rattle.run.proofs.Calls.{after_end}
use Rattle.run.proofs.Rules.{end_law}
use Rattle.run.proofs.Run.end.Goals as goal

pub invariant_of-self : goal.invariant_of-self
invariant_of-self g c =
    let s = c.self.inside in
    let clean : end_fault c.args.self.now c.args.task ≡ None = search rules in
    after_end g.G.Source.work s.bank s.table s.terms.limits s.room s.terms.bounds s.terms.parts s.state c.self.invariant c.args.task (ap (λ r. end_fault r c.args.task) c.self.view_is ∙ clean) c.end.new.self c.end.ensures

pub returns-in_err-map_err-clause-first : goal.returns-in_err-map_err-clause-first
returns-in_err-map_err-clause-first g c = named_broken _ _ c.args.task _ (search rules) (end_law g.G.Source.work c.args.self.now c.check_end.ensures.held c.args.task)

pub returns-clause-first : goal.returns-clause-first
returns-clause-first g c = named_broken _ _ c.args.task None (search rules) (end_law g.G.Source.work c.args.self.now c.check_end.ensures.held c.args.task)
