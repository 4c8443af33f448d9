use Rattle.std.proofs.Common.{None, rules}
use Rattle.refusal.proofs.Firsts.{named_broken}
use Rattle.run.proofs.Rules.{release_law}
use Rattle.run.proofs.Run.release.Goals as goal

pub returns-in_err-map_err-clause-first : goal.returns-in_err-map_err-clause-first
returns-in_err-map_err-clause-first g c = named_broken _ _ c.args.task _ (search rules) (release_law g.G.Source.work c.args.self.now c.check_release.ensures.held c.args.task c.args.units)

pub returns-clause-first : goal.returns-clause-first
returns-clause-first g c = named_broken _ _ c.args.task None (search rules) (release_law g.G.Source.work c.args.self.now c.check_release.ensures.held c.args.task c.args.units)
