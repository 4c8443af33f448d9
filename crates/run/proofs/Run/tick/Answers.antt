use Rattle.std.proofs.Common.{rules}
use Rattle.refusal.proofs.Firsts.{refused_broken}
use Rattle.run.proofs.Rules.{tick_law}
use Rattle.run.proofs.Run.tick.Goals as goal

pub returns-in_err-parts-clause-first : goal.returns-in_err-parts-clause-first
returns-in_err-parts-clause-first g c = refused_broken _ _ 0 _ (search rules) (tick_law c.args.self.now)
