use Rattle.std.proofs.Common.{None, rules}
use Rattle.schedule.proofs.Breaking.{cycle_broken}
use Rattle.schedule.proofs.cyclic.Schedule.new.Goals as goal

pub returns-then-cycle-lt1-clause-first : goal.returns-then-cycle-lt1-clause-first
returns-then-cycle-lt1-clause-first c = cycle_broken c.args.cycle _ (search rules)

pub returns-clause-first : goal.returns-clause-first
returns-clause-first c = cycle_broken c.args.cycle None (search rules)
