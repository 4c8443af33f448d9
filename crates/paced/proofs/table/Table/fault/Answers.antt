use Rattle.paced.proofs.Breaking.{part_broken}
use Rattle.paced.proofs.table.Table.fault.Goals as goal

pub returns-clause-first : goal.returns-clause-first
returns-clause-first g c = part_broken _ _ _ _ c.found.ensures
