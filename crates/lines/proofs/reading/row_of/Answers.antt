use Rattle.lines.proofs.Breaking.{row_broken}
use Rattle.lines.proofs.Written.{line_rule}
use Rattle.lines.proofs.reading.row_of.Goals as goal

pub returns-clause-rule : goal.returns-clause-rule
returns-clause-rule c = line_rule c.args.line.bytes.now

pub returns-clause-first : goal.returns-clause-first
returns-clause-first c = row_broken c.args.line.bytes.now c.row_or_fault.result c.row_or_fault.ensures
