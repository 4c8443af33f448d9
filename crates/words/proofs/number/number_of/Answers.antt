use Rattle.words.proofs.Numbering.{number_rule}
use Rattle.words.proofs.number.number_of.Goals as goal

pub returns-then-not-has_plain_front-clause-rule : goal.returns-then-not-has_plain_front-clause-rule
returns-then-not-has_plain_front-clause-rule c = number_rule c.args.word.now

pub returns-clause-rule : goal.returns-clause-rule
returns-clause-rule c = number_rule c.args.word.now
