use Rattle.std.proofs.Common.{◌≡◌, length}
use Rattle.words.specs.Split.{pieces}
use Rattle.words.specs.Tokens.{words_good}
use Rattle.words.proofs.token.check_line.Given as goal

-- the words passed are good, so those that are left decide
abbrev pub invariant-loop-after : goal.invariant-loop-after
invariant-loop-after l = words_good (pieces 32 l.line.bytes.now) ≡ words_good (pieces 32 l.rest)

abbrev pub decreases-loop-after : goal.decreases-loop-after
decreases-loop-after l = length l.rest
