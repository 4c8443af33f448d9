use Rattle.std.proofs.Common.{◌≡◌, ℕ, List, length}
use Rattle.lines.specs.Numbers.{numbers_after}
use Rattle.lines.specs.Rows.{costs_of}
use Rattle.lines.proofs.Begun.{joined_to}
use Rattle.lines.proofs.reading.Reader.costs.Given as goal

-- the costs so far, before those on what is left
abbrev pub invariant-loop-self : goal.invariant-loop-self
invariant-loop-self l = (ns : List ℕ) × (l.costs ≡ costs_of ns) × (numbers_after l.initial.self.rest.now ≡ joined_to ns (numbers_after l.self.rest.now))

abbrev pub decreases-loop-self : goal.decreases-loop-self
decreases-loop-self l = length l.self.rest.now
