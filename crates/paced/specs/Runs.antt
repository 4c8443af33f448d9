-- Successive costs of a cycle.
use Rattle.std.specs.Prelude.{ℕ, List, slice_index}
use Rattle.cycles.specs.Round.{top, met}

-- what stands at place i of a list of costs
abbrev pub at : List ℕ → ℕ → ℕ
at costs i = slice_index costs i

-- the largest sum of m successive costs of a cycle of n, from any of the first i places
abbrev pub largest_from : ℕ → List ℕ → ℕ → ℕ → ℕ
largest_from n costs m i = top (λ p. met n (at costs) p m) i

-- the largest sum of m successive costs, from any place of the cycle, which has the first n of them
abbrev pub largest : ℕ → List ℕ → ℕ → ℕ
largest n costs m = largest_from n costs m n
