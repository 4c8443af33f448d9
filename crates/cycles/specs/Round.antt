-- Sums and the largest over places, and going round a cycle of places 0 to n - 1.
use Rattle.std.specs.Prelude.{ℕ, zero, suc, ◌+◌, max, cond, nat_lt}

-- f 0 + .. + f (n - 1)
abbrev pub sum : (ℕ → ℕ) → ℕ → ℕ
sum f zero = 0
sum f (suc n) = sum f n + f n

-- the largest of f 0 .. f (n - 1), and 0 if there is none
abbrev pub top : (ℕ → ℕ) → ℕ → ℕ
top f zero = 0
top f (suc n) = max (top f n) (f n)

-- the place after i in a cycle of n places
abbrev pub next : ℕ → ℕ → ℕ
next n i = cond (nat_lt (i + 1) n) (i + 1) 0

-- what stands at m successive places of a cycle of n places, from place i on, added up
abbrev pub met : ℕ → (ℕ → ℕ) → ℕ → ℕ → ℕ
met n f i zero = 0
met n f i (suc m) = f i + met n f (next n i) m

-- the place m steps on from place i
abbrev pub onward : ℕ → ℕ → ℕ → ℕ
onward n i zero = i
onward n i (suc m) = onward n (next n i) m
