-- Tables whose places all hold the same.
use Rattle.std.proofs.Common.{◌≡◌, ℕ, zero, suc, get_or, replicate, refl}

-- a place of such a table, and one behind it where that is read as the same
pub all_same : {A : Type 0} (n i : ℕ) (d : A) → get_or (replicate n d) i d ≡ d
all_same zero zero d = refl
all_same zero (suc i) d = refl
all_same (suc n) zero d = refl
all_same (suc n) (suc i) d = all_same n i d
