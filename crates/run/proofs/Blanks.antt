-- Lists of which each element is the same.
use Rattle.std.proofs.Common.{◌≡◌, ℕ, zero, suc, ◌<◌, List, [], ◌∷◌, length, get_or, replicate, refl, arith}

pub all_alike : {X : Type 0} (v : X) (n : ℕ) (xs : List X) → length xs ≡ n → ((i : ℕ) → i < n → get_or xs i v ≡ v) → xs ≡ replicate n v
all_alike v zero [] long same = refl
all_alike v zero (x ∷ xs) long same = absurd (omega (arith, long))
all_alike v (suc n) [] long same = absurd (omega (arith, long))
all_alike v (suc n) (x ∷ xs) long same =
    let first : x ≡ v = same zero (omega arith) in
    let rest : xs ≡ replicate n v = all_alike v n xs (omega (arith, long)) (λ i h. same (suc i) (omega arith)) in
    λ k. first k ∷ rest k
