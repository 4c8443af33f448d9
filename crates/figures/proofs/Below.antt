-- What holds of each window below a number, by a test that is computed.
use Rattle.std.proofs.Common.{◌≡◌, ℕ, zero, suc, ◌<◌, ◌≤◌, Bool, true, ◌&&◌, ◌||◌, eqb, ltb, sym, subst, inl, inr, arith}
use Rattle.std.proofs.lemmas.Bool.{ltb-true, eqb-true, or_cases, and_parts, cases_lt}

abbrev pub too_small : (ℕ → ℕ) → ℕ → Bool
too_small f l = eqb l 0 || ltb l (f l)

-- every window from 1 to below n is too small for what f needs in it
abbrev pub all_too_small : (ℕ → ℕ) → ℕ → Bool
all_too_small f zero = true
all_too_small f (suc n) = too_small f n && all_too_small f n

pub each_too_small : (f : ℕ → ℕ) (n : ℕ) → all_too_small f n ≡ true → (l : ℕ) → 1 ≤ l → l < n → l < f l
each_too_small f zero e l h k = absurd (omega arith)
each_too_small f (suc n) e l h k =
    let p = and_parts (too_small f n) (all_too_small f n) e in
    elim (cases_lt l n) [
      | inl below ↦ each_too_small f n p.1 l h below
      | inr here ↦ (let same : l ≡ n = omega arith in last p.0 same)
    ]
  where
    last : too_small f n ≡ true → l ≡ n → l < f l
    last t same =
        elim (or_cases (eqb n 0) (ltb n (f n)) t) [
          | inl none ↦ absurd (omega (arith, eqb-true n 0 none))
          | inr small ↦ subst (λ x. x < f x) (sym same) (ltb-true n (f n) small)
        ]
