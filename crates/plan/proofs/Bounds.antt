-- The bounds that the judge has found so far.
use Rattle.std.proofs.Common.{◌≡◌, ℕ, ◌+◌, ◌<◌, ◌≤◌, List, length, get_or, set, sym, ◌∙◌, subst, inl, inr, arith, get_or-set_other, get_or-set_same}
use Rattle.std.proofs.lemmas.Bool.{cases_eq}

-- one bound more, where each so far is right
pub bound_more : (P : ℕ → ℕ → Type 0) (bounds : List ℕ) (k w : ℕ) → k < length bounds → ((i : ℕ) → i < k → P i (get_or bounds i 0)) → P k w → (i : ℕ) → i < k + 1 → P i (get_or (set bounds k w) i 0)
bound_more P bounds k w room so_far here i h =
    elim (cases_eq i k) [
      | inl e ↦ subst (λ j. P j (get_or (set bounds k w) j 0)) (sym e) (subst (P k) (sym (get_or-set_same bounds k w 0 room)) here)
      | inr ne ↦ subst (P i) (sym (get_or-set_other bounds k i w 0 ne)) (so_far i (omega arith))
    ]

-- and 0 behind them
pub rest_more : (bounds : List ℕ) (k w : ℕ) → ((i : ℕ) → k ≤ i → get_or bounds i 0 ≡ 0) → (i : ℕ) → k + 1 ≤ i → get_or (set bounds k w) i 0 ≡ 0
rest_more bounds k w rest i h = get_or-set_other bounds k i w 0 (λ e. omega arith) ∙ rest i (omega arith)
