-- What stands at numbers that count from 1, and after a change at one of them.
use Rattle.std.proofs.Common.{◌≡◌, ℕ, ◌-◌, ◌≤◌, cond, eqb, leb, List, length, get_or, set, ◌≢◌, sym, ap, ◌∙◌, inl, inr, arith}
use Rattle.std.proofs.lemmas.Bool.{cond-true, cond-false, le-leb, lt-leb, eq-eqb, ne_eqb, cases_eq, cases_lt}
use Rattle.std.proofs.lemmas.List.{get_or-set_same, get_or-set_other}

module _ {A : Type 0} (d : A) (g : A → ℕ) where
  -- what g gives at number j
  abbrev pub numbered : List A → ℕ → ℕ
  numbered xs j = cond (leb 1 j) (g (get_or xs (j - 1) d)) 0

  pub numbered_some : (xs : List A) (j : ℕ) → 1 ≤ j → numbered xs j ≡ g (get_or xs (j - 1) d)
  numbered_some xs j h = cond-true (leb 1 j) (g (get_or xs (j - 1) d)) 0 (le-leb 1 j h)

  numbered_zero : (xs : List A) (j : ℕ) → j ≡ 0 → numbered xs j ≡ 0
  numbered_zero xs j h = cond-false (leb 1 j) (g (get_or xs (j - 1) d)) 0 (lt-leb 1 j (omega arith))

  pub numbered_same : (xs : List A) (k : ℕ) (v : A) → 1 ≤ k → k ≤ length xs → numbered (set xs (k - 1) v) k ≡ g v
  numbered_same xs k v some within = numbered_some (set xs (k - 1) v) k some ∙ ap g (get_or-set_same xs (k - 1) v d (omega arith))

  pub numbered_other : (xs : List A) (k : ℕ) (v : A) (j : ℕ) → 1 ≤ k → j ≢ k → numbered (set xs (k - 1) v) j ≡ numbered xs j
  numbered_other xs k v j some ne = elim (cases_lt 0 j) [
    | inl pos ↦
        numbered_some (set xs (k - 1) v) j (omega arith)
        ∙ ap g (get_or-set_other xs (k - 1) (j - 1) v d (λ e. ne (omega arith)))
        ∙ sym (numbered_some xs j (omega arith))
    | inr none ↦ numbered_zero (set xs (k - 1) v) j (omega arith) ∙ sym (numbered_zero xs j (omega arith))
  ]

  pub numbered_set : (xs : List A) (k : ℕ) (v : A) (j : ℕ) → 1 ≤ k → k ≤ length xs → numbered (set xs (k - 1) v) j ≡ cond (eqb j k) (g v) (numbered xs j)
  numbered_set xs k v j some within = elim (cases_eq j k) [
    | inl e ↦ ap (numbered (set xs (k - 1) v)) e ∙ numbered_same xs k v some within ∙ sym (cond-true (eqb j k) (g v) (numbered xs j) (eq-eqb j k e))
    | inr ne ↦ numbered_other xs k v j some ne ∙ sym (cond-false (eqb j k) (g v) (numbered xs j) (ne_eqb j k ne))
  ]
