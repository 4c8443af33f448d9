-- Windows over a schedule: what is met from a pair on, in sums of lengths, and that a pair is the worst start.
-- Lemmas only, which laws of traits cite; a reader of the definitions can pass over them.
use Rattle.std.specs.Prelude.{◌≡◌, ℕ, zero, suc, ◌+◌, ◌-◌, ◌<◌, ◌≤◌, cond, ◌⊎◌, ◌==◌, ◌≢◌, nat_lt, refl}
use Rattle.std.proofs.Common.{sym, ap, ◌∙◌, subst, inl, inr, arith}
use Rattle.std.proofs.lemmas.Bool.{cond-true, cond-false, cases_lt, cases_eq, lt-ltb, le-ltb, eq-eqb, ne_eqb}
use Rattle.cycles.specs.Round.{sum, top, next, met}
use Rattle.cycles.proofs.Rounds.{met_plus, met_first, met_rises, onward_first, onward_round, next_within, top_at, top_least, top_rises}
use Rattle.cycles.proofs.Sums.{sum_swap, sum_front, sum_joined}

-- n pairs with offsets o, strictly rising and below the cycle c, and lengths z
module _ (c n : ℕ) (o z : ℕ → ℕ) (pos : 0 < c) (below : (i : ℕ) → i < n → o i < c) (rising : (i j : ℕ) → i < j → j < n → o i < o j) where
  -- the length at phase p
  abbrev at_phase : ℕ → ℕ
  at_phase p = sum (λ i. cond (o i == p) (z i) 0) n

  -- what is met in the first t ticks of a cycle, if the first e pairs lie before t
  upto : (t e : ℕ) → t ≤ c → e ≤ n → ((i : ℕ) → i < e → o i < t) → ((i : ℕ) → e ≤ i → i < n → t ≤ o i) → met c at_phase 0 t ≡ sum z e
  upto t e h p before after = met_first c at_phase t h ∙ sum_swap o z n t ∙ sum_front o z n t e p before after

  -- a whole cycle meets every pair
  pub whole_is : met c at_phase 0 c ≡ sum z n
  whole_is = upto c n (omega arith) (omega arith) below (λ i p q. omega arith)

  -- pairs over two cycles in a row
  abbrev o₂ : ℕ → ℕ
  o₂ j = cond (nat_lt j n) (o j) (o (j - n) + c)

  abbrev z₂ : ℕ → ℕ
  z₂ j = cond (nat_lt j n) (z j) (z (j - n))

  o₂_first : (j : ℕ) → j < n → o₂ j ≡ o j
  o₂_first j h = cond-true (nat_lt j n) (o j) (o (j - n) + c) (lt-ltb j n h)

  o₂_second : (j : ℕ) → n ≤ j → o₂ j ≡ o (j - n) + c
  o₂_second j h = cond-false (nat_lt j n) (o j) (o (j - n) + c) (le-ltb j n h)

  z₂_first : (e : ℕ) → e ≤ n → sum z₂ e ≡ sum z e
  z₂_first zero h = refl
  z₂_first (suc e) h = omega (arith, z₂_first e (omega arith), cond-true (nat_lt e n) (z e) (z (e - n)) (lt-ltb e n h))

  o₂_behind : (j : ℕ) → o₂ (n + j) ≡ o j + c
  o₂_behind j = let back : n + j - n ≡ j = omega arith in o₂_second (n + j) (omega arith) ∙ ap (λ k. o k + c) back

  -- what is met in the first t ticks of two cycles in a row, if the first e pairs of the two lie before t
  abbrev Before : ℕ → ℕ → Type 0
  Before t e = (j : ℕ) → j < e → o₂ j < t

  abbrev After : ℕ → ℕ → Type 0
  After t e = (j : ℕ) → e ≤ j → j < n + n → t ≤ o₂ j

  upto_first : (t e : ℕ) → t ≤ c → Before t e → After t e → met c at_phase 0 t ≡ sum z₂ e
  upto_first t e h before after =
      upto t e h few (λ i q. omega (arith, before i q, o₂_first i (omega (arith, few)))) (λ i q r. omega (arith, after i q (omega arith), o₂_first i r)) ∙ sym (z₂_first e few)
    where
      few : e ≤ n
      few = elim (cases_lt n e) [ inl l ↦ omega (arith, before n l, o₂_second n (omega arith)) | inr r ↦ r ]

  upto_second : (t e : ℕ) → t ≤ c → e ≤ n → Before (c + t) (n + e) → After (c + t) (n + e) → met c at_phase 0 (c + t) ≡ sum z₂ (n + e)
  upto_second t e h p before after =
      met_plus c at_phase 0 c t ∙ omega (arith, whole_is, rest, ap (λ k. met c at_phase k t) (onward_round c 0 pos), sum_joined z z n e)
    where
      rest : met c at_phase 0 t ≡ sum z e
      rest = upto t e h p (λ i q. omega (arith, before (n + i) (omega arith), o₂_behind i)) (λ i q r. omega (arith, after (n + i) (omega arith) (omega arith), o₂_behind i))

  pub upto_twice : (t e : ℕ) → t ≤ c + c → e ≤ n + n → Before t e → After t e → met c at_phase 0 t ≡ sum z₂ e
  upto_twice t e h p before after = elim (cases_lt c t) [ inl l ↦ second l | inr g ↦ upto_first t e g before after ]
    where
      second : c < t → met c at_phase 0 t ≡ sum z₂ e
      second l = joined (t - c) (e - n) (omega arith) (omega (arith, many))
        where
          many : n ≤ e
          many = elim (cases_lt e n) [ inl s ↦ omega (arith, after e (omega arith) (omega arith), o₂_first e s, below e s) | inr r ↦ r ]

          joined : (s d : ℕ) → t ≡ c + s → e ≡ n + d → met c at_phase 0 t ≡ sum z₂ e
          joined s d time place =
              ap (met c at_phase 0) time
              ∙ upto_second s d (omega arith) (omega arith) (λ j m. omega (arith, before j (omega arith))) (λ j m k. omega (arith, after j (omega arith) k))
              ∙ ap (sum z₂) (sym place)

  rises : (i j : ℕ) → i ≤ j → j < n → o i ≤ o j
  rises i j l m = elim (cases_lt i j) [ inl s ↦ omega (arith, rising i j s m) | inr g ↦ (let same : i ≡ j = omega arith in subst (λ k. o i ≤ o k) same (omega arith)) ]

  -- what is met from pair i on: the pairs up to the end of the window, less those before pair i
  pub from_pair : (i r e : ℕ) → i < n → r ≤ c → e ≤ n + n → Before (o i + r) e → After (o i + r) e → sum z i + met c at_phase (o i) r ≡ sum z₂ e
  from_pair i r e h p q before after =
      let start : met c at_phase 0 (o i) ≡ sum z i = upto (o i) i (omega (arith, below i h)) (omega arith) (λ j l. rising j i l h) (λ j l m. rises i j l m) in
      let window : met c at_phase 0 (o i + r) ≡ met c at_phase 0 (o i) + met c at_phase (o i) r = met_plus c at_phase 0 (o i) r ∙ ap (λ k. met c at_phase 0 (o i) + met c at_phase k r) (onward_first c (o i) (below i h)) in
      omega (arith, upto_twice (o i + r) e (omega (arith, below i h)) q before after)

  -- the offsets of two cycles in a row rise
  pub rising_twice : (i j : ℕ) → i ≤ j → j < n + n → o₂ i ≤ o₂ j
  rising_twice i j h l =
      elim (cases_lt j n) [
        | inl q ↦ omega (arith, o₂_first i (omega arith), o₂_first j q, rises i j h q)
        | inr q ↦ elim (cases_lt i n) [
          | inl p ↦ omega (arith, o₂_first i p, o₂_second j q, below i p)
          | inr p ↦ omega (arith, o₂_second i p, o₂_second j q, rises (i - n) (j - n) (omega arith) (omega arith))
        ]
      ]

  -- a window from pair i whose end was moved on as far as it goes
  pub window_end : (i r e : ℕ) → i < n → r ≤ c → e ≤ n + i → (e < n + i → o i + r ≤ o₂ e) → After (o i + r) e
  window_end i r e h p q stopped j l m =
      elim (cases_lt e (n + i)) [ inl s ↦ omega (arith, stopped s, rising_twice e j l m) | inr g ↦ (let end : e ≡ n + i = omega arith in omega (arith, ap o₂ end, o₂_behind i, rising_twice e j l m)) ]

  -- some pair stands at phase p, or nothing does
  pair_at : (p m : ℕ) → (sum (λ i. cond (o i == p) (z i) 0) m ≡ 0) ⊎ ((i : ℕ) × (i < m) × (o i ≡ p))
  pair_at p zero = inl refl
  pair_at p (suc m) = go (cases_eq (o m) p) (pair_at p m)
    where
      go : (o m ≡ p) ⊎ (o m ≢ p) → (sum (λ i. cond (o i == p) (z i) 0) m ≡ 0) ⊎ ((i : ℕ) × (i < m) × (o i ≡ p)) → (sum (λ i. cond (o i == p) (z i) 0) (suc m) ≡ 0) ⊎ ((i : ℕ) × (i < suc m) × (o i ≡ p))
      go (inl e) w = inr (m, omega arith, e)
      go (inr ne) (inl none) = inl (omega (arith, none, cond-false (o m == p) (z m) 0 (ne_eqb (o m) p ne)))
      go (inr ne) (inr w) = inr (w.0, omega (arith, w.1), w.2)

  -- a window from any phase meets no more than some window from a pair
  no_worse : (r p : ℕ) → p < c → met c at_phase p r ≤ top (λ i. met c at_phase (o i) r) n
  no_worse zero p h = omega arith
  no_worse (suc r) p h = go (pair_at p n) (no_worse r (next c p) (next_within c p pos))
    where
      go : (at_phase p ≡ 0) ⊎ ((i : ℕ) × (i < n) × (o i ≡ p)) → met c at_phase (next c p) r ≤ top (λ i. met c at_phase (o i) r) n → met c at_phase p (suc r) ≤ top (λ i. met c at_phase (o i) (suc r)) n
      go (inl none) on = omega (arith, none, on, top_rises (λ i. met c at_phase (o i) r) (λ i. met c at_phase (o i) (suc r)) n (λ i _. met_rises c at_phase (o i) r (suc r) (omega arith)))
      go (inr w) on = subst (λ k. met c at_phase k (suc r) ≤ top (λ i. met c at_phase (o i) (suc r)) n) w.2 (top_at (λ i. met c at_phase (o i) (suc r)) n w.0 w.1)

  pub pairs_suffice : (r : ℕ) → top (λ i. met c at_phase (o i) r) n ≡ top (λ p. met c at_phase p r) c
  pairs_suffice r =
      let up : top (λ i. met c at_phase (o i) r) n ≤ top (λ p. met c at_phase p r) c = top_least (λ i. met c at_phase (o i) r) n (top (λ p. met c at_phase p r) c) (λ i l. top_at (λ p. met c at_phase p r) c (o i) (below i l)) in
      let down : top (λ p. met c at_phase p r) c ≤ top (λ i. met c at_phase (o i) r) n = top_least (λ p. met c at_phase p r) c (top (λ i. met c at_phase (o i) r) n) (λ p l. no_worse r p l) in
      omega arith

  -- at most one pair stands at a phase
  pub at_phase_small : (b p : ℕ) → ((i : ℕ) → i < n → z i ≤ b) → at_phase p ≤ b
  at_phase_small b p small = go n (omega arith)
    where
      nothing : (m : ℕ) → m < n → o m ≡ p → (k : ℕ) → k ≤ m → sum (λ i. cond (o i == p) (z i) 0) k ≡ 0
      nothing m h e zero l = refl
      nothing m h e (suc k) l = omega (arith, nothing m h e k (omega arith), cond-false (o k == p) (z k) 0 (ne_eqb (o k) p (λ f. omega (arith, rising k m l h))))

      go : (m : ℕ) → m ≤ n → sum (λ i. cond (o i == p) (z i) 0) m ≤ b
      go zero l = omega arith
      go (suc m) l =
          elim (cases_eq (o m) p) [
            | inl e ↦ omega (arith, nothing m l e m (omega arith), cond-true (o m == p) (z m) 0 (eq-eqb (o m) p e), small m l)
            | inr ne ↦ omega (arith, go m (omega arith), cond-false (o m == p) (z m) 0 (ne_eqb (o m) p ne))
          ]
