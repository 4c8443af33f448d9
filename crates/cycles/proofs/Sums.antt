-- Sums over places of which only some count.
use Rattle.std.proofs.Common.{◌≡◌, ℕ, zero, suc, ◌+◌, ◌-◌, ◌<◌, ◌≤◌, cond, eqb, ltb, sym, refl, ap, ◌∙◌, inl, inr, add-zero, add-suc, arith}
use Rattle.std.proofs.lemmas.Bool.{cond-true, cond-false, cases_lt, lt-ltb, le-ltb}
use Rattle.std.proofs.lemmas.Bool.Decides.{nat_tests}
use Rattle.cycles.specs.Round.{sum}
use Rattle.cycles.proofs.Rounds.{sum_same}

pub sum_plus : (f g : ℕ → ℕ) (n : ℕ) → sum (λ p. f p + g p) n ≡ sum f n + sum g n
sum_plus f g zero = omega arith
sum_plus f g (suc n) = omega (arith, sum_plus f g n)

-- x counts at one place, a
pub sum_one : (a x t : ℕ) → sum (λ p. cond (eqb a p) x 0) t ≡ cond (ltb a t) x 0
sum_one a x zero = sym (cond-false (ltb a 0) x 0 (le-ltb a 0 (omega arith)))
sum_one a x (suc t) = let before = sum_one a x t in grind (arith, nat_tests)

-- what stands at the places below t, added up place by place or entry by entry
pub sum_swap : (o z : ℕ → ℕ) (n t : ℕ) → sum (λ p. sum (λ i. cond (eqb (o i) p) (z i) 0) n) t ≡ sum (λ i. cond (ltb (o i) t) (z i) 0) n
sum_swap o z zero t = none t
  where
    none : (t : ℕ) → sum (λ p. 0) t ≡ 0
    none zero = refl
    none (suc t) = omega (arith, none t)
sum_swap o z (suc n) t =
    sum_plus (λ p. sum (λ i. cond (eqb (o i) p) (z i) 0) n) (λ p. cond (eqb (o n) p) (z n) 0) t
    ∙ omega (arith, sum_swap o z n t, sum_one (o n) (z n) t)

-- the first e of n entries count, and no other
pub sum_front : (o z : ℕ → ℕ) (n t e : ℕ) → e ≤ n → ((i : ℕ) → i < e → o i < t) → ((i : ℕ) → e ≤ i → i < n → t ≤ o i) → sum (λ i. cond (ltb (o i) t) (z i) 0) n ≡ sum z e
sum_front o z n t e h below above = sums_to n h above
  where
    -- all of the first e count
    all : (m : ℕ) → m ≤ e → sum (λ i. cond (ltb (o i) t) (z i) 0) m ≡ sum z m
    all zero p = refl
    all (suc m) p = omega (arith, all m (omega arith), cond-true (ltb (o m) t) (z m) 0 (lt-ltb (o m) t (below m p)))

    -- and none behind them
    sums_to : (m : ℕ) → e ≤ m → ((i : ℕ) → e ≤ i → i < m → t ≤ o i) → sum (λ i. cond (ltb (o i) t) (z i) 0) m ≡ sum z e
    sums_to zero p q = let same : 0 ≡ e = omega arith in ap (sum z) same
    sums_to (suc m) p q =
        elim (cases_lt e (suc m)) [ inl l ↦ omega (arith, sums_to m (omega arith) (λ i a b. q i a (omega arith)), cond-false (ltb (o m) t) (z m) 0 (le-ltb (o m) t (q m (omega arith) (omega arith)))) | inr g ↦ (let same : suc m ≡ e = omega arith in all (suc m) (omega arith) ∙ ap (sum z) same) ]

-- n places, and m more behind them
pub sum_joined : (f g : ℕ → ℕ) (n m : ℕ) → sum (λ j. cond (ltb j n) (f j) (g (j - n))) (n + m) ≡ sum f n + sum g m
sum_joined f g n zero =
    ap (sum (λ j. cond (ltb j n) (f j) (g (j - n)))) (add-zero n) ∙ sum_same (λ j. cond (ltb j n) (f j) (g (j - n))) f n (λ p l. cond-true (ltb p n) (f p) (g (p - n)) (lt-ltb p n l)) ∙ sym (add-zero (sum f n))
sum_joined f g n (suc m) =
    let more : sum (λ j. cond (ltb j n) (f j) (g (j - n))) (n + suc m) ≡ sum (λ j. cond (ltb j n) (f j) (g (j - n))) (n + m) + cond (ltb (n + m) n) (f (n + m)) (g (n + m - n)) = ap (sum (λ j. cond (ltb j n) (f j) (g (j - n)))) (add-suc n m) in
    let here : cond (ltb (n + m) n) (f (n + m)) (g (n + m - n)) ≡ g (n + m - n) = cond-false (ltb (n + m) n) (f (n + m)) (g (n + m - n)) (le-ltb (n + m) n (omega arith)) in
    let back : n + m - n ≡ m = omega arith in
    omega (arith, sum_joined f g n m, ap g back)
