-- Sums f 1 + .. + f n.
use Rattle.std.proofs.Common.{◌≡◌, ℕ, zero, suc, ◌+◌, ◌-◌, ◌<◌, ◌≤◌, sym, ap, subst, inl, inr, arith}
use Rattle.std.proofs.lemmas.Bool.{cases_lt}
use Rattle.cycles.specs.Round.{sum}
use Rattle.cycles.proofs.Rounds.{sum_on}
use Rattle.cycles.proofs.Sums.{sum_plus}
use Rattle.calls.specs.States.{upto}

sum_below : (f g : ℕ → ℕ) (n : ℕ) → ((i : ℕ) → i < n → f i ≤ g i) → sum f n ≤ sum g n
sum_below f g zero h = omega arith
sum_below f g (suc n) h = omega (arith, sum_below f g n (λ i l. h i (omega arith)), h n (omega arith))

-- one place is smaller by one
sum_less : (f g : ℕ → ℕ) (n q : ℕ) → q < n → ((i : ℕ) → i < n → f i ≤ g i) → f q + 1 ≤ g q → sum f n + 1 ≤ sum g n
sum_less f g zero q l h one = omega arith
sum_less f g (suc n) q l h one =
    elim (cases_lt q n) [
      | inl b ↦ omega (arith, sum_less f g n q b (λ i k. h i (omega arith)) one, h n (omega arith))
      | inr b ↦ (
          let e : q ≡ n = omega arith in
          let here : f n + 1 ≤ g n = subst (λ x. f x + 1 ≤ g x) e one in
          omega (arith, sum_below f g n (λ i k. h i (omega arith))))
    ]

sum_zero : (f : ℕ → ℕ) (n : ℕ) → ((i : ℕ) → i < n → f i ≡ 0) → sum f n ≡ 0
sum_zero f zero h = omega arith
sum_zero f (suc n) h = omega (arith, sum_zero f n (λ i l. h i (omega arith)), h n (omega arith))

sum_term : (f : ℕ → ℕ) (n q : ℕ) → q < n → f q ≤ sum f n
sum_term f zero q l = omega arith
sum_term f (suc n) q l = elim (cases_lt q n) [ inl b ↦ omega (arith, sum_term f n q b) | inr b ↦ (let e : q ≡ n = omega arith in let here : f q ≡ f n = ap f e in omega arith) ]

pub upto_below : (f g : ℕ → ℕ) (n : ℕ) → ((k : ℕ) → 1 ≤ k → k ≤ n → f k ≤ g k) → upto f n ≤ upto g n
upto_below f g n h = sum_below (λ k. f (k + 1)) (λ k. g (k + 1)) n (λ i l. h (i + 1) (omega arith) (omega arith))

pub upto_less : (f g : ℕ → ℕ) (n k : ℕ) → 1 ≤ k → k ≤ n → ((j : ℕ) → 1 ≤ j → j ≤ n → f j ≤ g j) → f k + 1 ≤ g k → upto f n + 1 ≤ upto g n
upto_less f g n k a b h one =
    let e : k - 1 + 1 ≡ k = omega arith in
    sum_less (λ k. f (k + 1)) (λ k. g (k + 1)) n (k - 1) (omega arith) (λ i l. h (i + 1) (omega arith) (omega arith)) (subst (λ x. f x + 1 ≤ g x) (sym e) one)

pub upto_plus : (f g : ℕ → ℕ) (n : ℕ) → upto (λ k. f k + g k) n ≡ upto f n + upto g n
upto_plus f g n = sum_plus (λ k. f (k + 1)) (λ k. g (k + 1)) n

pub upto_zero : (f : ℕ → ℕ) (n : ℕ) → ((k : ℕ) → 1 ≤ k → k ≤ n → f k ≡ 0) → upto f n ≡ 0
upto_zero f n h = sum_zero (λ k. f (k + 1)) n (λ i l. h (i + 1) (omega arith) (omega arith))

pub upto_term : (f : ℕ → ℕ) (n k : ℕ) → 1 ≤ k → k ≤ n → f k ≤ upto f n
upto_term f n k a b =
    let e : k - 1 + 1 ≡ k = omega arith in
    let t : f (k - 1 + 1) ≤ upto f n = sum_term (λ k. f (k + 1)) n (k - 1) (omega arith) in
    let same : f (k - 1 + 1) ≡ f k = ap f e in
    omega arith

pub upto_last : (f : ℕ → ℕ) (n : ℕ) → 1 ≤ n → upto f n ≡ upto f (n - 1) + f n
upto_last f n a =
    let e : n - 1 + 1 ≡ n = omega arith in
    let more : upto f (n - 1 + 1) ≡ upto f (n - 1) + f (n - 1 + 1) = sum_on (λ k. f (k + 1)) (n - 1) in
    let same : f (n - 1 + 1) ≡ f n = ap f e in
    let whole : upto f (n - 1 + 1) ≡ upto f n = ap (upto f) e in
    omega arith
