-- What paced parts and schedules share: sums and largest runs round a cycle.
use Rattle.std.proofs.Common.{◌≡◌, ℕ, zero, suc, ◌+◌, ◌-◌, ◌*◌, ◌/◌, ◌%◌, ◌<◌, ◌≤◌, max, nat_cmp, cond, ltb, sym, refl, ap, ◌∙◌, subst, inl, inr, suc-add, div-add-mod', zero-add, add-one, arith}
use Rattle.std.specs.Ordering.{ord_max}
use Rattle.std.proofs.lemmas.Bool.{cases_lt}
use Rattle.std.proofs.lemmas.Bool.Decides.{nat_tests}
use Rattle.cycles.specs.Round.{sum, top, next, met, onward}

-- the largest

pub top_at : (f : ℕ → ℕ) (n p : ℕ) → p < n → f p ≤ top f n
top_at f zero p h = omega arith
top_at f (suc n) p h = elim (cases_lt p n) [ inl l ↦ omega (arith, top_at f n p l) | inr g ↦ (let e : p ≡ n = omega arith in subst (λ q. f q ≤ max (top f n) (f n)) (sym e) (omega arith)) ]

pub top_least : (f : ℕ → ℕ) (n b : ℕ) → ((p : ℕ) → p < n → f p ≤ b) → top f n ≤ b
top_least f zero b h = omega arith
top_least f (suc n) b h =
    let below : top f n ≤ b = top_least f n b (λ p l. h p (omega arith)) in
    let here : f n ≤ b = h n (omega arith) in
    omega arith

pub top_rises : (f g : ℕ → ℕ) (n : ℕ) → ((p : ℕ) → p < n → f p ≤ g p) → top f n ≤ top g n
top_rises f g n h = top_least f n (top g n) (λ p l. omega (arith, h p l, top_at g n p l))

-- what each place has more than f, the largest has more
pub top_plus : (f g : ℕ → ℕ) (n a : ℕ) → ((p : ℕ) → p < suc n → g p ≡ a + f p) → top g (suc n) ≡ a + top f (suc n)
top_plus f g zero a h = omega (arith, h 0 (omega arith))
top_plus f g (suc n) a h =
    let below : top g (suc n) ≡ a + top f (suc n) = top_plus f g n a (λ p l. h p (omega arith)) in
    let here : g (suc n) ≡ a + f (suc n) = h (suc n) (omega arith) in
    omega arith

pub sum_least : (f : ℕ → ℕ) (n b : ℕ) → ((p : ℕ) → p < n → f p ≤ b) → sum f n ≤ n * b
sum_least f zero b h = omega arith
sum_least f (suc n) b h =
    let below : sum f n ≤ n * b = sum_least f n b (λ p l. h p (omega arith)) in
    let here : f n ≤ b = h n (omega arith) in
    omega arith

pub sum_rises : (f : ℕ → ℕ) (m n : ℕ) → m ≤ n → sum f m ≤ sum f n
sum_rises f m zero h = let e : m ≡ 0 = omega arith in subst (λ k. sum f k ≤ 0) (sym e) (omega arith)
sum_rises f m (suc n) h = elim (cases_lt m (suc n)) [ inl l ↦ omega (arith, sum_rises f m n (omega arith)) | inr g ↦ (let e : m ≡ suc n = omega arith in subst (λ k. sum f k ≤ sum f n + f n) (sym e) (omega arith)) ]

-- one place more, as a loop has it
pub sum_on : (f : ℕ → ℕ) (i : ℕ) → sum f (i + 1) ≡ sum f i + f i
sum_on f i = ap (sum f) (add-one i)

pub top_on : (f : ℕ → ℕ) (i : ℕ) → top f (i + 1) ≡ max (top f i) (f i)
top_on f i = ap (top f) (add-one i)

-- the larger of b, the largest of the first i, and of x, the next
pub larger_next : (f : ℕ → ℕ) (i b x n : ℕ) → b ≡ top f i → x ≡ f i → n ≡ ord_max nat_cmp b x → n ≡ top f (i + 1)
larger_next f i b x n b_is x_is n_is =
    let larger : n ≡ max b x = grind arith in
    omega (arith, larger, b_is, x_is, top_on f i)

-- round the cycle

pub next_on : (n i : ℕ) → suc i < n → next n i ≡ suc i
next_on n i h = grind (arith, nat_tests)

pub next_last : (n i : ℕ) → n ≤ suc i → next n i ≡ 0
next_last n i h = grind (arith, nat_tests)

pub next_within : (n i : ℕ) → 0 < n → next n i < n
next_within n i h = grind (arith, nat_tests)

pub met_rises : (n : ℕ) (f : ℕ → ℕ) (i m k : ℕ) → m ≤ k → met n f i m ≤ met n f i k
met_rises n f i zero k h = omega arith
met_rises n f i (suc m) zero h = omega arith
met_rises n f i (suc m) (suc k) h = omega (arith, met_rises n f (next n i) m k (omega arith))

pub met_least : (n : ℕ) (f : ℕ → ℕ) (b i m : ℕ) → ((p : ℕ) → f p ≤ b) → met n f i m ≤ m * b
met_least n f b i zero h = omega arith
met_least n f b i (suc m) h = omega (arith, met_least n f b (next n i) m h, h i)

-- one place more at the end
pub met_snoc : (n : ℕ) (f : ℕ → ℕ) (i m : ℕ) → met n f i (suc m) ≡ met n f i m + f (onward n i m)
met_snoc n f i zero = omega arith
met_snoc n f i (suc m) = omega (arith, met_snoc n f (next n i) m)

pub met_plus : (n : ℕ) (f : ℕ → ℕ) (i a b : ℕ) → met n f i (a + b) ≡ met n f i a + met n f (onward n i a) b
met_plus n f i zero b = ap (met n f i) (zero-add b) ∙ sym (zero-add (met n f i b))
met_plus n f i (suc a) b = ap (met n f i) (suc-add a b) ∙ omega (arith, met_plus n f (next n i) a b)

pub onward_next : (n i m : ℕ) → onward n (next n i) m ≡ next n (onward n i m)
onward_next n i zero = refl
onward_next n i (suc m) = onward_next n (next n i) m

pub onward_within : (n i m : ℕ) → i < n → onward n i m < n
onward_within n i zero h = h
onward_within n i (suc m) h = onward_within n (next n i) m (next_within n i (omega arith))

-- a whole round comes back to its place, and adds up to the same from every place

-- from the first place, as far as one round goes
pub onward_first : (n m : ℕ) → m < n → onward n 0 m ≡ m
onward_first n zero h = refl
onward_first n (suc m) h = onward_next n 0 m ∙ ap (next n) (onward_first n m (omega arith)) ∙ next_on n m h

pub met_first : (n : ℕ) (f : ℕ → ℕ) (m : ℕ) → m ≤ n → met n f 0 m ≡ sum f m
met_first n f zero h = refl
met_first n f (suc m) h =
    met_snoc n f 0 m ∙ omega (arith, met_first n f m (omega arith), ap f (onward_first n m h))

pub onward_round : (n i : ℕ) → i < n → onward n i n ≡ i
onward_round (suc n) zero h = onward_next (suc n) 0 n ∙ ap (next (suc n)) (onward_first (suc n) n (omega arith)) ∙ next_last (suc n) n (omega arith)
onward_round (suc n) (suc i) h =
    let e : next (suc n) i ≡ suc i = next_on (suc n) i h in
    let before : onward (suc n) i (suc n) ≡ i = onward_round (suc n) i (omega arith) in
    ap (λ k. onward (suc n) k (suc n)) (sym e) ∙ onward_next (suc n) i (suc n) ∙ ap (next (suc n)) before ∙ e
onward_round zero i h = omega arith

pub met_round : (n : ℕ) (f : ℕ → ℕ) (i : ℕ) → i < n → met n f i n ≡ sum f n
met_round n f zero h = met_first n f n (omega arith)
met_round n f (suc i) h =
    let e : next n i ≡ suc i = next_on n i h in
    let before : met n f i n ≡ sum f n = met_round n f i (omega arith) in
    let first : met n f i (suc n) ≡ f i + met n f (suc i) n = ap (λ k. f i + met n f k n) e in
    let last : met n f i (suc n) ≡ met n f i n + f i = met_snoc n f i n ∙ ap (λ k. met n f i n + f k) (onward_round n i (omega arith)) in
    omega arith

-- q whole rounds and r places more
pub met_rounds : (n : ℕ) (f : ℕ → ℕ) (i q r : ℕ) → i < n → met n f i (q * n + r) ≡ q * sum f n + met n f i r
met_rounds n f i zero r h =
    let none : zero * n + r ≡ r = omega arith in
    let same : met n f i (zero * n + r) ≡ met n f i r = ap (met n f i) none in
    omega arith
met_rounds n f i (suc q) r h =
    let more : suc q * n + r ≡ n + (q * n + r) = omega arith in
    let split : met n f i (suc q * n + r) ≡ met n f i n + met n f i (q * n + r) = ap (met n f i) more ∙ met_plus n f i n (q * n + r) ∙ ap (λ k. met n f i n + met n f k (q * n + r)) (onward_round n i h) in
    omega (arith, met_rounds n f i q r h, met_round n f i h)

pub top_rounds : (n : ℕ) (f : ℕ → ℕ) (q r : ℕ) → 0 < n → top (λ i. met n f i (q * n + r)) n ≡ q * sum f n + top (λ i. met n f i r) n
top_rounds zero f q r h = omega arith
top_rounds (suc n) f q r h = top_plus (λ i. met (suc n) f i r) (λ i. met (suc n) f i (q * suc n + r)) n (q * sum f (suc n)) (λ p l. met_rounds (suc n) f p q r l)

-- the largest run of m places: whole rounds and the largest run of what is left
pub top_split : (n : ℕ) (f : ℕ → ℕ) (m : ℕ) → 0 < n → top (λ i. met n f i m) n ≡ m / n * sum f n + top (λ i. met n f i (m % n)) n
top_split n f m h = ap (λ k. top (λ i. met n f i k) n) (sym (div-add-mod' m n)) ∙ top_rounds n f (m / n) (m % n) h

-- the run one place further on: the first place goes, one place comes at the end
pub met_slides : (n : ℕ) (f : ℕ → ℕ) (i m : ℕ) → f i + met n f (next n i) m ≡ met n f i m + f (onward n i m)
met_slides n f i m = met_snoc n f i m

-- functions that agree on the places of the cycle
pub sum_same : (f g : ℕ → ℕ) (n : ℕ) → ((p : ℕ) → p < n → f p ≡ g p) → sum f n ≡ sum g n
sum_same f g zero h = refl
sum_same f g (suc n) h = omega (arith, sum_same f g n (λ p l. h p (omega arith)), h n (omega arith))

pub met_same : (n : ℕ) (f g : ℕ → ℕ) (i m : ℕ) → ((p : ℕ) → p < n → f p ≡ g p) → i < n → met n f i m ≡ met n g i m
met_same n f g i zero h l = refl
met_same n f g i (suc m) h l = omega (arith, h i l, met_same n f g (next n i) m h (next_within n i (omega arith)))

pub top_same : (f g : ℕ → ℕ) (n : ℕ) → ((p : ℕ) → p < n → f p ≡ g p) → top f n ≡ top g n
top_same f g zero h = refl
top_same f g (suc n) h = omega (arith, top_same f g n (λ p l. h p (omega arith)), h n (omega arith))

-- where m steps lead, for less than a round
pub onward_at : (n i m : ℕ) → i < n → m < n → onward n i m ≡ cond (ltb (i + m) n) (i + m) (i + m - n)
onward_at n i zero h l = grind (arith, nat_tests)
onward_at n i (suc m) h l =
    let before : onward n i m ≡ cond (ltb (i + m) n) (i + m) (i + m - n) = onward_at n i m h (omega arith) in
    onward_next n i m ∙ ap (next n) before ∙ wraps
  where
    wraps : next n (cond (ltb (i + m) n) (i + m) (i + m - n)) ≡ cond (ltb (i + suc m) n) (i + suc m) (i + suc m - n)
    wraps = grind (arith, nat_tests)
