-- The soonest arrival times. After offers were taken at some times, the next arrival can be at a time e and at none
-- before, so one more offer is explained exactly when e is not after it.
use Rattle.std.proofs.Common.{◌≡◌, ℕ, ◌+◌, ◌-◌, ◌<◌, ◌≤◌, max, cond, ltb, ◌⊎◌, List, [], ◌∷◌, ◌++◌, length, get_or, inl, inr, arith}
use Rattle.std.proofs.lemmas.List.{length_push, get_or_push, get_or_append_left}
use Rattle.std.proofs.lemmas.Bool.{cases_lt, lt-ltb, le-ltb, cond-true, cond-false}
use Rattle.arrivals.specs.Times.{Explains, Explained}

-- x is at least T from each of a 0 .. a (n - 1)
abbrev pub AllApart : ℕ → ℕ → (ℕ → ℕ) → ℕ → Type 0
AllApart T n a x = (i : ℕ) → i < n → (a i + T ≤ x) ⊎ (x + T ≤ a i)

-- the first n are as a says, the one after them is x
pub put : ℕ → (ℕ → ℕ) → ℕ → ℕ → ℕ
put n a x i = cond (ltb i n) (a i) x

put_old : (n : ℕ) (a : ℕ → ℕ) (x i : ℕ) → i < n → put n a x i ≡ a i
unfolding put
put_old n a x i h = cond-true (ltb i n) (a i) x (lt-ltb i n h)

put_new : (n : ℕ) (a : ℕ → ℕ) (x i : ℕ) → n ≤ i → put n a x i ≡ x
unfolding put
put_new n a x i h = cond-false (ltb i n) (a i) x (le-ltb i n h)

-- one offer more, at time t
module _ (T J : ℕ) (ts : List ℕ) (t : ℕ) where
  old_time : (i : ℕ) → i < length ts → get_or (ts ++ t ∷ []) i 0 ≡ get_or ts i 0
  old_time i h = get_or_append_left ts (t ∷ []) 0 i h

  new_time : (i : ℕ) → i < length (ts ++ t ∷ []) → length ts ≤ i → get_or (ts ++ t ∷ []) i 0 ≡ t
  new_time i h l = get_or_push ts t 0 i (omega (arith, length_push ts t))

  pub explains_more : (a : ℕ → ℕ) (x : ℕ) → Explains T J ts a → x ≤ t → t ≤ x + J → AllApart T (length ts) a x → Explains T J (ts ++ t ∷ []) (put (length ts) a x)
  explains_more a x h low high far =
      record {
        before = λ i l. elim (cases_lt i (length ts)) [ inl o ↦ omega (arith, old_time i o, put_old (length ts) a x i o, h.before i o) | inr o ↦ omega (arith, new_time i l o, put_new (length ts) a x i o) ];
        within = λ i l. elim (cases_lt i (length ts)) [ inl o ↦ omega (arith, old_time i o, put_old (length ts) a x i o, h.within i o) | inr o ↦ omega (arith, new_time i l o, put_new (length ts) a x i o) ];
        apart = λ i j l m ne. elim (cases_lt i (length ts)) [ inl o ↦ elim (cases_lt j (length ts)) [ inl p ↦ both i j o p (h.apart i j o p ne) | inr p ↦ left i j o p (far i o) ] | inr o ↦ elim (cases_lt j (length ts)) [ inl p ↦ right i j o p (far j p) | inr p ↦ absurd (ne (omega (arith, length_push ts t))) ] ];
      }
    where
      both : (i j : ℕ) → i < length ts → j < length ts → (a i + T ≤ a j) ⊎ (a j + T ≤ a i) → (put (length ts) a x i + T ≤ put (length ts) a x j) ⊎ (put (length ts) a x j + T ≤ put (length ts) a x i)
      both i j o p d = elim d [ inl e ↦ inl (omega (arith, put_old (length ts) a x i o, put_old (length ts) a x j p)) | inr e ↦ inr (omega (arith, put_old (length ts) a x i o, put_old (length ts) a x j p)) ]

      left : (i j : ℕ) → i < length ts → length ts ≤ j → (a i + T ≤ x) ⊎ (x + T ≤ a i) → (put (length ts) a x i + T ≤ put (length ts) a x j) ⊎ (put (length ts) a x j + T ≤ put (length ts) a x i)
      left i j o p d = elim d [ inl e ↦ inl (omega (arith, put_old (length ts) a x i o, put_new (length ts) a x j p)) | inr e ↦ inr (omega (arith, put_old (length ts) a x i o, put_new (length ts) a x j p)) ]

      right : (i j : ℕ) → length ts ≤ i → j < length ts → (a j + T ≤ x) ⊎ (x + T ≤ a j) → (put (length ts) a x i + T ≤ put (length ts) a x j) ⊎ (put (length ts) a x j + T ≤ put (length ts) a x i)
      right i j o p d = elim d [ inl e ↦ inr (omega (arith, put_new (length ts) a x i o, put_old (length ts) a x j p)) | inr e ↦ inl (omega (arith, put_new (length ts) a x i o, put_old (length ts) a x j p)) ]

  -- what arrival times for all the offers say of the last
  module _ (a : ℕ → ℕ) (h : Explains T J (ts ++ t ∷ []) a) where
    last : length ts < length (ts ++ t ∷ [])
    last = omega (arith, length_push ts t)

    inside : (i : ℕ) → i < length ts → i < length (ts ++ t ∷ [])
    inside i l = omega (arith, length_push ts t)

    pub explains_less : Explains T J ts a
    explains_less =
        record {
          before = λ i l. omega (arith, old_time i l, h.before i (inside i l));
          within = λ i l. omega (arith, old_time i l, h.within i (inside i l));
          apart = λ i j l m ne. h.apart i j (inside i l) (inside j m) ne;
        }

    pub last_before : a (length ts) ≤ t
    last_before = omega (arith, new_time (length ts) last (omega arith), h.before (length ts) last)

    pub last_within : t ≤ a (length ts) + J
    last_within = omega (arith, new_time (length ts) last (omega arith), h.within (length ts) last)

    pub last_apart : AllApart T (length ts) a (a (length ts))
    last_apart i l = h.apart i (length ts) (inside i l) last (λ e. omega arith)

-- after offers at the times ts, at time t, the next arrival can be at e: there are arrival times that leave room for it,
-- and no arrival times let an offer from now on have an arrival before e
pub record Next (T J : ℕ) (ts : List ℕ) (t e : ℕ) : Type 0 where
  pub arrive : ℕ → ℕ
  pub explains : Explains T J ts arrive
  pub room : (i : ℕ) → i < length ts → arrive i + T ≤ e
  pub soonest : (a : ℕ → ℕ) → Explains T J ts a → (x s : ℕ) → t ≤ s → x ≤ s → s ≤ x + J → AllApart T (length ts) a x → e ≤ x

pub next_none : (T J : ℕ) → Next T J [] J 0
next_none T J =
    record {
      arrive = λ _. 0;
      explains = record { before = λ i l. omega arith; within = λ i l. omega arith; apart = λ i j l m ne. absurd (omega arith) };
      room = λ i l. omega arith;
      soonest = λ a h x s p q r far. omega arith;
    }

module _ (T J : ℕ) (ts : List ℕ) (t e : ℕ) (small : J < T) (h : Next T J ts t e) where
  pub next_tick : Next T J ts (t + 1) e
  next_tick = record { arrive = h.arrive; explains = h.explains; room = h.room; soonest = λ a k x s p q r far. h.soonest a k x s (omega arith) q r far }

  with_here : e ≤ t → Explains T J (ts ++ t ∷ []) (put (length ts) h.arrive (max e (t - J)))
  with_here le = explains_more T J ts t h.arrive (max e (t - J)) h.explains (omega arith) (omega arith) (λ i l. inl (omega (arith, h.room i l)))

  -- one more offer now is explained exactly when e is not after it
  pub explained_from : e ≤ t → Explained T J (ts ++ t ∷ [])
  explained_from le = (put (length ts) h.arrive (max e (t - J)), with_here le)

  soonest_last : (a : ℕ → ℕ) → Explains T J (ts ++ t ∷ []) a → e ≤ a (length ts)
  soonest_last a k = h.soonest a (explains_less T J ts t a k) (a (length ts)) t (omega arith) (last_before T J ts t a k) (last_within T J ts t a k) (last_apart T J ts t a k)

  pub from_explained : Explained T J (ts ++ t ∷ []) → e ≤ t
  from_explained k = omega (arith, soonest_last k.0 k.1, last_before T J ts t k.0 k.1)

  pub next_taken : e ≤ t → Next T J (ts ++ t ∷ []) t (max e (t - J) + T)
  next_taken le =
      record {
        arrive = put (length ts) h.arrive (max e (t - J));
        explains = with_here le;
        room = λ i l. elim (cases_lt i (length ts)) [ inl o ↦ omega (arith, put_old (length ts) h.arrive (max e (t - J)) i o, h.room i o) | inr o ↦ omega (arith, put_new (length ts) h.arrive (max e (t - J)) i o) ];
        soonest = λ a k x s p q r far. elim (far (length ts) (omega (arith, length_push ts t))) [ inl d ↦ omega (arith, soonest_last a k, last_within T J ts t a k) | inr d ↦ absurd (omega (arith, last_before T J ts t a k)) ];
      }
