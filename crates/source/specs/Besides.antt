-- Two sources side by side are a source, and two gates a gate.
-- Lemmas only, which laws of traits cite; a reader of the definitions can pass over them.
use Rattle.std.specs.Prelude.{◌≡◌, ℕ, ◌+◌, ◌-◌, ◌<◌, ◌≤◌, Bool, true, false, cond, MatchBool, nat_le, refl}
use Rattle.std.proofs.Common.{sym, ap, subst, arith}
use Rattle.std.proofs.lemmas.Bool.{leb-true, leb-false}
use Rattle.std.proofs.lemmas.Bool.Decides.{nat_tests}
use Rattle.source.specs.Facts.{Work, Moves, is_part, Sound, Taken, Ticked, Driven}
use Rattle.source.specs.Sides.{both, beside, TakesBeside}

-- by the side on which part k lies
beside_by : (R : ℕ → ℕ → Type 0) (m : ℕ) (f g f' g' : ℕ → ℕ → ℕ) (k l l' : ℕ) → (k ≤ m → R (f k l) (f' k l')) → (m < k → k ≤ 1000 → R (g (k - m) l) (g' (k - m) l')) → (m < k → 1000 < k → R 0 0) → R (beside m f g k l) (beside m f' g' k l')
beside_by R m f g f' g' k l l' left right none = go (nat_le k m) (nat_le k 1000) refl refl
  where
    go : (b c : Bool) → nat_le k m ≡ b → nat_le k 1000 ≡ c → R (cond b (f k l) (cond c (g (k - m) l) 0)) (cond b (f' k l') (cond c (g' (k - m) l') 0))
    go true c p q = left (leb-true k m p)
    go false true p q = right (leb-false k m p) (leb-true k 1000 q)
    go false false p q = none (leb-false k m p) (leb-false k 1000 q)

pub beside_sound : (v w : Work) (a b : ℕ → ℕ → ℕ) → Sound v a → Sound w b → Sound (both v w) (beside v.parts a b)
beside_sound v w a b s t =
    record {
      few = omega arith;
      none = λ k. beside_by (λ x y. x ≡ 0) m f g f g k 0 0 (λ _. s.none k) (λ _ _. t.none (k - m)) (λ _ _. refl);
      outside = λ k l e. beside_by (λ x y. x ≡ 0) m f g f g k l l (λ h. s.outside k l (left_outside k e)) (λ h i. t.outside (k - m) l (right_outside k e h i)) (λ _ _. refl);
      rises = λ k l l' h. beside_by (λ x y. x ≤ y) m f g f g k l l' (λ _. s.rises k l l' h) (λ _ _. t.rises (k - m) l l' h) (λ _ _. omega arith);
      small = λ k l h. beside_by (λ x y. x ≤ 10000000000000) m f g f g k l l (λ _. s.small k l h) (λ _ _. t.small (k - m) l h) (λ _ _. omega arith);
      within = λ k l. beside_by (λ x y. x ≤ y) m a b f g k l l (λ _. s.within k l) (λ _ _. t.within (k - m) l) (λ _ _. omega arith);
    }
  where
    m : ℕ
    m = v.parts

    f : ℕ → ℕ → ℕ
    f = v.demand

    g : ℕ → ℕ → ℕ
    g = w.demand

    left_outside : (k : ℕ) → is_part (both v w).parts k ≡ false → is_part v.parts k ≡ false
    left_outside k e = let few = s.few in grind (arith, nat_tests)

    right_outside : (k : ℕ) → is_part (both v w).parts k ≡ false → v.parts < k → k ≤ 1000 → is_part w.parts (k - v.parts) ≡ false
    right_outside k e h i = grind (arith, nat_tests)

-- what is kept on both sides is kept
pub both_kept : (v w v' w' : Work) → v' ≡ v → w' ≡ w → both v' w' ≡ both v w
both_kept v w v' w' p q = λ i. both (p i) (q i)

taken_left : (m m' : ℕ) (a a' b b' : ℕ → ℕ → ℕ) (k u : ℕ) → m' ≡ m → b' ≡ b → k ≤ m → Taken a k u a' → Taken (beside m a b) k u (beside m' a' b')
taken_left m m' a a' b b' k u e same h t =
    subst
    (λ x. Taken (beside m a b) k u x)
    (λ i. beside (sym e i) a' (sym same i))
    (record {
      within = λ l p. beside_by (λ x y. u + x ≤ y) m a' b a b k l l (λ _. t.within l p) (λ g _. omega arith) (λ g _. omega arith);
      others = λ j l ne. beside_by (λ x y. x ≡ y) m a' b a b j l l (λ _. t.others j l ne) (λ _ _. refl) (λ _ _. refl);
    })

taken_right : (m m' : ℕ) (a a' b b' : ℕ → ℕ → ℕ) (k u : ℕ) → m' ≡ m → a' ≡ a → m < k → k ≤ 1000 → Taken b (k - m) u b' → Taken (beside m a b) k u (beside m' a' b')
taken_right m m' a a' b b' k u e same h i t =
    subst
    (λ x. Taken (beside m a b) k u x)
    (λ j. beside (sym e j) (sym same j) b')
    (record {
      within = λ l p. beside_by (λ x y. u + x ≤ y) m a b' a b k l l (λ g. omega arith) (λ _ _. t.within l p) (λ _ g. omega arith);
      others = λ j l ne. beside_by (λ x y. x ≡ y) m a b' a b j l l (λ _. refl) (λ g _. t.others (j - m) l (λ e. ne (omega arith))) (λ _ _. refl);
    })

beside_ticked : (m m' : ℕ) (a a' b b' : ℕ → ℕ → ℕ) → m' ≡ m → Ticked a a' → Ticked b b' → Ticked (beside m a b) (beside m' a' b')
beside_ticked m m' a a' b b' e s t =
    subst
    (λ x. Ticked (beside m a b) (beside x a' b'))
    (sym e)
    (record { shorter = λ k l. beside_by (λ x y. x ≤ y) m a' b' a b k l (l + 1) (λ _. s.shorter k l) (λ _ _. t.shorter (k - m) l) (λ _ _. omega arith) })

module _ {S T : Type 0} (v : S → Work) (a : S → ℕ → ℕ → ℕ) (movesˡ : Moves S) (w : T → Work) (b : T → ℕ → ℕ → ℕ) (movesʳ : Moves T)
    (left : Driven v a movesˡ) (right : Driven w b movesʳ) where
  -- an offer goes to the side on which its part lies
  pub pair_taken : (s t : S) (x y : T) (k u : ℕ) → TakesBeside movesˡ movesʳ (v s).parts s x k u t y → (both (v t) (w y) ≡ both (v s) (w x)) × Taken (beside (v s).parts (a s) (b x)) k u (beside (v t).parts (a t) (b y))
  pair_taken s t x y k u = go (nat_le k (v s).parts) refl
    where
      go : (c : Bool) → nat_le k (v s).parts ≡ c → MatchBool c (movesˡ.takes s k u t × (y ≡ x)) ((k ≤ 1000) × movesʳ.takes x (k - (v s).parts) u y × (t ≡ s)) → (both (v t) (w y) ≡ both (v s) (w x)) × Taken (beside (v s).parts (a s) (b x)) k u (beside (v t).parts (a t) (b y))
      go true p h =
          let l = left.taken s t k u h.0 in (
            both_kept (v s) (w x) (v t) (w y) l.0 (ap w h.1),
            taken_left (v s).parts (v t).parts (a s) (a t) (b x) (b y) k u (ap (λ z. z.parts) l.0) (ap b h.1) (leb-true k (v s).parts p) l.1,
          )
      go false p h =
          let r = right.taken x y (k - (v s).parts) u h.1 in (
            both_kept (v s) (w x) (v t) (w y) (ap v h.2) r.0,
            taken_right (v s).parts (v t).parts (a s) (a t) (b x) (b y) k u (ap (λ z. (v z).parts) h.2) (ap a h.2) (leb-false k (v s).parts p) h.0 r.1,
          )

  pub pair_ticked : (s t : S) (x y : T) → movesˡ.ticks s t × movesʳ.ticks x y → (both (v t) (w y) ≡ both (v s) (w x)) × Ticked (beside (v s).parts (a s) (b x)) (beside (v t).parts (a t) (b y))
  pair_ticked s t x y h =
      let l = left.ticked s t h.0 in
      let r = right.ticked x y h.1 in (
        both_kept (v s) (w x) (v t) (w y) l.0 r.0,
        beside_ticked (v s).parts (v t).parts (a s) (a t) (b x) (b y) (ap (λ z. z.parts) l.0) l.1 r.1,
      )
