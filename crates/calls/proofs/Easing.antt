-- A call that is no tick, point by point: nothing that the facts speak of rises.
use Rattle.std.proofs.Common.{◌≡◌, ℕ, ◌+◌, ◌<◌, ◌≤◌, cond, eqb, ltb, ◌≢◌, ◌⊎◌, inl, inr, sym, refl, ap, ◌∙◌, subst, arith}
use Rattle.std.proofs.lemmas.Bool.Decides.{nat_tests}
use Rattle.std.proofs.lemmas.Bool.{cases_eq, cases_lt, cond-false, ne_eqb}
use Rattle.source.specs.Facts.{Taken}
use Rattle.calls.specs.States.{upto, Plan, State}
use Rattle.calls.specs.Steps.{Offered, Released, Granted, LetGone, Ended}
use Rattle.calls.proofs.Totals.{upto_zero}
use Rattle.calls.proofs.Facts.{below, Holding, Sane}

pub record Eased (p : Plan) (s t : State) : Type 0 where
  pub flood : (k m : ℕ) → 1 ≤ m → t.backlog k + t.bank k m ≤ s.backlog k + s.bank k m
  pub ahead : (i m : ℕ) → 1 ≤ m → t.left i + t.tasks i m ≤ s.left i + s.tasks i m
  pub coming : (i m : ℕ) → 1 ≤ m → t.tasks i m ≤ s.tasks i m
  pub age : (i : ℕ) → t.age i ≤ s.age i
  pub below : (i : ℕ) → 1 ≤ upto t.left i → below t i ≤ below s i
  pub sane : Sane p t

-- a hold stays right where its units are still within those left of its job
holding_stays : (p : Plan) (left left' : ℕ → ℕ) (x u : ℕ) → (1 ≤ u → u ≤ left x → u ≤ left' x) → Holding p left x u → Holding p left' x u
holding_stays p left left' x u h (inl none) = inl none
holding_stays p left left' x u h (inr some) = inr (some.0, some.1, some.2, some.3, h some.2 some.4)

-- what one taken offer makes of a function of the number of a part, with u put where it was taken
taken_at : (a a' : ℕ → ℕ → ℕ) (f f' : ℕ → ℕ) (k u : ℕ) → Taken a k u a' → ((j : ℕ) → f' j ≡ cond (eqb j k) (f j + u) (f j)) → (j m : ℕ) → 1 ≤ m → f' j + a' j m ≤ f j + a j m
taken_at a a' f f' k u taken put j m h =
    elim (cases_eq j k) [
      | inl e ↦ (
          let w : u + a' k m ≤ a k m = taken.within m h in
          let same : a' j m ≡ a' k m = ap (λ x. a' x m) e in
          let same' : a j m ≡ a k m = ap (λ x. a x m) e in
          let new = put j in
          grind (arith, nat_tests))
      | inr ne ↦ (
          let w : a' j m ≡ a j m = taken.others j m ne in
          let new = put j in
          grind (arith, nat_tests))
    ]

-- of a function that is 0 before, it leaves that what is allowed falls
taken_falls : (a a' : ℕ → ℕ → ℕ) (k u : ℕ) → Taken a k u a' → (j m : ℕ) → 1 ≤ m → a' j m ≤ a j m
taken_falls a a' k u taken j m h = omega (arith, taken_at a a' (λ _. 0) (λ j. cond (eqb j k) (0 + u) 0) k u taken (λ _. refl) j m h)

pub eased_same : (p : Plan) (s t : State) → Sane p s → t ≡ s → Eased p s t
eased_same p s t sane e = subst (λ x. Eased p s x) (sym e) (record {
  flood = λ k m h. omega arith;
  ahead = λ i m h. omega arith;
  coming = λ i m h. omega arith;
  age = λ i. omega arith;
  below = λ i h. omega arith;
  sane = sane;
})

pub eased_offered : (p : Plan) (s t : State) (k u : ℕ) → Sane p s → Offered s k u t → Eased p s t
eased_offered p s t k u sane h = subst (λ x. Eased p s x) (sym h.rest) (record {
  flood = taken_at s.bank t.bank s.backlog t.backlog k u h.taken h.backlog;
  ahead = λ i m h. omega arith;
  coming = λ i m h. omega arith;
  age = λ i. omega arith;
  below = λ i h. omega arith;
  sane = record { zeroth = sane.zeroth; outside = sane.outside; ageless = sane.ageless; hold = sane.hold };
})

-- u units of a task whose job is not pending
released_at : (a a' : ℕ → ℕ → ℕ) (f f' : ℕ → ℕ) (k u : ℕ) → f k ≡ 0 → Taken a k u a' → ((j : ℕ) → f' j ≡ cond (eqb j k) u (f j)) → (j m : ℕ) → 1 ≤ m → f' j + a' j m ≤ f j + a j m
released_at a a' f f' k u none taken put =
    taken_at a a' f f' k u taken (λ j. elim (cases_eq j k) [ inl e ↦ (let here : f j ≡ 0 = ap f e ∙ none in let new = put j in grind (arith, nat_tests)) | inr ne ↦ (let new = put j in grind (arith, nat_tests)) ])

pub eased_released : (p : Plan) (s t : State) (i u : ℕ) → Sane p s → Released p s i u t → Eased p s t
eased_released p s t i u sane h = subst (λ x. Eased p s x) (sym h.rest) (record {
  flood = λ k m h. omega arith;
  ahead = released_at s.tasks t.tasks s.left t.left i u h.none h.taken h.left;
  coming = taken_falls s.tasks t.tasks i u h.taken;
  age = λ j. (let new = h.age j in grind (arith, nat_tests));
  below = λ j h. omega arith;
  sane = record {
    zeroth = (let new = h.left 0 in let was = sane.zeroth in let first = h.first in grind (arith, nat_tests));
    outside = λ j out. (let new = h.left j in let was = sane.outside j out in let last = h.last in grind (arith, nat_tests));
    ageless = λ j none. (let new = h.left j in let new' = h.age j in let was = sane.ageless j in let some = h.some in grind (arith, nat_tests));
    hold = holding_stays p s.left t.left s.holder s.held (other (cases_eq s.holder i)) sane.hold;
  };
})
  where
    other : (s.holder ≡ i) ⊎ (s.holder ≢ i) → 1 ≤ s.held → s.held ≤ s.left s.holder → s.held ≤ t.left s.holder
    other (inl e) a b = (let same : s.left s.holder ≡ s.left i = ap s.left e in let none = h.none in absurd (omega arith))
    other (inr ne) a b = let new = h.left s.holder in grind (arith, nat_tests)

-- a hold is granted only to the highest task with a job: seen from a task that a job goes before, nothing holds below it
pub eased_granted : (p : Plan) (s t : State) (i u : ℕ) → Sane p s → Granted p s i u t → Eased p s t
eased_granted p s t i u sane h = subst (λ x. Eased p s x) (sym h.rest) (record {
  flood = λ k m h. omega arith;
  ahead = λ j m h. omega arith;
  coming = λ j m h. omega arith;
  age = λ j. omega arith;
  below = λ j busy. none_below j busy (cases_lt j i);
  sane = record {
    zeroth = sane.zeroth;
    outside = sane.outside;
    ageless = sane.ageless;
    hold = inr (h.first, h.last, h.some, h.short, h.within);
  };
})
  where
    none_below : (j : ℕ) → 1 ≤ upto s.left j → (j < i) ⊎ (i ≤ j) → cond (ltb j i) u 0 ≤ cond (ltb j s.holder) s.held 0
    none_below j busy (inl l) = (let none : upto s.left j ≡ 0 = upto_zero s.left j (λ k a b. h.highest k a (omega arith)) in absurd (omega arith))
    none_below j busy (inr g) = grind (arith, nat_tests)

pub eased_let_go : (p : Plan) (s t : State) (i : ℕ) → Sane p s → LetGone s i t → Eased p s t
eased_let_go p s t i sane h = subst (λ x. Eased p s x) (sym h.rest) (record {
  flood = λ k m h. omega arith;
  ahead = λ j m h. omega arith;
  coming = λ j m h. omega arith;
  age = λ j. omega arith;
  below = λ j busy. grind (arith, nat_tests);
  sane = record {
    zeroth = sane.zeroth;
    outside = sane.outside;
    ageless = sane.ageless;
    hold = inl (refl, refl);
  };
})

pub eased_ended : (p : Plan) (s t : State) (i : ℕ) → Sane p s → Ended s i t → Eased p s t
eased_ended p s t i sane h = subst (λ x. Eased p s x) (sym h.rest) (record {
  flood = λ k m h. omega arith;
  ahead = λ j m k. (let new = h.left j in grind (arith, nat_tests));
  coming = λ j m h. omega arith;
  age = λ j. (let new = h.age j in grind (arith, nat_tests));
  below = λ j busy. fewer j;
  sane = record {
    zeroth = (let new = h.left 0 in let was = sane.zeroth in grind (arith, nat_tests));
    outside = λ j out. (let new = h.left j in let was = sane.outside j out in grind (arith, nat_tests));
    ageless = λ j none. (let new = h.left j in let new' = h.age j in let was = sane.ageless j in grind (arith, nat_tests));
    hold = holds sane.hold (cases_eq s.holder i);
  };
})
  where
    fewer : (j : ℕ) → cond (ltb j t.holder) t.held 0 ≤ cond (ltb j s.holder) s.held 0
    fewer j = let a = h.holder in let b = h.held in grind (arith, nat_tests)

    holds : Holding p s.left s.holder s.held → (s.holder ≡ i) ⊎ (s.holder ≢ i) → Holding p t.left t.holder t.held
    holds was (inl e) = let a = h.holder in let b = h.held in inl (grind (arith, nat_tests), grind (arith, nat_tests))
    holds was (inr ne) =
        let a : t.holder ≡ s.holder = h.holder ∙ cond-false (eqb s.holder i) 0 s.holder (ne_eqb s.holder i ne) in
        let b : t.held ≡ s.held = h.held ∙ cond-false (eqb s.holder i) 0 s.held (ne_eqb s.holder i ne) in
        let same : t.left s.holder ≡ s.left s.holder = h.left s.holder ∙ cond-false (eqb s.holder i) 0 (s.left s.holder) (ne_eqb s.holder i ne) in
        let stays : Holding p t.left s.holder s.held = holding_stays p s.left t.left s.holder s.held (λ x y. omega arith) was in
        subst (λ x. Holding p t.left x t.held) (sym a) (subst (λ y. Holding p t.left s.holder y) (sym b) stays)
