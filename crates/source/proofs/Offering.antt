-- What it takes to offer a part all that it may bring.
use Rattle.std.proofs.Common.{◌≡◌, ℕ, Bool, true, false, cond, Some, None, Option, unwrap_or, sym, refl, ap, ◌∙◌, inl, inr, arith}
use Rattle.std.proofs.lemmas.Bool.{both_ways, cases_lt}
use Rattle.source.specs.Facts.{Work, is_part, offerable, Sound}
use Rattle.source.proofs.Parts.{offerable_from}

module _ (w : Work) (a : ℕ → ℕ → ℕ) (sound : Sound w a) (k : ℕ) where
  outside_none : is_part w.parts k ≡ false → a k 1 ≡ 0
  outside_none e = omega (arith, sound.outside k 1 e, sound.within k 1)

  -- the allowance of a part, and 0 for any other number, is what is allowed
  pub all_is : (o : Option ℕ) → o ≡ cond (is_part w.parts k) (Some (a k 1)) None → unwrap_or o 0 ≡ a k 1
  all_is o e = ap (λ x. unwrap_or x 0) e ∙ go (is_part w.parts k) refl
    where
      go : (b : Bool) → is_part w.parts k ≡ b → unwrap_or (cond b (Some (a k 1)) None) 0 ≡ a k 1
      go true e = refl
      go false e = sym (outside_none e)

  -- if all that is allowed is not taken, nothing is allowed
  pub none_left : (u : ℕ) → u ≡ a k 1 → false ≡ offerable w.parts a k u → a k 1 ≡ 0
  none_left u e refused = go (is_part w.parts k) refl
    where
      go : (b : Bool) → is_part w.parts k ≡ b → a k 1 ≡ 0
      go true p = elim (cases_lt 0 u) [ inl some ↦ absurd (both_ways (offerable w.parts a k u) (sym refused) (offerable_from w.parts a k u p some (omega arith))) | inr none ↦ omega arith ]
      go false p = outside_none p

-- where an offer of all that a part may bring is not taken, that was nothing
pub nothing_offered : (w : Work) (a : ℕ → ℕ → ℕ) → Sound w a → (k : ℕ) (o : Option ℕ) (u : ℕ) (taken : Bool) → o ≡ cond (is_part w.parts k) (Some (a k 1)) None → u ≡ unwrap_or o 0 → taken ≡ offerable w.parts a k u → taken ≡ false → a k 1 ≡ 0
nothing_offered w a sound k o u taken e f g h = none_left w a sound k u (f ∙ all_is w a sound k o e) (sym h ∙ g)
