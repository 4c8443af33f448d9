-- What is wrong with a pace, or with one more part, keeps to the law of refusals.
use Rattle.std.proofs.Common.{Some, None, ◌≡◌, ◌↔◌, ℕ, zero, suc, ◌<◌, ◌≤◌, ◌⊎◌, Bool, true, false, leb, ltb, List, [], ◌∷◌, length, Option, All, refl, sym, subst, inl, inr, arith}
use Rattle.std.specs.List.{Any, Contains}
use Rattle.std.proofs.lemmas.Bool.{cases_Bool, and_parts, leb-false}
use Rattle.std.proofs.lemmas.Bool.Decides.{nat_tests}
use Rattle.refusal.specs.Laws.{FirstBroken}
use Rattle.refusal.specs.declared.Fault.{Fault}
use Rattle.refusal.specs.declared.Fault.TheVariants.{TooMany, OutOfRange, Misfit}
use Rattle.refusal.proofs.Firsts.{tests_broken, fails}
use Rattle.paced.specs.declared.row.Pace.{Pace}
use Rattle.paced.specs.Makes.{Asked, asked, given_right, in_range, all_in_range, fault_of, adding, PaceBreaks, PartBreaks}

-- a number that may not be given is 0 or above 1,000,000
outside : (x : ℕ) → in_range x ≡ false → (x ≡ 0) ⊎ (1000000 < x)
outside zero e = inl refl
outside (suc x) e = inr (grind (arith, nat_tests))

some_outside : (xs : List ℕ) → all_in_range xs ≡ false → Contains xs 0 ⊎ Any (λ number. 1000000 < number) xs
some_outside [] e = cc
some_outside (x ∷ xs) e = elim (cases_Bool (in_range x)) [
  | inl t ↦ elim (some_outside xs (grind (arith, nat_tests))) [ inl (k, l, i) ↦ inl (suc k, omega arith, i) | inr (k, n, l, i, p) ↦ inr (suc k, n, omega arith, i, p) ]
  | inr f ↦ elim (outside x f) [ inl i ↦ inl (0, omega arith, i) | inr p ↦ inr (0, x, omega arith, refl, p) ]
]

none_outside : (xs : List ℕ) → all_in_range xs ≡ true → All (λ number. (1 ≤ number) × (number ≤ 1000000)) xs
none_outside [] e i d l = absurd (omega arith)
none_outside (x ∷ xs) e zero d l = let here = (and_parts (in_range x) (all_in_range xs) e).0 in grind (arith, nat_tests)
none_outside (x ∷ xs) e (suc i) d l = none_outside xs (and_parts (in_range x) (all_in_range xs) e).1 i d (omega arith)

wrong : (a : Asked) → given_right a ≡ false → PaceBreaks a OutOfRange
unfolding PaceBreaks
wrong a e = elim (cases_Bool (in_range a.period)) [
  | inr period ↦ elim (outside a.period period) [ inl i ↦ inl (0, omega arith, i) | inr p ↦ inr (inr (0, a.period, omega arith, refl, p)) ]
  | inl period ↦ elim (cases_Bool (leb a.jitter 1000000)) [
    | inr jitter ↦ inr (inr (1, a.jitter, omega arith, refl, leb-false a.jitter 1000000 jitter))
    | inl jitter ↦ elim (cases_Bool (leb 1 (length a.costs))) [
      | inr none ↦ inr (inl (let less = leb-false 1 (length a.costs) none in omega arith))
      | inl some ↦ elim (some_outside a.costs (grind (arith, nat_tests))) [ inl (k, l, i) ↦ inl (suc k, omega arith, i) | inr (k, n, l, i, p) ↦ inr (inr (suc (suc k), n, omega arith, i, p)) ]
    ]
  ]
]

right : (a : Asked) → given_right a ≡ true → PaceBreaks a OutOfRange → ⊥
unfolding PaceBreaks
right a e (inl (zero, l, i)) = grind (arith, nat_tests)
right a e (inl (suc k, l, i)) = omega (arith, i, none_outside a.costs (grind (arith, nat_tests)) k 0 (omega arith))
right a e (inr (inl none)) = grind (arith, nat_tests)
right a e (inr (inr (zero, n, l, i, p))) = grind (arith, nat_tests)
right a e (inr (inr (suc zero, n, l, i, p))) = grind (arith, nat_tests)
right a e (inr (inr (suc (suc k), n, l, i, p))) = omega (arith, i, p, none_outside a.costs (grind (arith, nat_tests)) k n (omega arith))

-- the tests of a pace in their order, and that each is not passed just if its rule is broken
abbrev pace_tests : Asked → List (Fault × Bool)
pace_tests a = (TooMany, leb (length a.costs) 8) ∷ (OutOfRange, given_right a) ∷ (Misfit, ltb a.jitter a.period) ∷ []

pace_fails : (a : Asked) (f : Fault) → (fails (pace_tests a) f ≡ true) ↔ PaceBreaks a f
unfolding PaceBreaks
pace_fails a TooMany = (λ h. grind (arith, nat_tests), λ h. grind (arith, nat_tests))
pace_fails a OutOfRange = (λ h. wrong a (grind (arith, nat_tests)), λ h. elim (cases_Bool (given_right a)) [ inl e ↦ absurd (right a e h) | inr e ↦ grind (arith, nat_tests) ])
pace_fails a Misfit = (λ h. grind (arith, nat_tests), λ h. grind (arith, nat_tests))
pace_fails a other = (λ h. cc, λ h. absurd h)

pub pace_broken : (a : Asked) (x : Option Fault) → x ≡ fault_of a → FirstBroken (PaceBreaks a) x
pace_broken a x e = subst (FirstBroken (PaceBreaks a)) (sym e) (tests_broken (PaceBreaks a) (pace_tests a) refl (pace_fails a))

part_fails : (most n : ℕ) (a : Asked) (f : Fault) → (fails ((TooMany, ltb n most) ∷ pace_tests a) f ≡ true) ↔ PartBreaks most n a f
unfolding PaceBreaks PartBreaks
part_fails most n a TooMany = (λ h. elim (cases_Bool (ltb n most)) [ inl t ↦ inr (grind (arith, nat_tests)) | inr f ↦ inl (grind (arith, nat_tests)) ], λ h. elim h [ inl p ↦ grind (arith, nat_tests) | inr q ↦ grind (arith, nat_tests) ])
part_fails most n a OutOfRange = pace_fails a OutOfRange
part_fails most n a Misfit = pace_fails a Misfit
part_fails most n a other = (λ h. cc, λ h. absurd h)

pub part_broken : (most n : ℕ) (a : Asked) (x : Option Fault) → x ≡ adding most n a → FirstBroken (PartBreaks most n a) x
part_broken most n a x e = subst (FirstBroken (PartBreaks most n a)) (sym e) (tests_broken (PartBreaks most n a) ((TooMany, ltb n most) ∷ pace_tests a) refl (part_fails most n a))

-- the same at each of these tests, as the code makes them: `grind` finds the pace in its costs
pub pace_many : (p : Pace) → 8 < length p.costs.now → FirstBroken (PaceBreaks (asked p)) (Some TooMany)
pace_many p h = pace_broken (asked p) (Some TooMany) (grind (arith, nat_tests))

pub pace_range : (p : Pace) → length p.costs.now ≤ 8 → given_right (asked p) ≡ false → FirstBroken (PaceBreaks (asked p)) (Some OutOfRange)
pace_range p h e = pace_broken (asked p) (Some OutOfRange) (grind (arith, nat_tests))

pub pace_misfit : (p : Pace) → length p.costs.now ≤ 8 → given_right (asked p) ≡ true → p.period ≤ p.jitter → FirstBroken (PaceBreaks (asked p)) (Some Misfit)
pace_misfit p h e k = pace_broken (asked p) (Some Misfit) (grind (arith, nat_tests))

pub pace_fine : (p : Pace) → length p.costs.now ≤ 8 → given_right (asked p) ≡ true → p.jitter < p.period → FirstBroken (PaceBreaks (asked p)) None
pace_fine p h e k = pace_broken (asked p) None (grind (arith, nat_tests))
