-- Which options keep to the law of refusals.
use Rattle.std.proofs.Common.{◌≡◌, ◌↔◌, ℕ, ◌⊎◌, ◌≤◌, ◌&&◌, ◌||◌, Bool, true, false, cond, not, eqb, leb, List, [], ◌∷◌, Option, Some, None, refl, sym, ◌∙◌, subst, inl, inr, arith}
use Rattle.std.specs.Option.{option_or}
use Rattle.std.proofs.lemmas.Bool.{cases_Bool, leb-true, eqb-true, eq-eqb, cond-true, cond-false, and_parts}
use Rattle.std.proofs.lemmas.Bool.Decides.{nat_tests}
use Rattle.refusal.specs.Laws.{FirstBroken}
use Rattle.refusal.specs.Refusals.{refusal_of, named_refusal, fault_in}
use Rattle.refusal.specs.Table.{row, first_of}
use Rattle.refusal.specs.declared.Fault.{Fault}
use Rattle.refusal.specs.declared.Refusal.{Refusal}

-- where no rule is broken
pub none_broken : (A : Fault → Type 0) → ((f : Fault) → A f → ⊥) → FirstBroken A None
none_broken A h = record { none = (λ e. h, λ k. refl); broken = λ f e. cc; smallest = λ f g e b. cc }

-- where the rule of f is broken, and none with a smaller number
pub some_broken : (A : Fault → Type 0) (f : Fault) → A f → ((g : Fault) → A g → (row f).number ≤ (row g).number) → FirstBroken A (Some f)
some_broken A f here least = record { none = (λ e. cc, λ k. absurd (k f here)); broken = λ g e. subst A (same g e) here; smallest = λ g h e b. subst (λ k. (row k).number ≤ (row h).number) (same g e) (least h b) }
  where
    same : (g : Fault) → Some f ≡ Some g → f ≡ g
    same g e = cc

-- the same rules, told in other words
pub same_broken : (A B : Fault → Type 0) (x : Option Fault) → ((f : Fault) → A f ↔ B f) → FirstBroken A x → FirstBroken B x
same_broken A B x same first = record {
  none = (λ e f b. first.none.0 e f ((same f).1 b), λ k. first.none.1 (λ f a. k f ((same f).0 a)));
  broken = λ f e. (same f).0 (first.broken f e);
  smallest = λ f g e b. first.smallest f g e ((same g).1 b);
}

-- what is given for either of two things, where all that the first breaks goes before what the second breaks
pub either_broken : (A B : Fault → Type 0) (a b : Option Fault) → FirstBroken A a → FirstBroken B b → ((f g : Fault) → A f → B g → (row f).number ≤ (row g).number) → FirstBroken (λ f. A f ⊎ B f) (option_or a b)
either_broken A B None b first second before = same_broken B (λ f. A f ⊎ B f) b (λ f. (inr, λ e. elim e [ inl h ↦ absurd (first.none.0 refl f h) | inr h ↦ h ])) second
either_broken A B (Some f) b first second before = some_broken (λ f. A f ⊎ B f) f (inl (first.broken f refl)) (λ g e. elim e [ inl h ↦ first.smallest f g refl h | inr h ↦ before f g (first.broken f refl) h ])

-- what is given for two things together
pub both_broken : (A B : Fault → Type 0) (a b : Option Fault) → FirstBroken A a → FirstBroken B b → FirstBroken (λ f. A f ⊎ B f) (first_of a b)
both_broken A B None b first second = same_broken B (λ f. A f ⊎ B f) b (λ f. (inr, λ e. elim e [ inl h ↦ absurd (first.none.0 refl f h) | inr h ↦ h ])) second
both_broken A B (Some f) None first second = same_broken A (λ f. A f ⊎ B f) (Some f) (λ f. (inl, λ e. elim e [ inl h ↦ h | inr h ↦ absurd (second.none.0 refl f h) ])) first
both_broken A B (Some f) (Some g) first second = go (leb (row f).number (row g).number) refl
  where
    go : (t : Bool) → leb (row f).number (row g).number ≡ t → FirstBroken (λ f. A f ⊎ B f) (cond t (Some f) (Some g))
    go true e = some_broken (λ f. A f ⊎ B f) f (inl (first.broken f refl)) (λ h b. elim b [ inl p ↦ first.smallest f h refl p | inr q ↦ omega (arith, leb-true (row f).number (row g).number e, second.smallest g h refl q) ])
    go false e = some_broken (λ f. A f ⊎ B f) g (inr (second.broken g refl)) (λ h b. elim b [ inl p ↦ (let k = first.smallest f h refl p in grind (arith, nat_tests)) | inr q ↦ second.smallest g h refl q ])

-- Tests in their order: the fault that each stands for, and whether it is passed. The fault of the first that is not passed is given:
abbrev pub first_failed : List (Fault × Bool) → Option Fault
first_failed [] = None
first_failed (t ∷ ts) = cond t.1 (first_failed ts) (Some t.0)

-- and of those that stand for f, one is not passed
abbrev pub fails : List (Fault × Bool) → Fault → Bool
fails [] f = false
fails (t ∷ ts) f = cond (eqb (row t.0).number (row f).number) (not t.1 || fails ts f) (fails ts f)

-- the numbers of the faults never fall
abbrev pub rising : List (Fault × Bool) → Bool
rising [] = true
rising (t ∷ []) = true
rising (t ∷ s ∷ ts) = leb (row t.0).number (row s.0).number && rising (s ∷ ts)

-- what a test or a later one stands for has no smaller number
none_smaller : (t : Fault × Bool) (ts : List (Fault × Bool)) (f : Fault) → rising (t ∷ ts) ≡ true → fails (t ∷ ts) f ≡ true → (row t.0).number ≤ (row f).number
none_smaller t [] f up e = elim (cases_Bool (eqb (row t.0).number (row f).number)) [
  | inl here ↦ omega (arith, eqb-true (row t.0).number (row f).number here)
  | inr other ↦ (let z = sym (cond-false (eqb (row t.0).number (row f).number) (not t.1 || false) false other) ∙ e in cc)
]
none_smaller t (s ∷ ts) f up e =
    let parts = and_parts (leb (row t.0).number (row s.0).number) (rising (s ∷ ts)) up in
    elim (cases_Bool (eqb (row t.0).number (row f).number)) [
      | inl here ↦ omega (arith, eqb-true (row t.0).number (row f).number here)
      | inr other ↦ omega (arith, leb-true (row t.0).number (row s.0).number parts.0, none_smaller s ts f parts.1 (sym (cond-false (eqb (row t.0).number (row f).number) (not t.1 || fails (s ∷ ts) f) (fails (s ∷ ts) f) other) ∙ e))
    ]

rising_rest : (t : Fault × Bool) (ts : List (Fault × Bool)) → rising (t ∷ ts) ≡ true → rising ts ≡ true
rising_rest t [] up = refl
rising_rest t (s ∷ ts) up = (and_parts (leb (row t.0).number (row s.0).number) (rising (s ∷ ts)) up).1

either_way : (b x : Bool) → cond b x x ≡ x
either_way true x = refl
either_way false x = refl

tests_fail : (ts : List (Fault × Bool)) → rising ts ≡ true → FirstBroken (λ f. fails ts f ≡ true) (first_failed ts)
tests_fail [] up = none_broken (λ f. false ≡ true) (λ f e. cc)
tests_fail ((f, true) ∷ ts) up = same_broken (λ g. fails ts g ≡ true) (λ g. fails ((f, true) ∷ ts) g ≡ true) (first_failed ts) (λ g. let e = either_way (eqb (row f).number (row g).number) (fails ts g) in ((λ h. e ∙ h), (λ h. sym e ∙ h))) (tests_fail ts (rising_rest (f, true) ts up))
tests_fail ((f, false) ∷ ts) up = some_broken (λ g. fails ((f, false) ∷ ts) g ≡ true) f (cond-true (eqb (row f).number (row f).number) true (fails ts f) (eq-eqb (row f).number (row f).number refl)) (λ g e. none_smaller (f, false) ts g up e)

-- tests with rising numbers, of which one is not passed just if its rule is broken
pub tests_broken : (A : Fault → Type 0) (ts : List (Fault × Bool)) → rising ts ≡ true → ((f : Fault) → (fails ts f ≡ true) ↔ A f) → FirstBroken A (first_failed ts)
tests_broken A ts up same = same_broken (λ f. fails ts f ≡ true) A (first_failed ts) same (tests_fail ts up)

-- what a refusal gives is what its fault gives
pub refused_broken : (A : Fault → Type 0) (x : Option Fault) (i : ℕ) (r : Option Refusal) → r ≡ refusal_of x i → FirstBroken A x → FirstBroken A (fault_in r)
refused_broken A None i r e first = subst (λ o. FirstBroken A (fault_in o)) (sym e) first
refused_broken A (Some f) i r e first = subst (λ o. FirstBroken A (fault_in o)) (sym e) first

-- and so that of a call that names a task
pub named_broken : (A : Fault → Type 0) (x : Option Fault) (i : ℕ) (r : Option Refusal) → r ≡ named_refusal x i → FirstBroken A x → FirstBroken A (fault_in r)
named_broken A None i r e first = subst (λ o. FirstBroken A (fault_in o)) (sym e) first
named_broken A (Some f) i r e first = subst (λ o. FirstBroken A (fault_in o)) (sym e) first
