-- What is wrong with the words of a line keeps to the law of refusals.
use Rattle.std.proofs.Common.{◌≡◌, ◌↔◌, ℕ, zero, suc, ◌≤◌, Bool, true, false, cond, not, ◌&&◌, ◌||◌, List, [], ◌∷◌, length, is_some, Some, None, Option, All, refl, sym, ap, ◌∙◌, subst, inl, inr, arith}
use Rattle.std.specs.Bool.{Decides}
use Rattle.std.specs.List.{Any}
use Rattle.std.proofs.lemmas.Bool.{cases_Bool, and_parts}
use Rattle.std.proofs.lemmas.Bool.Decides.{nat_tests, Decides-by_and}
use Rattle.std.proofs.lemmas.Option.{none-some}
use Rattle.refusal.specs.declared.Fault.{Fault}
use Rattle.refusal.specs.declared.Fault.TheVariants.{ForeignByte, BadWord}
use Rattle.refusal.specs.Laws.{FirstBroken}
use Rattle.refusal.proofs.Firsts.{tests_broken, fails}
use Rattle.words.specs.Bytes.{is_letter, known, clean, IsLetter, Allowed}
use Rattle.words.specs.Numbers.{value_of, Writes}
use Rattle.words.specs.Split.{pieces}
use Rattle.words.specs.Tokens.{all_letters, as_number, word_of, words_good, line_fault, letters, IsWord, WordsBreak}
use Rattle.words.proofs.Numbering.{number_rule}

-- a test passes all of a list, or some element is wrong
module _ {X : Type 0} (P : X → Type 0) (test : X → Bool) (decides : (x : X) → Decides (test x) (P x)) (all : List X → Bool) (none : all [] ≡ true) (step : (x : X) (xs : List X) → all (x ∷ xs) ≡ (test x && all xs)) where
  some_wrong : (xs : List X) → all xs ≡ false → Any (λ x. P x → ⊥) xs
  some_wrong [] e = let z = sym none ∙ e in cc
  some_wrong (x ∷ xs) e = elim (cases_Bool (test x)) [
    | inl t ↦ (let (k, y, l, i, wrong) = some_wrong xs (sym (step x xs ∙ ap (λ b. b && all xs) t) ∙ e) in (suc k, y, omega arith, i, wrong))
    | inr f ↦ (0, x, omega arith, refl, λ p. let z = sym f ∙ (decides x).1 p in cc)
  ]

  none_wrong : (xs : List X) → all xs ≡ true → Any (λ x. P x → ⊥) xs → ⊥
  none_wrong [] e (k, y, l, i, wrong) = omega arith
  none_wrong (x ∷ xs) e (zero, y, l, i, wrong) = wrong (subst P i ((decides x).0 (and_parts (test x) (all xs) (sym (step x xs) ∙ e)).0))
  none_wrong (x ∷ xs) e (suc k, y, l, i, wrong) = none_wrong xs (and_parts (test x) (all xs) (sym (step x xs) ∙ e)).1 (k, y, omega arith, i, wrong)

  pub wrong_if : (xs : List X) → ((not (all xs) || false) ≡ true) ↔ Any (λ x. P x → ⊥) xs
  wrong_if xs = elim (cases_Bool (all xs)) [
    | inl t ↦ ((λ h. let z = sym (ap (λ b. not b || false) t) ∙ h in cc), (λ h. absurd (none_wrong xs t h)))
    | inr f ↦ ((λ h. some_wrong xs f), (λ h. ap (λ b. not b || false) f))
  ]

letter_decided : (b : ℕ) → Decides (is_letter b) (IsLetter b)
letter_decided b = (λ e. grind (arith, nat_tests), λ h. grind (arith, nat_tests))

byte_decided : (b : ℕ) → Decides (known b) (Allowed b)
byte_decided b = (λ e. grind (arith, nat_tests), λ h. grind (arith, nat_tests))

letters_decided : (w : List ℕ) → Decides (all_letters w) (All IsLetter w)
letters_decided w = Decides-by_and is_letter IsLetter all_letters letter_decided refl (λ _ _. refl) w

number_decided : (w : List ℕ) (o : Option ℕ) → value_of w ≡ o → Decides (is_some (as_number o)) ((n : ℕ) × Writes w n)
number_decided w None e = (λ h. cc, λ h. let z = sym e ∙ (number_rule w).1 h.0 h.1 in cc)
number_decided w (Some n) e = (λ h. (n, (number_rule w).0 n e), λ h. refl)

word_by : (w : List ℕ) (b : Bool) → 1 ≤ length w → all_letters w ≡ b → Decides (is_some (cond b (Some (letters w)) (as_number (value_of w)))) (IsWord w)
word_by w true some e = (λ h. inl (some, (letters_decided w).0 e), λ h. refl)
word_by w false some e = (λ h. inr ((number_decided w (value_of w) refl).0 h), λ h. elim h [ inl p ↦ (let z = sym e ∙ (letters_decided w).1 p.1 in cc) | inr q ↦ (number_decided w (value_of w) refl).1 q ])

word_decided : (w : List ℕ) → Decides (is_some (word_of w)) (IsWord w)
word_decided [] = (λ h. cc, λ h. elim h [ inl p ↦ absurd (omega arith) | inr q ↦ absurd (none-some q.0 ((number_rule []).1 q.0 q.1)) ])
word_decided (c ∷ cs) = word_by (c ∷ cs) (all_letters (c ∷ cs)) (omega arith) refl

abbrev line_tests : List ℕ → List (Fault × Bool)
line_tests line = (ForeignByte, clean line) ∷ (BadWord, words_good (pieces 32 line)) ∷ []

line_fails : (line : List ℕ) (f : Fault) → (fails (line_tests line) f ≡ true) ↔ WordsBreak line f
unfolding WordsBreak
line_fails line ForeignByte = wrong_if Allowed known byte_decided clean refl (λ _ _. refl) line
line_fails line BadWord = wrong_if IsWord (λ w. is_some (word_of w)) word_decided words_good refl (λ _ _. refl) (pieces 32 line)
line_fails line other = (λ h. cc, λ h. absurd h)

pub words_broken : (line : List ℕ) (given : Option Fault) → line_fault line ≡ given → FirstBroken (WordsBreak line) given
words_broken line given e = subst (FirstBroken (WordsBreak line)) e (tests_broken (WordsBreak line) (line_tests line) refl (line_fails line))
