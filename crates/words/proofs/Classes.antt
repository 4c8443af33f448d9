-- Bytes one after another, each by its class.
use Rattle.std.proofs.Common.{◌≡◌, ℕ, ◌+◌, ◌<◌, Bool, true, false, cond, ◌&&◌, eqb, List, ◌∷◌, length, get_or, drop, refl, ap, ◌∙◌}
use Rattle.std.proofs.lemmas.List.{at_drop_more}
use Rattle.words.specs.declared.bytes.Class.{Class}
use Rattle.words.specs.declared.bytes.Class.TheVariants.{Letter, Digit, Space, Feed, Foreign}
use Rattle.words.specs.Bytes.{is_letter, is_digit, class_of}

abbrev by_tests : Bool → Bool → Bool → Bool → Class
by_tests p q r s = cond p Letter (cond q Digit (cond r Space (cond s Feed Foreign)))

digit_told : (p q r s : Bool) → by_tests p q r s ≡ Digit → q ≡ true
digit_told true q r s e = cc
digit_told false true r s e = refl
digit_told false false true s e = cc
digit_told false false false true e = cc
digit_told false false false false e = cc

module _ (b : ℕ) where
  pub digit_if : class_of b ≡ Digit → is_digit b ≡ true
  digit_if e = digit_told (is_letter b) (is_digit b) (eqb b 32) (eqb b 10) e

-- whether every byte passes a test, where those before i did
module _ (test : ℕ → Bool) (all : List ℕ → Bool) (step : (c : ℕ) (cs : List ℕ) → all (c ∷ cs) ≡ (test c && all cs)) (xs : List ℕ) (i : ℕ) where
  at_place : i < length xs → all (drop i xs) ≡ (test (get_or xs i 0) && all (drop (i + 1) xs))
  at_place h = at_drop_more all xs i 0 h ∙ step (get_or xs i 0) (drop (i + 1) xs)

  pub all_on : i < length xs → all xs ≡ all (drop i xs) → test (get_or xs i 0) ≡ true → all xs ≡ all (drop (i + 1) xs)
  all_on h e t = e ∙ at_place h ∙ ap (λ b. b && all (drop (i + 1) xs)) t
