-- The words of a line, one after another.
use Rattle.std.proofs.Common.{◌≡◌, ℕ, ◌<◌, ◌≤◌, Bool, true, false, cond, ◌&&◌, eqb, List, [], ◌∷◌, length, is_some, Some, None, Option, sym, ap, ◌∙◌, arith}
use Rattle.std.proofs.lemmas.List.{nil_from_length}
use Rattle.refusal.specs.declared.Fault.{Fault}
use Rattle.refusal.specs.declared.Fault.TheVariants.{ForeignByte, BadWord}
use Rattle.words.specs.Bytes.{clean}
use Rattle.words.specs.Split.{before, onward, pieces, following}
use Rattle.words.specs.Tokens.{Word, word_of, words_good, line_fault}
use Rattle.words.proofs.Cutting.{pieces_first}

-- the words from here on are good if the first is and those that follow are
pub good_first : (xs : List ℕ) → words_good (pieces 32 xs) ≡ (is_some (word_of (before 32 xs)) && words_good (following 32 (onward 32 xs)))
good_first xs = ap words_good (pieces_first 32 xs)

abbrev fault_by : Bool → Bool → Option Fault
fault_by known good = cond known (cond good None (Some BadWord)) (Some ForeignByte)

pub foreign_line : (line : List ℕ) → clean line ≡ false → line_fault line ≡ Some ForeignByte
foreign_line line e = ap (λ b. fault_by b (words_good (pieces 32 line))) e

onward_shorter : (s : ℕ) (xs : List ℕ) → length (onward s xs) ≤ length xs
onward_shorter s [] = omega arith
onward_shorter s (x ∷ xs) =
    elim (eqb x s) as (λ b. length (cond b (x ∷ xs) (onward s xs)) ≤ length (x ∷ xs)) [
      | true ↦ omega arith
      | false ↦ omega (arith, onward_shorter s xs)
    ]

-- a line of known bytes, whose words are good if those of its rest are
module _ (line rest : List ℕ) (known : clean line ≡ true) (so_far : words_good (pieces 32 line) ≡ words_good (pieces 32 rest)) where
  pub bad_line : word_of (before 32 rest) ≡ None → line_fault line ≡ Some BadWord
  bad_line e =
      ap (λ b. fault_by b (words_good (pieces 32 line))) known
      ∙ ap (λ b. fault_by true b) (so_far ∙ good_first rest ∙ ap (λ o. is_some o && words_good (following 32 (onward 32 rest))) e)

  module _ (w : Word) (after : List ℕ) (first : word_of (before 32 rest) ≡ Some w) (is : after ≡ onward 32 rest) where
    good_on : words_good (pieces 32 line) ≡ words_good (following 32 after)
    good_on = so_far ∙ good_first rest ∙ ap (λ o. is_some o && words_good (following 32 (onward 32 rest))) first ∙ ap (λ ys. words_good (following 32 ys)) (sym is)

    pub good_line : length after ≡ 0 → line_fault line ≡ None
    good_line none =
        ap (λ b. fault_by b (words_good (pieces 32 line))) known
        ∙ ap (λ b. fault_by true b) (good_on ∙ ap (λ ys. words_good (following 32 ys)) (nil_from_length after none))

-- one word on, past the space
pub next_words : (line rest : List ℕ) (w : Word) (space : ℕ) (words : List ℕ) → clean line ≡ true → words_good (pieces 32 line) ≡ words_good (pieces 32 rest) → word_of (before 32 rest) ≡ Some w → space ∷ words ≡ onward 32 rest → words_good (pieces 32 line) ≡ words_good (pieces 32 words)
next_words line rest w space words known so_far first is = good_on line rest known so_far w (space ∷ words) first is

pub next_shorter : (rest : List ℕ) (space : ℕ) (words : List ℕ) → space ∷ words ≡ onward 32 rest → length words < length rest
next_shorter rest space words is = omega (arith, ap length is, onward_shorter 32 rest)
