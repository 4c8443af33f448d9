-- The words of a line: letters, or a number.
use Rattle.std.specs.Prelude.{◌≡◌, ℕ, ◌-◌, ◌≤◌, ◌⊎◌, Bool, true, cond, ◌&&◌, List, [], ◌∷◌, length, is_some, Some, None, All, Option}
use Rattle.std.specs.List.{Any, list_all}
use Rattle.refusal.specs.declared.Fault.{Fault}
use Rattle.refusal.specs.declared.Fault.TheVariants.{ForeignByte, BadWord}
use Rattle.words.specs.declared.token.Token.{Token}
use Rattle.words.specs.declared.token.Token.TheVariants.{Keyword, Number}
use Rattle.words.specs.Bytes.{is_letter, clean, IsLetter, Allowed}
use Rattle.words.specs.Numbers.{value_of, Writes}
use Rattle.words.specs.Split.{before, onward, pieces}

pub data Word : Type 0 where
  letters : List ℕ → Word
  number : ℕ → Word

abbrev pub all_letters : List ℕ → Bool
all_letters bytes = list_all is_letter bytes

abbrev pub as_number : Option ℕ → Option Word
as_number None = None
as_number (Some n) = Some (number n)

-- what a spelling says, if it is a word
abbrev pub word_of : List ℕ → Option Word
word_of [] = None
word_of (c ∷ cs) = cond (all_letters (c ∷ cs)) (Some (letters (c ∷ cs))) (as_number (value_of (c ∷ cs)))

abbrev pub words_good : List (List ℕ) → Bool
words_good [] = true
words_good (w ∷ ws) = is_some (word_of w) && words_good ws

-- what is wrong with a line, of which the line feed is left out
abbrev pub line_fault : List ℕ → Option Fault
line_fault line = cond (clean line) (cond (words_good (pieces 32 line)) None (Some BadWord)) (Some ForeignByte)

-- a word: letters, at least one, or what decimal printing writes of a number that is at most 1,000,000
abbrev pub IsWord : List ℕ → Type 0
IsWord word = ((1 ≤ length word) × All IsLetter word) ⊎ ((n : ℕ) × Writes word n)

-- which rules the words of a line break, each on its own: a byte that no sheet may have, a piece between spaces that is no word
unfoldable pub WordsBreak : List ℕ → Fault → Type 0
WordsBreak line ForeignByte = Any (λ byte. Allowed byte → ⊥) line
WordsBreak line BadWord = Any (λ word. IsWord word → ⊥) (pieces 32 line)
WordsBreak line other = ⊥

-- what a token tells: its spelling, the number of its line, the place of its first byte in that line, and what it says
pub record Told : Type 0 where
  pub spelling : List ℕ
  pub line : ℕ
  pub place : ℕ
  pub word : Word

abbrev pub told : Token → Told
told (Keyword spelling line place) = record { spelling = spelling.now; line = line; place = place; word = letters spelling.now }
told (Number spelling line place value) = record { spelling = spelling.now; line = line; place = place; word = number value }

-- where in memory the spelling of a token begins
abbrev pub begins_at : Token → ℕ × ℕ
begins_at (Keyword spelling line place) = spelling.ref_ptr
begins_at (Number spelling line place value) = spelling.ref_ptr

-- the first word of the rest of a line: a token that tells its spelling, its line and its place, and what is left after it
pub record Taken (number : ℕ) (bytes rest : List ℕ) (token : Told) (left : List ℕ) : Type 0 where
  pub word : word_of (before 32 rest) ≡ Some token.word
  pub spelling : token.spelling ≡ before 32 rest
  pub line : token.line ≡ number
  pub place : token.place ≡ length bytes - length rest
  pub after : left ≡ onward 32 rest
