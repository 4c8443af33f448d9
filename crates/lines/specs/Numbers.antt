-- The numbers on a line, after its keyword.
use Rattle.std.specs.Prelude.{◌≡◌, ℕ, List, [], ◌∷◌, Some, None, Option}
use Rattle.words.specs.Numbers.{value_of}
use Rattle.words.specs.Split.{before, onward, following}
use Rattle.words.specs.Tokens.{Word, letters, number}

-- the number that a word is, if it is one
abbrev pub word_value : Word → Option ℕ
word_value (letters w) = None
word_value (number n) = Some n

-- a number before others, if there are both
abbrev pub followed_by : Option ℕ → Option (List ℕ) → Option (List ℕ)
followed_by (Some n) (Some ns) = Some (n ∷ ns)
followed_by (Some n) None = None
followed_by None (Some ns) = None
followed_by None None = None

-- the numbers that some words write, if each writes one
abbrev pub numbers_of : List (List ℕ) → Option (List ℕ)
numbers_of [] = Some []
numbers_of (w ∷ ws) = followed_by (value_of w) (numbers_of ws)

-- the numbers on the rest of a line, which begins with the space after a word, or is empty
abbrev pub numbers_after : List ℕ → Option (List ℕ)
numbers_after rest = numbers_of (following 32 rest)

-- the number that the first word of the rest writes
abbrev pub front : List ℕ → Option ℕ
front [] = None
front (space ∷ more) = value_of (before 32 more)

-- and what follows that word
abbrev pub behind : List ℕ → List ℕ
behind [] = []
behind (space ∷ more) = onward 32 more

-- the first word of the rest writes that number, and this is left after it
pub record Reads (rest : List ℕ) (n : ℕ) (left : List ℕ) : Type 0 where
  pub number : front rest ≡ Some n
  pub after : left ≡ behind rest
