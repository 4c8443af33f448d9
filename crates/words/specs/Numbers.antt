-- A number is written as decimal printing writes it, and is at most 1,000,000.
use Rattle.std.specs.Prelude.{◌≡◌, ℕ, ◌+◌, ◌-◌, ◌*◌, ◌≤◌, Bool, false, cond, not, ◌&&◌, List, [], ◌∷◌, length, Some, None, decimal, Option, ◌==◌, nat_le, nat_lt, slice_index}
use Rattle.std.specs.List.{list_all}
use Rattle.words.specs.Bytes.{is_digit}

-- the number that digits write after the number n
abbrev pub read_on : ℕ → List ℕ → ℕ
read_on n [] = n
read_on n (c ∷ cs) = read_on (10 * n + (c - 48)) cs

abbrev pub all_digits : List ℕ → Bool
all_digits bytes = list_all is_digit bytes

-- at least one digit, and no 0 before another
abbrev pub numeral : List ℕ → Bool
numeral [] = false
numeral (c ∷ []) = is_digit c
numeral (c ∷ d ∷ cs) = not (c == 48) && all_digits (c ∷ d ∷ cs)

-- at least one byte, and no 0 before another
abbrev pub plain_front : List ℕ → Bool
plain_front w = nat_lt 0 (length w) && not (slice_index w 0 == 48 && nat_lt 1 (length w))

abbrev pub value_of : List ℕ → Option ℕ
value_of w = cond (numeral w && nat_le (read_on 0 w) 1000000) (Some (read_on 0 w)) None

abbrev pub Writes : List ℕ → ℕ → Type 0
Writes w n = (w ≡ decimal n) × (n ≤ 1000000)

-- a word has a value just if it is what decimal printing writes of that value
abbrev pub NumberRule : List ℕ → Type 0
NumberRule w = ((n : ℕ) → value_of w ≡ Some n → Writes w n) × ((n : ℕ) → Writes w n → value_of w ≡ Some n)
