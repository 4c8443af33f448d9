-- The bytes of a sheet: letters a to z, digits, spaces and line feeds. Any other byte is foreign.
use Rattle.std.specs.Prelude.{◌≡◌, ℕ, ◌≤◌, ◌⊎◌, Bool, cond, ◌&&◌, ◌||◌, List, ◌==◌, nat_le}
use Rattle.std.specs.List.{list_all}
use Rattle.words.specs.declared.bytes.Class.{Class}
use Rattle.words.specs.declared.bytes.Class.TheVariants.{Letter, Digit, Space, Feed, Foreign}

abbrev pub is_letter : ℕ → Bool
is_letter b = nat_le 97 b && nat_le b 122

abbrev pub is_digit : ℕ → Bool
is_digit b = nat_le 48 b && nat_le b 57

abbrev pub class_of : ℕ → Class
class_of b = cond (is_letter b) Letter (cond (is_digit b) Digit (cond (b == 32) Space (cond (b == 10) Feed Foreign)))

abbrev pub known : ℕ → Bool
known b = is_letter b || (is_digit b || (b == 32 || b == 10))

-- every byte is known
abbrev pub clean : List ℕ → Bool
clean bytes = list_all known bytes

abbrev pub IsLetter : ℕ → Type 0
IsLetter byte = (97 ≤ byte) × (byte ≤ 122)

abbrev pub IsDigit : ℕ → Type 0
IsDigit byte = (48 ≤ byte) × (byte ≤ 57)

-- a byte that a sheet may have: a letter a to z, a digit, a space or a line feed
abbrev pub Allowed : ℕ → Type 0
Allowed byte = IsLetter byte ⊎ IsDigit byte ⊎ (byte ≡ 32) ⊎ (byte ≡ 10)
