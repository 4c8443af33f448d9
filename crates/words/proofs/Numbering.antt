-- Numbers in decimal: what digits write, and that a word with a value is what decimal printing writes of it.
use Rattle.std.proofs.Common.{◌≡◌, ℕ, ◌+◌, ◌-◌, ◌*◌, ◌<◌, ◌≤◌, min, Bool, true, false, cond, not, ◌&&◌, eqb, leb, List, [], ◌∷◌, length, get_or, drop, Some, None, decimal, sym, refl, ap, ◌∙◌, inl, inr, arith, rules}
use Rattle.std.proofs.lemmas.Bool.{ne_eqb, eqb-false, and_parts, and_from, not-true, not_from_false, cond-true, cases_lt, le-leb, leb-true}
use Rattle.std.proofs.lemmas.List.{at_drop_more}
use Rattle.std.proofs.lemmas.Str.Parse.{IsNumeralModel, numerals_by_fold}
use Rattle.std.proofs.lemmas.Fmt.{decimal-digits_value, digits_value-decimal, digits_decimal, decimal_nonempty, first_decimal, decimal_digit}
use Rattle.words.specs.Bytes.{is_digit}
use Rattle.words.specs.Numbers.{read_on, all_digits, numeral, value_of, Writes, NumberRule}
use Rattle.words.specs.Split.{lacks}

own : IsNumeralModel (λ ds. all_digits ds ≡ true) (read_on 0)
own = numerals_by_fold _ (search rules) read_on (search rules)

-- what a numeral is: digits, at least one, and 0 first only alone
pub numeral_parts : (w : List ℕ) → numeral w ≡ true → (all_digits w ≡ true) × (0 < length w) × (get_or w 0 0 ≡ 48 → length w ≡ 1)
numeral_parts [] h = let z : ◌≡◌ {A = ℕ} 0 1 = cc in absurd (omega arith)
numeral_parts (c ∷ []) h = (and_from (is_digit c) true h refl, omega arith, λ _. refl)
numeral_parts (c ∷ d ∷ cs) h =
    let parts = and_parts (not (eqb c 48)) (all_digits (c ∷ d ∷ cs)) h in
    (parts.1, omega arith, λ e. absurd (eqb-false c 48 (not-true (eqb c 48) parts.0) e))

pub numeral_from : (w : List ℕ) → all_digits w ≡ true → 0 < length w → (get_or w 0 0 ≡ 48 → length w ≡ 1) → numeral w ≡ true
numeral_from [] h some first = absurd (omega arith)
numeral_from (c ∷ []) h some first = (and_parts (is_digit c) true h).0
numeral_from (c ∷ d ∷ cs) h some first = and_from (not (eqb c 48)) (all_digits (c ∷ d ∷ cs)) (not_from_false (eqb c 48) (ne_eqb c 48 (λ e. omega (arith, first e)))) h

written : (w : List ℕ) (n : ℕ) (b : Bool) → (numeral w && leb (read_on 0 w) 1000000) ≡ b → cond b (Some (read_on 0 w)) None ≡ Some n → Writes w n
written w n true e h =
    let same : read_on 0 w ≡ n = cc in
    let both = and_parts (numeral w) (leb (read_on 0 w) 1000000) e in
    let parts = numeral_parts w both.0 in
    let small : read_on 0 w ≤ 1000000 = leb-true (read_on 0 w) 1000000 both.1 in (
      sym (decimal-digits_value own w parts.0 parts.1 parts.2 (omega arith)) ∙ ap decimal same,
      omega arith,
    )
written w n false e h = let z : ◌≡◌ {A = ℕ} 0 1 = cc in absurd (omega arith)

first_zero : (n : ℕ) → n ≤ 1000000 → get_or (decimal n) 0 0 ≡ 48 → length (decimal n) ≡ 1
first_zero n h e =
    elim (cases_lt 0 n) [
      | inl some ↦ absurd (omega (arith, first_decimal n some (omega arith)))
      | inr none ↦ ap length (decimal_digit n (omega arith))
    ]

pub decimal_numeral : (n : ℕ) → n ≤ 1000000 → numeral (decimal n) ≡ true
decimal_numeral n h = numeral_from (decimal n) (digits_decimal own n (omega arith)) (decimal_nonempty n (omega arith)) (first_zero n h)

pub value_of_decimal : (n : ℕ) → n ≤ 1000000 → value_of (decimal n) ≡ Some n
value_of_decimal n h =
    let back : read_on 0 (decimal n) ≡ n = digits_value-decimal own n (omega arith) in
    cond-true (numeral (decimal n) && leb (read_on 0 (decimal n)) 1000000) (Some (read_on 0 (decimal n))) None (and_from (numeral (decimal n)) (leb (read_on 0 (decimal n)) 1000000) (decimal_numeral n h) (le-leb (read_on 0 (decimal n)) 1000000 (omega arith))) ∙ ap Some back

pub number_rule : (w : List ℕ) → NumberRule w
number_rule w = (
  (λ n e. written w n (numeral w && leb (read_on 0 w) 1000000) refl e),
  λ n h. ap value_of h.0 ∙ value_of_decimal n h.1,
)

digits_lack_space : (w : List ℕ) → all_digits w ≡ true → lacks 32 w ≡ true
digits_lack_space [] h = refl
digits_lack_space (c ∷ w) h =
    let parts = and_parts (is_digit c) (all_digits w) h in
    let low : 48 ≤ c = leb-true 48 c (and_parts (leb 48 c) (leb c 57) parts.0).0 in
    and_from (not (eqb c 32)) (lacks 32 w) (not_from_false (eqb c 32) (ne_eqb c 32 (λ e. omega arith))) (digits_lack_space w parts.1)

pub decimal_lacks_space : (n : ℕ) → n ≤ 1000000 → lacks 32 (decimal n) ≡ true
decimal_lacks_space n h = digits_lack_space (decimal n) (digits_decimal own n (omega arith))

-- more digits never make less
reads_up : (n : ℕ) (w : List ℕ) → n ≤ read_on n w
reads_up n [] = omega arith
reads_up n (c ∷ w) = omega (arith, reads_up (10 * n + (c - 48)) w)

-- above a limit, the number so far may be cut down to the limit
pub capped : (n top : ℕ) (w : List ℕ) → min (read_on (min n top) w) top ≡ min (read_on n w) top
capped n top w =
    elim (cases_lt n top) [
      | inl less ↦ let same : min n top ≡ n = omega arith in ap (λ m. min (read_on m w) top) same
      | inr more ↦ let same : min n top ≡ top = omega arith in ap (λ m. min (read_on m w) top) same ∙ omega (arith, reads_up n w, reads_up top w)
    ]

-- one digit more
pub value_on : (w : List ℕ) (i n m : ℕ) → i < length w → min (read_on 0 w) 1000001 ≡ min (read_on n (drop i w)) 1000001 → m ≡ min (10 * n + (get_or w i 0 - 48)) 1000001 → min (read_on 0 w) 1000001 ≡ min (read_on m (drop (i + 1) w)) 1000001
value_on w i n m h e is =
    let next = 10 * n + (get_or w i 0 - 48) in
    e ∙ ap (λ v. min v 1000001) (at_drop_more (read_on n) w i 0 h) ∙ sym (capped next 1000001 (drop (i + 1) w)) ∙ ap (λ v. min (read_on v (drop (i + 1) w)) 1000001) (sym is)
