-- A line says what it writes, and nothing else.
use Rattle.std.proofs.Common.{◌≡◌, ℕ, Bool, true, false, cond, ◌&&◌, ◌||◌, eqb, leb, List, [], ◌∷◌, ◌++◌, map, length, is_some, Some, None, Ok, decimal, Option, sym, refl, ap, ◌∙◌, arith}
use Rattle.std.proofs.lemmas.Bool.{leb-true, le-leb, and_parts, and_from, or_left, or_right, cond-true}
use Rattle.std.proofs.lemmas.Option.{none-some, MatchOption-at_some}
use Rattle.std.specs.Bool.{⊤}
use Rattle.std.specs.Option.{IfSome}
use Rattle.refusal.specs.declared.Fault.{Fault}
use Rattle.refusal.specs.declared.Fault.TheVariants.{BadWord, ForeignByte}
use Rattle.words.specs.Bytes.{is_letter, is_digit, known, clean}
use Rattle.words.specs.Numbers.{all_digits, value_of}
use Rattle.words.specs.Split.{before, onward, pieces, joined, lacks}
use Rattle.words.specs.Tokens.{letters, as_number, all_letters, word_of, words_good, line_fault}
use Rattle.words.proofs.Numbering.{numeral_parts, decimal_numeral, value_of_decimal}
use Rattle.lines.specs.Numbers.{numbers_after}
use Rattle.lines.specs.Rows.{spelling, kind_of, Said, cycle, at, irq, task, kind, numbers, written, all_small, some_cost, Sayable, with_numbers, said, said_by, told_of, read_line, LineRule}
use Rattle.lines.specs.declared.row.Kind.{Kind}
use Rattle.lines.specs.declared.row.Kind.TheVariants.{Cycle, At, Irq, Task}
use Rattle.lines.proofs.Ruling.{said_first}
use Rattle.lines.proofs.Wording.{spelled, numbers_back, pieces_words, line_told}

-- a word that is a keyword is its spelling
kind_told : (w : List ℕ) (k : Kind) → kind_of w ≡ Some k → w ≡ spelling k
kind_told w k e =
    let by = spelled spelling w in
    by Cycle _ k (by At _ k (by Irq _ k (by Task None k (λ none. absurd (none-some k none))))) e

kind_back : (k : Kind) → kind_of (spelling k) ≡ Some k
kind_back Cycle = refl
kind_back At = refl
kind_back Irq = refl
kind_back Task = refl

-- what is said has its own keyword and numbers, and a cost where it wants one
abbrev Own : Option Kind → Option (List ℕ) → Said → Type 0
Own o os s = (o ≡ Some (kind s)) × (os ≡ Some (numbers s)) × (some_cost s ≡ true)

own : (o : Option Kind) (os : Option (List ℕ)) → IfSome (said o os) (Own o os)
own None None = tt
own None (Some ns) = tt
own (Some k) None = tt
own (Some Cycle) (Some []) = tt
own (Some Cycle) (Some (c ∷ [])) = (refl, refl, refl)
own (Some Cycle) (Some (c ∷ n ∷ ns)) = tt
own (Some At) (Some []) = tt
own (Some At) (Some (o ∷ [])) = tt
own (Some At) (Some (o ∷ z ∷ [])) = (refl, refl, refl)
own (Some At) (Some (o ∷ z ∷ n ∷ ns)) = tt
own (Some Irq) (Some []) = tt
own (Some Irq) (Some (t ∷ [])) = tt
own (Some Irq) (Some (t ∷ j ∷ [])) = tt
own (Some Irq) (Some (t ∷ j ∷ c ∷ cs)) = (refl, refl, le-leb 1 (length (c ∷ cs)) (omega arith))
own (Some Task) (Some []) = tt
own (Some Task) (Some (t ∷ [])) = tt
own (Some Task) (Some (t ∷ j ∷ [])) = tt
own (Some Task) (Some (t ∷ j ∷ b ∷ [])) = tt
own (Some Task) (Some (t ∷ j ∷ b ∷ d ∷ [])) = tt
own (Some Task) (Some (t ∷ j ∷ b ∷ d ∷ h ∷ [])) = tt
own (Some Task) (Some (t ∷ j ∷ b ∷ d ∷ h ∷ c ∷ cs)) = (refl, refl, le-leb 1 (length (c ∷ cs)) (omega arith))

-- and these say it
with_back : (s : Said) → some_cost s ≡ true → with_numbers (kind s) (numbers s) ≡ Some s
with_back (cycle c) h = refl
with_back (at o z) h = refl
with_back (irq t j []) h = absurd (omega (arith, leb-true 1 0 h))
with_back (irq t j (c ∷ cs)) h = refl
with_back (task t j b d y []) h = absurd (omega (arith, leb-true 1 0 h))
with_back (task t j b d y (c ∷ cs)) h = refl

-- the words that say s
abbrev words_for : Said → List (List ℕ)
words_for s = spelling (kind s) ∷ map decimal (numbers s)

said_back : (s : Said) → Sayable s → said_by (words_for s) ≡ Some s
said_back s h = (λ i. said (kind_back (kind s) i) (numbers_back (numbers s) h.0 i)) ∙ with_back s h.1

told_ok : (f : Option Fault) (o : Option Said) (s : Said) → told_of f o ≡ Ok s → o ≡ Some s
told_ok (Some f) o s e = let z : ◌≡◌ {A = ℕ} 0 1 = cc in absurd (omega arith)
told_ok None None s e = let z : ◌≡◌ {A = ℕ} 0 1 = cc in absurd (omega arith)
told_ok None (Some t) s e = cc

-- keywords and numbers lack a space
spelling_lacks : (k : Kind) → lacks 32 (spelling k) ≡ true
spelling_lacks Cycle = refl
spelling_lacks At = refl
spelling_lacks Irq = refl
spelling_lacks Task = refl

pieces_written : (s : Said) → Sayable s → pieces 32 (written s) ≡ words_for s
pieces_written s h = pieces_words (spelling (kind s)) (numbers s) (spelling_lacks (kind s)) h.0

-- and they are words
spelling_good : (k : Kind) → is_some (word_of (spelling k)) ≡ true
spelling_good Cycle = refl
spelling_good At = refl
spelling_good Irq = refl
spelling_good Task = refl

number_good : (w : List ℕ) (n : ℕ) → value_of w ≡ Some n → is_some (word_of w) ≡ true
number_good [] n e = absurd (none-some n e)
number_good (c ∷ cs) n e = elim (all_letters (c ∷ cs)) as (λ b. is_some (cond b (Some (letters (c ∷ cs))) (as_number (value_of (c ∷ cs)))) ≡ true) [ true ↦ refl | false ↦ ap (λ o. is_some (as_number o)) e ]

numbers_good : (ns : List ℕ) → all_small ns ≡ true → words_good (map decimal ns) ≡ true
numbers_good [] h = refl
numbers_good (n ∷ ns) h =
    let parts = and_parts (leb n 1000000) (all_small ns) h in
    let one = number_good (decimal n) n (value_of_decimal n (leb-true n 1000000 parts.0)) in
    and_from (is_some (word_of (decimal n))) (words_good (map decimal ns)) one (numbers_good ns parts.1)

-- and all their bytes are known
abbrev all_clean : List (List ℕ) → Bool
all_clean [] = true
all_clean (w ∷ ws) = clean w && all_clean ws

clean_both : (xs ys : List ℕ) → clean xs ≡ true → clean ys ≡ true → clean (xs ++ ys) ≡ true
clean_both [] ys h more = more
clean_both (x ∷ xs) ys h more =
    let parts = and_parts (known x) (clean xs) h in
    and_from (known x) (clean (xs ++ ys)) parts.0 (clean_both xs ys parts.1 more)

clean_joined : (ws : List (List ℕ)) → all_clean ws ≡ true → clean (joined 32 ws) ≡ true
clean_joined [] h = refl
clean_joined (w ∷ []) h = (and_parts (clean w) true h).0
clean_joined (w ∷ v ∷ ws) h =
    let parts = and_parts (clean w) (all_clean (v ∷ ws)) h in
    clean_both w (32 ∷ joined 32 (v ∷ ws)) parts.0 (clean_joined (v ∷ ws) parts.1)

clean_digits : (w : List ℕ) → all_digits w ≡ true → clean w ≡ true
clean_digits [] h = refl
clean_digits (c ∷ w) h =
    let parts = and_parts (is_digit c) (all_digits w) h in
    and_from (known c) (clean w) (or_right (is_letter c) (is_digit c || (eqb c 32 || eqb c 10)) (or_left (is_digit c) (eqb c 32 || eqb c 10) parts.0)) (clean_digits w parts.1)

clean_numbers : (ns : List ℕ) → all_small ns ≡ true → all_clean (map decimal ns) ≡ true
clean_numbers [] h = refl
clean_numbers (n ∷ ns) h =
    let parts = and_parts (leb n 1000000) (all_small ns) h in
    let digits = numeral_parts (decimal n) (decimal_numeral n (leb-true n 1000000 parts.0)) in
    and_from (clean (decimal n)) (all_clean (map decimal ns)) (clean_digits (decimal n) digits.0) (clean_numbers ns parts.1)

clean_spelling : (k : Kind) → clean (spelling k) ≡ true
clean_spelling Cycle = refl
clean_spelling At = refl
clean_spelling Irq = refl
clean_spelling Task = refl

no_fault : (line : List ℕ) (ws : List (List ℕ)) → clean line ≡ true → pieces 32 line ≡ ws → words_good ws ≡ true → line_fault line ≡ None
no_fault line ws known cut good =
    cond-true (clean line) (cond (words_good (pieces 32 line)) None (Some BadWord)) (Some ForeignByte) known
    ∙ cond-true (words_good (pieces 32 line)) None (Some BadWord) (ap words_good cut ∙ good)

written_good : (s : Said) → Sayable s → line_fault (written s) ≡ None
written_good s h =
    let bytes = clean_joined (words_for s) (and_from (clean (spelling (kind s))) (all_clean (map decimal (numbers s))) (clean_spelling (kind s)) (clean_numbers (numbers s) h.0)) in
    let good = and_from (is_some (word_of (spelling (kind s)))) (words_good (map decimal (numbers s))) (spelling_good (kind s)) (numbers_good (numbers s) h.0) in
    no_fault (written s) (words_for s) bytes (pieces_written s h) good

reads_back : (s : Said) → Sayable s → read_line (written s) ≡ Ok s
reads_back s h =
    let says = ap said_by (pieces_written s h) ∙ said_back s h in
    λ i. told_of (written_good s h i) (says i)

says_written : (line : List ℕ) (s : Said) → read_line line ≡ Ok s → (line ≡ written s) × Sayable s
says_written line s e =
    let o = kind_of (before 32 line) in
    let os = numbers_after (onward 32 line) in
    let says = sym (said_first line) ∙ told_ok (line_fault line) (said_by (pieces 32 line)) s e in
    let is = MatchOption-at_some ⊤ (Own o os) s says (own o os) in
    let whole = line_told spelling kind_of kind numbers kind_told line s is.0 is.1 in
    (whole.0, (whole.1, is.2))

pub line_rule : (line : List ℕ) → LineRule line
line_rule line = ((λ s e. says_written line s e), λ s e h. ap read_line e ∙ reads_back s h)
