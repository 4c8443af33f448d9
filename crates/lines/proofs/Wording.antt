-- A keyword and its numbers, and the line that writes them.
use Rattle.std.proofs.Common.{◌≡◌, ℕ, zero, suc, ◌+◌, ◌<◌, Bool, true, false, cond, eqb, leb, List, [], ◌∷◌, map, length, get_or, Some, None, decimal, Option, sym, refl, ap, ◌∙◌, arith}
use Rattle.std.proofs.lemmas.List.{ext_get_or}
use Rattle.std.proofs.lemmas.Bool.{eqb-true, leb-true, le-leb, and_parts, and_from}
use Rattle.std.proofs.lemmas.Option.{none-some, same_Some}
use Rattle.words.specs.Numbers.{value_of}
use Rattle.words.specs.Split.{before, onward, following, pieces, joined, lacks, all_lack}
use Rattle.words.proofs.Cutting.{pieces_first, only_cut}
use Rattle.words.proofs.Numbering.{number_rule, value_of_decimal, decimal_lacks_space}
use Rattle.lines.specs.Numbers.{followed_by, numbers_of, numbers_after}
use Rattle.lines.specs.Rows.{reads, same, all_small}

-- bytes that are read at their places
reads_at : (w : List ℕ) (k : ℕ) (p : List ℕ) → reads w k p ≡ true → (i : ℕ) → i < length p → get_or w (k + i) 0 ≡ get_or p i 0
reads_at w k [] h i lt = absurd (omega arith)
reads_at w k (x ∷ p) h zero lt =
    let here : k + 0 ≡ k = omega arith in
    ap (λ j. get_or w j 0) here ∙ eqb-true (get_or w k 0) x (and_parts (eqb (get_or w k 0) x) (reads w (k + 1) p) h).0
reads_at w k (x ∷ p) h (suc i) lt =
    let on : k + suc i ≡ (k + 1) + i = omega arith in
    ap (λ j. get_or w j 0) on ∙ reads_at w (k + 1) p (and_parts (eqb (get_or w k 0) x) (reads w (k + 1) p) h).1 i (omega arith)

same_is : (w p : List ℕ) → same w p ≡ true → w ≡ p
same_is w p h =
    let parts = and_parts (eqb (length w) (length p)) (reads w 0 p) h in
    let long : length w ≡ length p = eqb-true (length w) (length p) parts.0 in
    ext_get_or 0 w p long (λ i lt. let place : i ≡ 0 + i = omega arith in ap (λ j. get_or w j 0) place ∙ reads_at w 0 p parts.1 i (omega arith))

-- a word that is found to be a keyword is its spelling
module _ {K : Type 0} (spelling : K → List ℕ) (w : List ℕ) where
  spelled_by : (k : K) (others : Option K) (found : K) (b : Bool) → same w (spelling k) ≡ b → (others ≡ Some found → w ≡ spelling found) → cond b (Some k) others ≡ Some found → w ≡ spelling found
  spelled_by k others found true is more e = same_is w (spelling k) is ∙ ap spelling (same_Some k found e)
  spelled_by k others found false is more e = more e

  pub spelled : (k : K) (others : Option K) (found : K) → (others ≡ Some found → w ≡ spelling found) → cond (same w (spelling k)) (Some k) others ≡ Some found → w ≡ spelling found
  spelled k others found more e = spelled_by k others found (same w (spelling k)) refl more e

-- words that write numbers are these in decimal
numbers_on : (w : List ℕ) (ws : List (List ℕ)) (ns : List ℕ) (o : Option ℕ) (os : Option (List ℕ)) → value_of w ≡ o → ((ms : List ℕ) → os ≡ Some ms → (ws ≡ map decimal ms) × (all_small ms ≡ true)) → followed_by o os ≡ Some ns → (w ∷ ws ≡ map decimal ns) × (all_small ns ≡ true)
numbers_on w ws ns None None v more e = absurd (none-some ns e)
numbers_on w ws ns None (Some ms) v more e = absurd (none-some ns e)
numbers_on w ws ns (Some n) None v more e = absurd (none-some ns e)
numbers_on w ws ns (Some n) (Some ms) v more e =
    let are : n ∷ ms ≡ ns = cc in
    let one = (number_rule w).0 n v in
    let others = more ms refl in (
      (λ i. one.0 i ∷ others.0 i) ∙ ap (map decimal) are,
      sym (ap all_small are) ∙ and_from (leb n 1000000) (all_small ms) (le-leb n 1000000 one.1) others.1,
    )

numbers_told : (ws : List (List ℕ)) (ns : List ℕ) → numbers_of ws ≡ Some ns → (ws ≡ map decimal ns) × (all_small ns ≡ true)
numbers_told [] ns e = let are : ◌≡◌ {A = List ℕ} [] ns = cc in (ap (map decimal) are, sym (ap all_small are))
numbers_told (w ∷ ws) ns e = numbers_on w ws ns (value_of w) (numbers_of ws) refl (numbers_told ws) e

pub numbers_back : (ns : List ℕ) → all_small ns ≡ true → numbers_of (map decimal ns) ≡ Some ns
numbers_back [] h = refl
numbers_back (n ∷ ns) h =
    let parts = and_parts (leb n 1000000) (all_small ns) h in
    let one : value_of (decimal n) ≡ Some n = value_of_decimal n (leb-true n 1000000 parts.0) in
    let others : numbers_of (map decimal ns) ≡ Some ns = numbers_back ns parts.1 in
    λ i. followed_by (one i) (others i)

numbers_lack : (ns : List ℕ) → all_small ns ≡ true → all_lack 32 (map decimal ns) ≡ true
numbers_lack [] h = refl
numbers_lack (n ∷ ns) h =
    let parts = and_parts (leb n 1000000) (all_small ns) h in
    and_from (lacks 32 (decimal n)) (all_lack 32 (map decimal ns)) (decimal_lacks_space n (leb-true n 1000000 parts.0)) (numbers_lack ns parts.1)

-- a word and numbers are the pieces of the line that they give
pub pieces_words : (w ns : List ℕ) → lacks 32 w ≡ true → all_small ns ≡ true → pieces 32 (joined 32 (w ∷ map decimal ns)) ≡ w ∷ map decimal ns
pieces_words w ns bare small =
    let ws = w ∷ map decimal ns in
    let apart = and_from (lacks 32 w) (all_lack 32 (map decimal ns)) bare (numbers_lack ns small) in
    sym ((only_cut 32 (joined 32 ws)).1 ws (record { some = omega arith; apart = apart; whole = refl }))

-- a line that begins with the keyword of s, and has its numbers after it, is what s writes
module _ {K S : Type 0} (spelling : K → List ℕ) (found : List ℕ → Option K) (kind : S → K) (numbers : S → List ℕ) where
  pub line_told : ((w : List ℕ) (k : K) → found w ≡ Some k → w ≡ spelling k) → (line : List ℕ) (s : S) → found (before 32 line) ≡ Some (kind s) → numbers_after (onward 32 line) ≡ Some (numbers s) → (line ≡ joined 32 (spelling (kind s) ∷ map decimal (numbers s))) × (all_small (numbers s) ≡ true)
  line_told told line s first rest =
      let word = told (before 32 line) (kind s) first in
      let others = numbers_told (following 32 (onward 32 line)) (numbers s) rest in
      (sym (only_cut 32 line).0.whole ∙ ap (joined 32) (pieces_first 32 line ∙ (λ i. word i ∷ others.0 i)), others.1)
