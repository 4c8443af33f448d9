-- A sheet line by line.
use Rattle.std.proofs.Common.{◌≡◌, ℕ, ◌+◌, ◌≤◌, eqb, leb, List, [], ◌∷◌, length, Some, None, Err, Option, Result, sym, refl, ap, ◌∙◌, subst, arith}
use Rattle.std.proofs.lemmas.Bool.{le-leb, ne_eqb, cond-true, cond-false}
use Rattle.refusal.specs.Refusals.{plain}
use Rattle.refusal.specs.declared.Refusal.{Refusal}
use Rattle.refusal.specs.declared.Fault.TheVariants.{SheetTooLong, ForeignByte}
use Rattle.words.specs.Split.{before, onward, pieces, following, joined}
use Rattle.words.proofs.Cutting.{pieces_first, only_cut}
use Rattle.sheet.specs.Drafts.{Plan}
use Rattle.sheet.specs.Reading.{on_line, step, ended, and_then, read_on, read}

pub short_enough : (sheet : List ℕ) → length sheet ≤ 16384 → read sheet ≡ read_on 0 None (pieces 10 sheet)
short_enough sheet h = cond-true (leb (length sheet) 16384) (read_on 0 None (pieces 10 sheet)) (Err (plain SheetTooLong)) (le-leb (length sheet) 16384 h)

module _ (n : ℕ) (o : Option Plan) where
  pub line_first : (rest line more : List ℕ) → line ≡ before 10 rest → 10 ∷ more ≡ onward 10 rest → read_on n o (pieces 10 rest) ≡ and_then (step (n + 1) o line) (λ p. read_on (n + 1) (Some p) (pieces 10 more))
  line_first rest line more e f =
      ap (read_on n o) (pieces_first 10 rest)
      ∙ (λ i. read_on n o (sym e i ∷ following 10 (sym f i)))
      ∙ subst (λ ws. read_on n o (line ∷ ws) ≡ and_then (step (n + 1) o line) (λ p. read_on (n + 1) (Some p) ws)) (sym (pieces_first 10 more)) refl

  -- the last line does not end
  pub line_open : (rest : List ℕ) → 1 ≤ length rest → onward 10 rest ≡ [] → read_on n o (pieces 10 rest) ≡ Err (on_line (n + 1) (plain ForeignByte))
  line_open rest h e =
      let alone : pieces 10 rest ≡ before 10 rest ∷ [] = pieces_first 10 rest ∙ ap (λ ys. before 10 rest ∷ following 10 ys) e in
      let whole : before 10 rest ≡ rest = sym (ap (joined 10) alone) ∙ (only_cut 10 rest).0.whole in
      ap (read_on n o) alone
      ∙ cond-false (eqb (length (before 10 rest)) 0) (ended n o) (Err (on_line (n + 1) (plain ForeignByte))) (ne_eqb (length (before 10 rest)) 0 (λ z. omega (arith, ap length whole)))

-- a sheet whose first line makes r: with a refusal it ends there, and else it goes on behind the line
pub first_makes : (sheet line more : List ℕ) (r : Result Plan Refusal) → length sheet ≤ 16384 → line ≡ before 10 sheet → 10 ∷ more ≡ onward 10 sheet → step 1 None line ≡ r → read sheet ≡ and_then r (λ p. read_on 1 (Some p) (pieces 10 more))
first_makes sheet line more r h e f made = short_enough sheet h ∙ line_first 0 None sheet line more e f ∙ ap (λ r. and_then r (λ p. read_on 1 (Some p) (pieces 10 more))) made
