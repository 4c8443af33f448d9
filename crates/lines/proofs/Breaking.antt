-- What is wrong with a line keeps to the law of refusals.
use Rattle.std.proofs.Common.{◌≡◌, ℕ, ◌≤◌, true, List, Some, None, Ok, Err, Option, Result, refl, sym, ap, ◌∙◌, subst, arith}
use Rattle.std.specs.Result.{result_err}
use Rattle.refusal.specs.Laws.{FirstBroken}
use Rattle.refusal.specs.Table.{row}
use Rattle.refusal.specs.declared.Fault.{Fault}
use Rattle.refusal.specs.declared.Fault.TheVariants.{ForeignByte, BadWord, BadLine}
use Rattle.refusal.proofs.Firsts.{none_broken, some_broken}
use Rattle.words.specs.Split.{pieces}
use Rattle.words.specs.Tokens.{line_fault, WordsBreak}
use Rattle.words.proofs.Breaking.{words_broken}
use Rattle.lines.specs.Rows.{Said, said_by, told_of, read_line, LineBreaks, row_told}
use Rattle.lines.specs.declared.row.Row.{Row}
use Rattle.lines.proofs.Written.{line_rule}

module _ (line : List ℕ) where
  of_words : (f : Fault) → WordsBreak line f → LineBreaks line f
  unfolding WordsBreak LineBreaks
  of_words BadLine b = absurd b
  of_words other b = b

  words_low : (f : Fault) → WordsBreak line f → (row f).number ≤ 4
  unfolding WordsBreak
  words_low ForeignByte b = omega arith
  words_low BadWord b = omega arith
  words_low other b = absurd b

  words_before : (f g : Fault) → FirstBroken (WordsBreak line) (Some f) → LineBreaks line g → (row f).number ≤ (row g).number
  unfolding LineBreaks
  words_before f BadLine first b = words_low f (first.broken f refl)
  words_before f other first b = first.smallest f other refl b

  line_alone : (g : Fault) → FirstBroken (WordsBreak line) None → LineBreaks line g → 4 ≤ (row g).number
  unfolding LineBreaks
  line_alone BadLine first b = omega arith
  line_alone other first b = absurd (first.none.0 refl other b)

  no_row : read_line line ≡ Err BadLine → LineBreaks line BadLine
  unfolding LineBreaks
  no_row e s is fit = let z : ◌≡◌ {A = Result Said Fault} (Err BadLine) (Ok s) = sym e ∙ (line_rule line).1 s is fit in cc

  one_row : (s : Said) → read_line line ≡ Ok s → FirstBroken (WordsBreak line) None → (f : Fault) → LineBreaks line f → ⊥
  unfolding LineBreaks
  one_row s e first BadLine b = let h = (line_rule line).0 s e in b s h.0 h.1
  one_row s e first other b = first.none.0 refl other b

  broken_by : (o : Option Fault) (s : Option Said) → line_fault line ≡ o → said_by (pieces 32 line) ≡ s → FirstBroken (LineBreaks line) (result_err (told_of o s))
  broken_by (Some f) s e is = let first = words_broken line (Some f) e in some_broken (LineBreaks line) f (of_words f (first.broken f refl)) (λ g b. words_before f g first b)
  broken_by None None e is = some_broken (LineBreaks line) BadLine (no_row (λ i. told_of (e i) (is i))) (λ g b. line_alone g (words_broken line None e) b)
  broken_by None (Some s) e is = none_broken (LineBreaks line) (one_row s (λ i. told_of (e i) (is i)) (words_broken line None e))

  -- what is given for a line in place of what it says
  pub line_broken : FirstBroken (LineBreaks line) (result_err (read_line line))
  line_broken = broken_by (line_fault line) (said_by (pieces 32 line)) refl refl

  -- and that is about a line
  pub line_lined : (f : Fault) → LineBreaks line f → (row f).lined ≡ true
  unfolding WordsBreak LineBreaks
  line_lined ForeignByte b = refl
  line_lined BadWord b = refl
  line_lined BadLine b = refl
  line_lined other b = absurd b

same_fault : (r : Result Said Fault) → result_err (row_told r) ≡ result_err r
same_fault (Ok s) = refl
same_fault (Err f) = refl

-- what is given for a line in place of a row
pub row_broken : (line : List ℕ) (r : Result Row Fault) → r ≡ row_told (read_line line) → FirstBroken (LineBreaks line) (result_err r)
row_broken line r e = subst (FirstBroken (LineBreaks line)) (sym (ap result_err e ∙ same_fault (read_line line))) (line_broken line)
