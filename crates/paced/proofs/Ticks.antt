-- A tick of a paced part by itself, and of the rows of a table, one after another.
use Rattle.std.proofs.Common.{◌≡◌, ℕ, ◌+◌, ◌<◌, ◌≤◌, List, ◌++◌, map, length, take, drop, set, ap, ◌∙◌, arith, append-nil}
use Rattle.std.proofs.lemmas.List.{get_or_default, take_all, drop_all, length-append, length-map, length-take-le, length-drop}
use Rattle.std.proofs.lemmas.List.Edits.{map_over_more}
use Rattle.source.specs.Facts.{Ticked}
use Rattle.source.specs.Rows.{allowed_one}
use Rattle.source.proofs.Gates.{one_ticked}
use Rattle.paced.specs.Pace.{later, blank, Fit, paced}
use Rattle.paced.specs.Rows.{paced_owes}
use Rattle.paced.specs.Tables.{row_at}
use Rattle.paced.specs.declared.row.Row.{Row}

pub later_ticked : (r r' : Row) → Fit r → r' ≡ later r → Ticked (allowed_one paced r) (allowed_one paced r')
later_ticked r r' fit passed = (one_ticked paced paced_owes r r' fit passed).1

-- row i of those that a loop has come to
pub ticks_on : (xs ys : List Row) (i : ℕ) → i < length xs → ys ≡ map later (take i xs) ++ drop i xs → set ys i (later (row_at ys i)) ≡ map later (take (i + 1) xs) ++ drop (i + 1) xs
ticks_on xs ys i h e = map_over_more later xs ys i (row_at ys i) h e (get_or_default ys i blank (row_at ys i) long)
  where
    long : i < length ys
    long = omega (arith, ap length e, length-append (map later (take i xs)) (drop i xs), length-map (take i xs) later, length-take-le i xs (omega arith), length-drop i xs)

-- all of them at the end of the loop
pub ticks_all : (xs ys : List Row) (i : ℕ) → length xs ≤ i → ys ≡ map later (take i xs) ++ drop i xs → ys ≡ map later xs
ticks_all xs ys i h e = e ∙ (λ j. map later (take_all i xs h j) ++ drop_all i xs h j) ∙ append-nil (map later xs)
