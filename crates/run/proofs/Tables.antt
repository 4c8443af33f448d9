-- The paced parts of the tasks of a run, in their table.
use Rattle.std.proofs.Common.{◌≡◌, ℕ, ◌-◌, ◌≤◌, Bool, true, false, cond, List, length, Option, Some, None, unwrap_or, refl, ap, ◌∙◌}
use Rattle.source.specs.Facts.{is_part, offerable, allowance_answer}
use Rattle.source.proofs.Parts.{part_from, offerable_from}
use Rattle.paced.specs.Pace.{allowance}
use Rattle.paced.specs.Tables.{allowances_in, row_at}
use Rattle.paced.specs.declared.row.Row.{Row}

-- the answer of a table to what a part may bring, 0 for a number that is no part
pub most_is : (rows : List Row) (k : ℕ) (o : Option ℕ) → o ≡ allowance_answer (length rows) (allowances_in rows) k → unwrap_or o 0 ≡ allowances_in rows k 1
most_is rows k o e = ap (λ x. unwrap_or x 0) e ∙ go (is_part (length rows) k)
  where
    go : (b : Bool) → unwrap_or (cond b (Some (cond b (allowance (row_at rows (k - 1)) 1) 0)) None) 0 ≡ cond b (allowance (row_at rows (k - 1)) 1) 0
    go true = refl
    go false = refl

pub offered_row : (rows : List Row) (k u : ℕ) → 1 ≤ k → k ≤ length rows → 1 ≤ u → u ≤ allowances_in rows k 1 → offerable (length rows) (allowances_in rows) k u ≡ true
offered_row rows k u low high some within = offerable_from (length rows) (allowances_in rows) k u (part_from (length rows) k low high) some within
