-- Tables of paced parts: lists of rows, whose parts are numbered from 1; and what is seen of a table, and of a single part.
use Rattle.std.specs.Prelude.{ℕ, ◌-◌, ◌≤◌, min, cond, List, All, Option, Some, None, length}
use Rattle.source.specs.Facts.{Work, is_part}
use Rattle.source.specs.Rows.{row_of, work_of, allowed_of}
use Rattle.paced.specs.Pace.{Fit, paced}
use Rattle.paced.specs.declared.row.Row.{Row}

-- the row at place i, counted from 0
abbrev pub row_at : List Row → ℕ → Row
row_at rows i = row_of paced rows i

-- what the rows bring as parts, and what they may still bring
abbrev pub work_in : List Row → Work
work_in rows = work_of paced rows

abbrev pub allowances_in : List Row → ℕ → ℕ → ℕ
allowances_in rows = allowed_of paced rows

-- the row of part k, if there is such a part
abbrev pub part_at : List Row → ℕ → Option Row
part_at rows k = cond (is_part (length rows) k) (Some (row_at rows (k - 1))) None

-- what f tells of part k, if there is such a part
abbrev pub told_of : (Row → ℕ) → List Row → ℕ → Option ℕ
told_of f rows k = cond (is_part (length rows) k) (Some (f (row_at rows (k - 1)))) None

-- what is seen of a single paced part: its row, which is fit
pub record FitRow : Type 0 where
  pub row : Row
  pub fit : Fit row

-- what is seen of a table with so much room: its rows, which are fit, and not more than a source may have parts
pub record FitRows (room : ℕ) : Type 0 where
  pub list : List Row
  pub few : length list ≤ min room 1000
  pub fit : All Fit list
