-- Rows and limits side by side as a list of tasks.
use Rattle.std.proofs.Common.{◌≡◌, ℕ, ◌<◌, ◌≤◌, true, ◌+◌, ◌-◌, Some, All, List, [], ◌∷◌, ◌++◌, length, get_or, set, take, sym, refl, ap, ◌∙◌, subst, arith}
use Rattle.std.proofs.lemmas.List.{get_or-map, get_or-take, length-map}
use Rattle.std.proofs.lemmas.List.Elements.{All-map}
use Rattle.std.proofs.lemmas.Bool.{cond-true}
use Rattle.source.proofs.Gates.{list_sound}
use Rattle.source.proofs.Parts.{part_from}
use Rattle.source.specs.Facts.{is_part, Sound}
use Rattle.paced.specs.Pace.{blank, largest_cost, Fit, paced}
use Rattle.paced.specs.Rows.{paced_owes}
use Rattle.paced.specs.Tables.{FitRows, row_at, told_of, work_in, allowances_in}
use Rattle.paced.specs.declared.row.Row.{Row}
use Rattle.plan.specs.Tasks.{Task, unlimited, task_at, rows_of, limits_of, side_by_side, Fitting, Sides, Stored, Unused}
use Rattle.plan.specs.declared.tasks.Limit.{Limit}

pub rows_sides : (rows : List Row) (limits : List Limit) → length rows ≤ length limits → rows_of (side_by_side rows limits) ≡ rows
rows_sides [] limits h = refl
rows_sides (r ∷ rows) [] h = absurd (omega arith)
rows_sides (r ∷ rows) (l ∷ limits) h = ap (λ xs. r ∷ xs) (rows_sides rows limits (omega arith))

pub limits_sides : (rows : List Row) (limits : List Limit) → length rows ≤ length limits → limits_of (side_by_side rows limits) ≡ take (length rows) limits
limits_sides [] limits h = refl
limits_sides (r ∷ rows) [] h = absurd (omega arith)
limits_sides (r ∷ rows) (l ∷ limits) h = ap (λ xs. l ∷ xs) (limits_sides rows limits (omega arith))

pub length_sides : (rows : List Row) (limits : List Limit) → length rows ≤ length limits → length (side_by_side rows limits) ≡ length rows
length_sides rows limits h = sym (length-map (side_by_side rows limits) (λ t. t.row)) ∙ ap length (rows_sides rows limits h)

-- one more of each is one more task
pub sides_more : (rows : List Row) (limits : List Limit) (r : Row) (l : Limit) → length rows < length limits → side_by_side (rows ++ r ∷ []) (set limits (length rows) l) ≡ side_by_side rows limits ++ (record { row = r; limit = l }) ∷ []
sides_more [] [] r l h = absurd (omega arith)
sides_more [] (m ∷ limits) r l h = refl
sides_more (q ∷ rows) [] r l h = absurd (omega arith)
sides_more (q ∷ rows) (m ∷ limits) r l h = ap (λ (xs : List Task). record { row = q; limit = m } ∷ xs) (sides_more rows limits r l (omega arith))

-- the paced parts of the tasks of a plan are a source
pub rows_fit : (tasks : List Task) → Fitting tasks → All Fit (rows_of tasks)
rows_fit tasks fitting = All-map Fit (λ (t : Task). t.row) tasks fitting.rows

pub tasks_sound : (tasks : List Task) → Fitting tasks → Sound (work_in (rows_of tasks)) (allowances_in (rows_of tasks))
tasks_sound tasks fitting = list_sound paced paced_owes (rows_of tasks) (omega (arith, length-map tasks (λ t. t.row), fitting.few)) (rows_fit tasks fitting)

-- rows in a table and limits with room for 16, as the list of tasks that is seen of them
module _ (parts : FitRows 16) (limits : List Limit) (room : length limits ≡ 16) (tasks : List Task) (seen : side_by_side parts.list limits ≡ tasks) where
  short : length parts.list ≤ length limits
  short = omega (arith, parts.few, room)

  pub rows_in : parts.list ≡ rows_of tasks
  rows_in = sym (rows_sides parts.list limits short) ∙ ap rows_of seen

  pub count_in : length parts.list ≡ length tasks
  count_in = sym (length_sides parts.list limits short) ∙ ap length seen

  pub limits_in : take (length parts.list) limits ≡ limits_of tasks
  limits_in = sym (limits_sides parts.list limits short) ∙ ap limits_of seen

  -- what stands at a place in use
  pub limit_in : (i : ℕ) → i < length tasks → get_or limits i unlimited ≡ (task_at tasks i).limit
  limit_in i h =
      sym (get_or-take (length parts.list) limits i unlimited (omega (arith, count_in)))
      ∙ ap (λ xs. get_or xs i unlimited) limits_in
      ∙ get_or-map (λ t. t.limit) tasks i _ unlimited h

  pub row_in : (i : ℕ) → i < length tasks → row_at parts.list i ≡ (task_at tasks i).row
  row_in i h = ap (λ xs. row_at xs i) rows_in ∙ get_or-map (λ t. t.row) tasks i _ blank h

-- the same of the fields of a table of tasks, which keep to more
module _ (parts : FitRows 16) (limits : List Limit) (sides : Sides parts.list limits) (tasks : List Task) (seen : side_by_side parts.list limits ≡ tasks) where
  pub seen_rows : parts.list ≡ rows_of tasks
  seen_rows = rows_in parts limits sides.room tasks seen

  pub seen_count : length parts.list ≡ length tasks
  seen_count = count_in parts limits sides.room tasks seen

  pub seen_limits : take (length parts.list) limits ≡ limits_of tasks
  seen_limits = limits_in parts limits sides.room tasks seen

  pub seen_limit : (i : ℕ) → i < length tasks → get_or limits i unlimited ≡ (task_at tasks i).limit
  seen_limit i h = limit_in parts limits sides.room tasks seen i h

  pub seen_fitting : Fitting tasks
  seen_fitting = subst Fitting seen sides.fitting

  pub seen_deadline : (i : ℕ) → i < length tasks → (get_or limits i unlimited).deadline ≤ 1000000
  seen_deadline i h =
      let within : (task_at tasks i).limit.deadline + (task_at tasks i).row.jitter ≤ (task_at tasks i).row.period = seen_fitting.deadlines i _ h in
      let fit : Fit (task_at tasks i).row = seen_fitting.rows i _ h in
      omega (arith, ap (λ l. l.deadline) (seen_limit i h), within, fit.paces)

  pub seen_largest : (i : ℕ) → i < length tasks → told_of largest_cost parts.list (i + 1) ≡ Some (largest_cost (task_at tasks i).row)
  seen_largest i h =
      let part : is_part (length parts.list) (i + 1) ≡ true = part_from (length parts.list) (i + 1) (omega arith) (omega (arith, seen_count, h)) in
      let same : i + 1 - 1 ≡ i = omega arith in
      cond-true (is_part (length parts.list) (i + 1)) _ _ part
      ∙ ap (λ k. Some (largest_cost (row_at parts.list k))) same
      ∙ ap (λ r. Some (largest_cost r)) (row_in parts limits sides.room tasks seen i h)

-- and, where they are Stored, of the limits behind the last task
module _ (parts : FitRows 16) (limits : List Limit) (stored : Stored parts.list limits) (tasks : List Task) (seen : side_by_side parts.list limits ≡ tasks) where
  pub seen_rest : Unused (length tasks) limits
  seen_rest = subst (λ n. Unused n limits) (seen_count parts limits stored.sides tasks seen) stored.rest
