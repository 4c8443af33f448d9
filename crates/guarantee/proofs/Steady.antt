-- What the tasks of every run of an accepted plan keep to.
use Rattle.std.proofs.Common.{◌≡◌, ℕ, zero, suc, ◌+◌, ◌-◌, ◌/◌, ◌<◌, ◌≤◌, All, List, [], ◌∷◌, map, length, set, nat_le, sym, refl, ap, ◌∙◌, arith}
use Rattle.std.proofs.Math.Nat.{div-eq_of_lt}
use Rattle.std.proofs.Math.ListN.{get_or-map}
use Rattle.std.proofs.lemmas.List.{length-map}
use Rattle.std.proofs.lemmas.Bool.{cond_both}
use Rattle.source.specs.Facts.{Taken, Ticked}
use Rattle.source.specs.Rows.{Gives, Passes}
use Rattle.source.proofs.Gates.{list_taken, list_ticked, list_given_fit, list_later_fit}
use Rattle.source.proofs.Parts.{by_part, part_from, offerable_from}
use Rattle.cycles.proofs.Rounds.{top_at}
use Rattle.paced.specs.Runs.{at}
use Rattle.paced.specs.Pace.{run, allowance, arrivals, largest_cost, given, later, blank, Fit, paced}
use Rattle.paced.specs.Rows.{paced_owes}
use Rattle.paced.specs.Tables.{row_at, work_in, allowances_in}
use Rattle.paced.specs.declared.row.Row.{Row}
use Rattle.plan.specs.Tasks.{Task, task_at, rows_of, unlimited}
use Rattle.run.specs.Runs.{given_task, later_task, rested}
use Rattle.run.proofs.Held.{rested_given, rested_later}

-- over at most T - J ticks a row brings at most one cost
allowance_few : (r : Row) (l : ℕ) → Fit r → l + r.jitter ≤ r.period → allowance r l ≤ largest_cost r
allowance_few r zero fit h = omega arith
allowance_few r (suc l) fit h =
    let none : (r.jitter + l - r.level) / r.period ≡ 0 = div-eq_of_lt (omega arith) in
    let one : run r r.place (arrivals r r.level (suc l)) ≡ run r r.place 1 = ap (λ m. run r r.place (m + 1)) none in
    let here : run r r.place 1 ≡ at r.costs r.place = omega arith in
    let least : at r.costs r.place ≤ largest_cost r = top_at (at r.costs) r.count r.place fit.places.2 in
    cond_both (nat_le r.level (r.jitter + l)) (run r r.place (arrivals r r.level (suc l))) 0 (λ x. x ≤ largest_cost r) (λ _. omega arith) (λ _. omega arith)

allowances_few : (rows : List Row) (i l : ℕ) → i - 1 < length rows → All Fit rows → l + (row_at rows (i - 1)).jitter ≤ (row_at rows (i - 1)).period → allowances_in rows i l ≤ largest_cost (row_at rows (i - 1))
allowances_few rows i l place fit h = by_part (λ x y. x ≤ largest_cost (row_at rows (i - 1))) (length rows) i (allowance (row_at rows (i - 1)) l) 0 (λ _. allowance_few (row_at rows (i - 1)) l (fit (i - 1) blank place) h) (omega arith)

-- the paced parts of tasks of which one, or each, has moved on
rows_given : (tasks : List Task) (k : ℕ) → rows_of (set tasks k (given_task (task_at tasks k))) ≡ set (rows_of tasks) k (given (row_at (rows_of tasks) k))
rows_given [] k = refl
rows_given (t ∷ tasks) zero = refl
rows_given (t ∷ tasks) (suc k) = ap (λ xs. t.row ∷ xs) (rows_given tasks k)

rows_later : (tasks : List Task) → rows_of (map later_task tasks) ≡ map later (rows_of tasks)
rows_later [] = refl
rows_later (t ∷ tasks) = ap (λ xs. later t.row ∷ xs) (rows_later tasks)

-- tasks that are fit, and but for levels and places those of the start
pub record Steady (start tasks : List Task) : Type 0 where
  pub fit : All Fit (rows_of tasks)
  pub alike : map rested tasks ≡ map rested start
  pub work : work_in (rows_of tasks) ≡ work_in (rows_of start)

module _ (start tasks : List Task) (steady : Steady start tasks) where
  pub alike_at : (i : ℕ) → rested (task_at tasks i) ≡ rested (task_at start i)
  alike_at i = sym (get_or-map rested tasks i (record { row = blank; limit = unlimited })) ∙ ap (λ xs. task_at xs i) steady.alike ∙ get_or-map rested start i (record { row = blank; limit = unlimited })

  row_is : (i : ℕ) → row_at (rows_of tasks) i ≡ (task_at tasks i).row
  row_is i = get_or-map (λ t. t.row) tasks i (record { row = blank; limit = unlimited })

  -- within its deadline a task brings at most one cost
  pub one_cost : (i l : ℕ) → i - 1 < length tasks → l + (task_at start (i - 1)).row.jitter ≤ (task_at start (i - 1)).row.period → allowances_in (rows_of tasks) i l ≤ largest_cost (task_at start (i - 1)).row
  one_cost i l place h =
      let alike = alike_at (i - 1) in
      let row = row_is (i - 1) in
      let most = allowances_few (rows_of tasks) i l (omega (arith, place, length-map tasks (λ t. t.row))) steady.fit (omega (arith, h, ap (λ r. r.jitter) row, ap (λ r. r.period) row, ap (λ t. t.row.jitter) alike, ap (λ t. t.row.period) alike)) in
      omega (arith, most, ap largest_cost row, ap (λ t. largest_cost t.row) alike)

  -- a release that is taken
  pub steady_given : (i u : ℕ) → 1 ≤ i → i ≤ length tasks → 1 ≤ u → u ≤ allowances_in (rows_of tasks) i 1 → Steady start (set tasks (i - 1) (given_task (task_at tasks (i - 1)))) × Taken (allowances_in (rows_of tasks)) i u (allowances_in (rows_of (set tasks (i - 1) (given_task (task_at tasks (i - 1))))))
  steady_given i u first last some allowed =
      let rows = rows_of tasks in
      let tasks' = set tasks (i - 1) (given_task (task_at tasks (i - 1))) in
      let many : i ≤ length rows = omega (arith, last, length-map tasks (λ t. t.row)) in
      let gives : Gives paced rows i u (rows_of tasks') = record { offered = offerable_from (length rows) (allowances_in rows) i u (part_from (length rows) i first many) some allowed; moved = rows_given tasks (i - 1) } in
      let facts = list_taken paced paced_owes rows i u (rows_of tasks') steady.fit gives in
      (record { fit = list_given_fit paced paced_owes rows i u (rows_of tasks') steady.fit gives; alike = rested_given tasks (i - 1) ∙ steady.alike; work = facts.0 ∙ steady.work }, facts.1)

  -- a tick
  pub steady_later : Steady start (map later_task tasks) × Ticked (allowances_in (rows_of tasks)) (allowances_in (rows_of (map later_task tasks)))
  steady_later =
      let rows = rows_of tasks in
      let rows' = rows_of (map later_task tasks) in
      let passes : Passes paced rows rows' = rows_later tasks in
      let facts = list_ticked paced paced_owes rows rows' steady.fit passes in
      (record { fit = list_later_fit paced paced_owes rows rows' steady.fit passes; alike = rested_later tasks ∙ steady.alike; work = facts.0 ∙ steady.work }, facts.1)

pub steady_start : (tasks : List Task) → All Fit (rows_of tasks) → Steady tasks tasks
steady_start tasks fit = record { fit = fit; alike = refl; work = refl }
