-- One task more: what the tasks of a plan keep to.
use Rattle.std.proofs.Common.{◌≡◌, ℕ, ◌+◌, ◌-◌, ◌<◌, ◌≤◌, Bool, true, false, cond, ◌&&◌, ltb, leb, List, [], ◌∷◌, ◌++◌, length, drop, replicate, get_or, Some, None, Option, set, sym, subst, ◌∙◌, refl, ap, inl, inr, arith, length-append, length-set}
use Rattle.std.proofs.lemmas.Bool.{cases_lt, leb-true, ltb-true, and_parts}
use Rattle.std.proofs.lemmas.List.{drop-drop, drop-replicate, drop-set-lt, get_or_append_left, get_or_push, get_or-map, length-map}
use Rattle.std.proofs.lemmas.List.Elements.{All-push}
use Rattle.std.proofs.lemmas.List.Sums.{AllPass-from_list_all}
use Rattle.refusal.specs.Table.{row, first_of}
use Rattle.refusal.specs.declared.Fault.{Fault}
use Rattle.refusal.specs.declared.Fault.TheVariants.{TooMany, OutOfRange, Misfit, HoldAboveBlocking}
use Rattle.paced.specs.Makes.{Asked, fresh, in_range, fault_of, adding}
use Rattle.paced.specs.Pace.{Fit}
use Rattle.paced.specs.Tables.{FitRows}
use Rattle.paced.specs.declared.row.Row.{Row}
use Rattle.paced.proofs.Makings.{passed, fresh_fit}
use Rattle.plan.specs.Limits.{bearable, limit_fault, task_fault}
use Rattle.plan.specs.Tasks.{Task, made, task_at, limits_of, unlimited, side_by_side, AtRest, Fitting, Sides, Stored, Unused}
use Rattle.plan.proofs.Sides.{seen_count, seen_fitting, seen_rest, sides_more}
use Rattle.plan.specs.declared.tasks.Limit.{Limit}

-- where no fault is found in either of two, none is found in both
first_none : (a b : Option Fault) → first_of a b ≡ None → (a ≡ None) × (b ≡ None)
first_none None b e = (refl, e)
first_none (Some f) None e = let z : ◌≡◌ {A = ℕ} 0 1 = cc in absurd (omega arith)
first_none (Some f) (Some g) e = some (leb (row f).number (row g).number) e
  where
    some : (t : Bool) → cond t (Some f) (Some g) ≡ None → (Some f ≡ None) × (Some g ≡ None)
    some true q = let z : ◌≡◌ {A = ℕ} 0 1 = cc in absurd (omega arith)
    some false q = let z : ◌≡◌ {A = ℕ} 0 1 = cc in absurd (omega arith)

-- a hold that all the tasks can bear
bears_each : (tasks : List Task) (h : ℕ) → bearable tasks h ≡ true → (i : ℕ) → i < length tasks → h ≤ (task_at tasks i).limit.blocking
bears_each tasks h e i l =
    let all = AllPass-from_list_all (λ (limit : Limit). leb h limit.blocking) (limits_of tasks) e in
    let here = all i unlimited (omega (arith, length-map tasks (λ t. t.limit))) in
    let limit : get_or (limits_of tasks) i unlimited ≡ (task_at tasks i).limit = get_or-map (λ t. t.limit) tasks i _ unlimited l in
    omega (arith, leb-true h (get_or (limits_of tasks) i unlimited).blocking here, ap (λ l. l.blocking) limit)

-- limits with which nothing is wrong
record Right (tasks : List Task) (a : Asked) (l : Limit) : Type 0 where
  blocking : l.blocking ≤ 1000000
  deadline : l.deadline + a.jitter ≤ a.period
  hold : (i : ℕ) → i < length tasks → l.hold ≤ (task_at tasks i).limit.blocking

right_limits : (tasks : List Task) (a : Asked) (l : Limit) → limit_fault tasks a l ≡ None → Right tasks a l
right_limits tasks a l e =
    let numbers = passed (in_range l.deadline && (leb l.blocking 1000000 && leb l.hold 1000000)) (cond (leb (l.deadline + a.jitter) a.period) (cond (bearable tasks l.hold) None (Some HoldAboveBlocking)) (Some Misfit)) OutOfRange e in
    let fitting = passed (leb (l.deadline + a.jitter) a.period) (cond (bearable tasks l.hold) None (Some HoldAboveBlocking)) Misfit numbers.1 in
    let bearing = passed (bearable tasks l.hold) None HoldAboveBlocking fitting.1 in
    record {
      blocking = leb-true l.blocking 1000000 (and_parts (leb l.blocking 1000000) (leb l.hold 1000000) (and_parts (in_range l.deadline) (leb l.blocking 1000000 && leb l.hold 1000000) numbers.0).1).0;
      deadline = leb-true (l.deadline + a.jitter) a.period fitting.0;
      hold = bears_each tasks l.hold bearing.0;
    }

-- a task that is taken leaves the tasks as a plan takes them
pub add_fitting : (tasks : List Task) (a : Asked) (l : Limit) → task_fault tasks a l ≡ None → Fitting tasks → Fitting (tasks ++ made a l ∷ [])
add_fitting tasks a l none old =
    record {
      few = omega (arith, length-append tasks (made a l ∷ []), room);
      rows = All-push (λ (task : Task). Fit task.row) tasks (made a l) old.rows (fresh_fit a (passed (ltb (length tasks) 16) (fault_of a) TooMany parts.0).1);
      rest = All-push (λ (task : Task). AtRest task.row) tasks (made a l) old.rest (record { level = refl; place = refl });
      deadlines = All-push (λ (task : Task). task.limit.deadline + task.row.jitter ≤ task.row.period) tasks (made a l) old.deadlines right.deadline;
      blockings = All-push (λ (task : Task). task.limit.blocking ≤ 1000000) tasks (made a l) old.blockings right.blocking;
      holds = holds;
    }
  where
    parts : (adding 16 (length tasks) a ≡ None) × (limit_fault tasks a l ≡ None)
    parts = first_none (adding 16 (length tasks) a) (limit_fault tasks a l) none

    right : Right tasks a l
    right = right_limits tasks a l parts.1

    room : length tasks < 16
    room = ltb-true (length tasks) 16 (passed (ltb (length tasks) 16) (fault_of a) TooMany parts.0).0

    there : (i : ℕ) → i < length tasks → task_at (tasks ++ made a l ∷ []) i ≡ task_at tasks i
    there i h = get_or_append_left tasks (made a l ∷ []) _ i h

    last : (j : ℕ) → length tasks ≡ j → task_at (tasks ++ made a l ∷ []) j ≡ made a l
    last j e = get_or_push tasks (made a l) _ j e

    holds : (i j : ℕ) → i < j → j < length (tasks ++ made a l ∷ []) → (task_at (tasks ++ made a l ∷ []) j).limit.hold ≤ (task_at (tasks ++ made a l ∷ []) i).limit.blocking
    holds i j less within =
        let many : j < length tasks + 1 = omega (arith, length-append tasks (made a l ∷ [])) in
        elim (cases_lt j (length tasks)) [
          | inl before ↦ omega (arith, old.holds i j less before, ap (λ t. t.limit.hold) (there j before), ap (λ t. t.limit.blocking) (there i (omega arith)))
          | inr new ↦ omega (arith, right.hold i (omega arith), ap (λ t. t.limit.hold) (last j (omega arith)), ap (λ t. t.limit.blocking) (there i (omega arith)))
        ]

-- and its paced part can be added
pub part_clean : (tasks : List Task) (a : Asked) (l : Limit) → task_fault tasks a l ≡ None → adding 16 (length tasks) a ≡ None
part_clean tasks a l none = (first_none (adding 16 (length tasks) a) (limit_fault tasks a l) none).0

-- where a task was added there was room
had_room : (tasks : List Task) (a : Asked) (l : Limit) → task_fault tasks a l ≡ None → length tasks < 16
had_room tasks a l none = ltb-true (length tasks) 16 (passed (ltb (length tasks) 16) (fault_of a) TooMany (first_none (adding 16 (length tasks) a) (limit_fault tasks a l) none).0).0

-- the fields of a table of tasks after one more was added
module _ (parts : FitRows 16) (limits : List Limit) (sides : Sides parts.list limits) (tasks : List Task) (seen : side_by_side parts.list limits ≡ tasks) (a : Asked) (l : Limit) (clean : task_fault tasks a l ≡ None)
    (rows' : List Row) (limits' : List Limit) (rows_more : rows' ≡ parts.list ++ fresh a ∷ []) (limits_more : limits' ≡ set limits (length tasks) l) where
  pub grown : side_by_side rows' limits' ≡ tasks ++ made a l ∷ []
  grown =
      let count = seen_count parts limits sides tasks seen in
      let room : length parts.list < length limits = omega (arith, had_room tasks a l clean, count, sides.room) in
      (λ i. side_by_side (rows_more i) ((limits_more ∙ ap (λ n. set limits n l) (sym count)) i))
      ∙ sides_more parts.list limits (fresh a) l room
      ∙ ap (λ xs. xs ++ made a l ∷ []) seen

  pub grown_sides : Sides rows' limits'
  grown_sides =
      record {
        room = ap length limits_more ∙ length-set limits (length tasks) l ∙ sides.room;
        fitting = subst Fitting (sym grown) (add_fitting tasks a l clean (seen_fitting parts limits sides tasks seen));
      }

-- the same fields, with the limits behind the last task
module _ (parts : FitRows 16) (limits : List Limit) (stored : Stored parts.list limits) (tasks : List Task) (seen : side_by_side parts.list limits ≡ tasks) (a : Asked) (l : Limit) (clean : task_fault tasks a l ≡ None)
    (rows' : List Row) (limits' : List Limit) (rows_more : rows' ≡ parts.list ++ fresh a ∷ []) (limits_more : limits' ≡ set limits (length tasks) l) where
  pub grown_stored : Stored rows' limits'
  grown_stored =
      record {
        sides = grown_sides parts limits stored.sides tasks seen a l clean rows' limits' rows_more limits_more;
        rest = unused;
      }
    where
      n : ℕ
      n = length tasks

      long : length rows' ≡ n + 1
      long = omega (arith, ap length rows_more, length-append parts.list (fresh a ∷ []), seen_count parts limits stored.sides tasks seen)

      less : 16 - n - 1 ≡ 16 - (n + 1)
      less = omega arith

      unused : Unused (length rows') limits'
      unused =
          (λ i. drop (long i) (limits_more i))
          ∙ drop-set-lt (n + 1) limits n l (omega arith)
          ∙ sym (drop-drop 1 n limits)
          ∙ ap (drop 1) (seen_rest parts limits stored tasks seen)
          ∙ drop-replicate 1 (16 - n) unlimited
          ∙ ap (λ k. replicate k unlimited) (less ∙ ap (λ k. 16 - k) (sym long))
