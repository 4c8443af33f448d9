-- The example holds.
use Rattle.std.proofs.Common.{◌≡◌, ℕ, zero, suc, ◌+◌, ◌<◌, ◌≤◌, [], ◌∷◌, map, get_or, replicate, refl, arith, lit≤}
use Rattle.std.proofs.lemmas.Bool.Decides.{nat_tests}
use Rattle.std.proofs.lemmas.List.Elements.{All-cons, All-nil}
use Rattle.cycles.proofs.Tables.{all_same}
use Rattle.source.specs.Facts.{Sound, Taken, Driven}
use Rattle.paced.specs.Pace.{Fit}
use Rattle.plan.specs.Judged.{Bounded}
use Rattle.plan.specs.Needs.{needed}
use Rattle.plan.specs.Plans.{ByJudge}
use Rattle.plan.specs.Tasks.{Task, AtRest, task_at, Fitting}
use Rattle.run.specs.Runs.{Now, due_in, later_task, run_granted, run_released, started}
use Rattle.run.specs.Steps.{grown, passed}
use Rattle.guarantee.specs.Playing.{Played}
use Rattle.guarantee.specs.Promise.{Acceptable}
use Rattle.guarantee.proofs.Promising.{modelled}
use Rattle.guarantee.specs.Example.{store_allowed, store_work, store_moves, only_task, judged_plan, some_calls, their_answers, Example}

sound : (s : ℕ) → Sound (store_work s) (store_allowed s)
sound s =
    record {
      few = lit≤ tt;
      none = λ k. grind (arith, nat_tests);
      outside = λ k l e. grind (arith, nat_tests);
      rises = λ k l m h. grind (arith, nat_tests);
      small = λ k l h. grind (arith, nat_tests);
      within = λ k l. grind (arith, nat_tests);
    }

taken : (s t k u : ℕ) → store_moves.takes s k u t → Taken (store_allowed s) k u (store_allowed t)
taken s t k u h =
    record {
      within = λ l some. (let e : k ≡ 1 = h.0 in grind (arith, nat_tests));
      others = λ j l ne. (let e : k ≡ 1 = h.0 in grind (arith, nat_tests));
    }

driven : Driven store_work store_allowed store_moves
driven = record { taken = λ s t k u h. (refl, taken s t k u h); ticked = λ s t h. (refl, record { shorter = λ k l. grind (arith, nat_tests) }) }

acceptable : Acceptable store_work judged_plan.plan
acceptable = record { some = lit≤ tt; few = lit≤ tt; windows = windows }
  where
    windows : (i : ℕ) → i < 1 → (w : ℕ) × (1 ≤ w) × (needed (store_work 3) (only_task ∷ []) i w ≤ w) × (w ≤ (task_at (only_task ∷ []) i).limit.deadline)
    windows zero h = (5, lit≤ tt, lit≤ tt, lit≤ tt)
    windows (suc i) h = absurd (omega arith)

-- the states of the run, one after another
abbrev first : Now ℕ
first = started store_work judged_plan

abbrev offered : Now ℕ
offered = record first { bank = 1; state = grown first.state 1 2 }

abbrev holding : Now ℕ
holding = run_granted (run_released offered 1 2) 1 1

abbrev ticked : Now ℕ → Now ℕ
ticked r = record r { tasks = map later_task r.tasks; state = passed r.state (due_in r) }

played : Played store_allowed store_moves some_calls their_answers first (ticked (ticked (ticked (ticked holding))))
played = (
  offered,
  (refl, record { bank = (refl, lit≤ tt, lit≤ tt, refl); rest = refl }),
  (
    run_released offered 1 2,
    (refl, refl),
    (
      holding,
      (refl, refl),
      (
        holding,
        (refl, refl),
        (
          ticked holding,
          (refl, record { bank = refl; rest = refl }),
          (
            ticked (ticked holding),
            (refl, record { bank = refl; rest = refl }),
            (
              ticked (ticked (ticked holding)),
              (refl, record { bank = refl; rest = refl }),
              (ticked (ticked (ticked (ticked holding))), (refl, record { bank = refl; rest = refl }), refl),
            ),
          ),
        ),
      ),
    ),
  ),
)

only_fit : Fit only_task.row
only_fit = record { paces = (lit≤ tt, lit≤ tt, lit≤ tt); places = (refl, lit≤ tt, lit≤ tt, lit≤ tt); costs = small }
  where
    small : (j : ℕ) → get_or (2 ∷ replicate 7 0) j 0 ≤ 1000000
    small zero = lit≤ tt
    small (suc j) = omega (arith, all_same {A = ℕ} 7 j 0)

fitting : Fitting (only_task ∷ [])
fitting =
    record {
      few = lit≤ tt;
      rows = All-cons (λ (t : Task). Fit t.row) only_task [] only_fit (All-nil (λ (t : Task). Fit t.row));
      rest = All-cons (λ (t : Task). AtRest t.row) only_task [] (record { level = refl; place = refl }) (All-nil (λ (t : Task). AtRest t.row));
      deadlines = All-cons (λ (t : Task). t.limit.deadline + t.row.jitter ≤ t.row.period) only_task [] (lit≤ tt) (All-nil (λ (t : Task). t.limit.deadline + t.row.jitter ≤ t.row.period));
      blockings = All-cons (λ (t : Task). t.limit.blocking ≤ 1000000) only_task [] (lit≤ tt) (All-nil (λ (t : Task). t.limit.blocking ≤ 1000000));
      holds = λ i j a b. absurd (omega arith);
    }

bounded : (i : ℕ) → i < 1 → Bounded (store_work 3) (only_task ∷ []) i (get_or judged_plan.bounds i 0)
bounded zero h = (record { some = lit≤ tt; holds = lit≤ tt; smaller = low }, lit≤ tt)
  where
    low : (l : ℕ) → 1 ≤ l → l < 5 → l < needed (store_work 3) (only_task ∷ []) 0 l
    low zero a b = absurd (omega arith)
    low (suc zero) a b = lit≤ tt
    low (suc (suc zero)) a b = lit≤ tt
    low (suc (suc (suc zero))) a b = lit≤ tt
    low (suc (suc (suc (suc zero)))) a b = lit≤ tt
    low (suc (suc (suc (suc (suc l))))) a b = absurd (omega arith)
bounded (suc i) h = absurd (omega arith)

by_judge : ByJudge store_work judged_plan
by_judge =
    record {
      fitting = fitting;
      judged = (refl, lit≤ tt, lit≤ tt, bounded);
      filled = record { windows = bounded; rest = rest };
      places = refl;
    }
  where
    rest : (i : ℕ) → 1 ≤ i → get_or judged_plan.bounds i 0 ≡ 0
    rest zero h = absurd (omega arith)
    rest (suc i) h = all_same 15 i 0

abbrev end : Now ℕ
end = ticked (ticked (ticked (ticked holding)))

pub example : Example
example = record { sound = sound; driven = driven; acceptable = acceptable; by_judge = by_judge; run = end; played = played; modelled = modelled store_work store_allowed store_moves sound driven judged_plan by_judge acceptable some_calls their_answers end played }
