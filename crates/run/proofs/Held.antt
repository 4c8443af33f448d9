-- What a run holds to after its tasks, or what waits, have changed.
use Rattle.std.proofs.Common.{◌≡◌, ℕ, ◌-◌, ◌<◌, ◌≤◌, cond, leb, List, [], ◌∷◌, length, map, set, zero, suc, refl, sym, ap, ◌∙◌, subst, arith, lit≤, All}
use Rattle.std.proofs.Math.ListN.{get_or-map}
use Rattle.std.proofs.lemmas.List.{length-map}
use Rattle.std.proofs.lemmas.List.Elements.{All-head, All-tail}
use Rattle.std.specs.Option.{ForSome}
use Rattle.source.specs.Facts.{Work}
use Rattle.paced.specs.Pace.{blank, given, later}
use Rattle.paced.specs.Tables.{row_at}
use Rattle.paced.specs.declared.row.Row.{Row}
use Rattle.plan.specs.Judged.{Judged}
use Rattle.plan.specs.Plans.{Judgement, ByJudge}
use Rattle.plan.specs.Tasks.{Task, AtRest, task_at, side_by_side, unlimited}
use Rattle.plan.specs.declared.tasks.Limit.{Limit}
use Rattle.plan.specs.declared.verdict.Verdict.{Verdict}
use Rattle.plan.specs.declared.verdict.Verdict.TheVariants.{Accepted, NotJudgeable, Late}
use Rattle.run.specs.Runs.{Now, given_task, later_task, parts_of, rested, started, Held}
use Rattle.run.specs.States.{Known, Lasting}
use Rattle.run.specs.declared.state.State.{State}
use Rattle.run.proofs.Steady.{Steady, nothing, same_value}

-- a table of which one row, or each, has moved on, beside its limits
pub sides_given : (rows : List Row) (limits : List Limit) (k : ℕ) → k < length rows → length rows ≤ length limits → side_by_side (set rows k (given (row_at rows k))) limits ≡ set (side_by_side rows limits) k (given_task (task_at (side_by_side rows limits) k))
sides_given [] limits k h long = absurd (omega arith)
sides_given (r ∷ rows) [] k h long = absurd (omega arith)
sides_given (r ∷ rows) (l ∷ limits) zero h long = refl
sides_given (r ∷ rows) (l ∷ limits) (suc k) h long = ap (λ (xs : List Task). record { row = r; limit = l } ∷ xs) (sides_given rows limits k (omega arith) (omega arith))

pub sides_later : (rows : List Row) (limits : List Limit) → side_by_side (map later rows) limits ≡ map later_task (side_by_side rows limits)
sides_later [] limits = refl
sides_later (r ∷ rows) [] = refl
sides_later (r ∷ rows) (l ∷ limits) = ap (λ (xs : List Task). record { row = later r; limit = l } ∷ xs) (sides_later rows limits)

-- but for levels and places the tasks are as they were
pub rested_given : (tasks : List Task) (k : ℕ) → map rested (set tasks k (given_task (task_at tasks k))) ≡ map rested tasks
rested_given [] k = refl
rested_given (t ∷ tasks) zero = refl
rested_given (t ∷ tasks) (suc k) = ap (λ xs. rested t ∷ xs) (rested_given tasks k)

pub rested_later : (tasks : List Task) → map rested (map later_task tasks) ≡ map rested tasks
rested_later [] = refl
rested_later (t ∷ tasks) = ap (λ xs. rested t ∷ xs) (rested_later tasks)

module _ (tasks tasks' : List Task) (same : map rested tasks' ≡ map rested tasks) where
  pub same_count : length tasks' ≡ length tasks
  same_count = sym (length-map tasks' rested) ∙ ap length same ∙ length-map tasks rested

  pub same_limit : (i : ℕ) → (task_at tasks' i).limit ≡ (task_at tasks i).limit
  same_limit i =
      sym (ap (λ t. t.limit) (get_or-map rested tasks' i (record { row = blank; limit = unlimited })))
      ∙ ap (λ xs. (task_at xs i).limit) same
      ∙ ap (λ t. t.limit) (get_or-map rested tasks i (record { row = blank; limit = unlimited }))

  pub known_same : (s : State) → Known tasks s → Known tasks' s
  known_same s known h e =
      let within = known h e in
      record { first = within.first; last = omega (arith, within.last, same_count); left = within.left; short = omega (arith, within.short, ap (λ l. cond (leb 1 h.task) l.hold 0) (same_limit (h.task - 1))) }

module _ {S : Type 0} (work : S → Work) (r : Now S) (held : Held work r) where
  pub steady : Steady r.tasks r.state
  steady = record { backlogs = held.backlogs; jobs = held.jobs; waiting = held.waiting; known = held.known }

  pub held_on : (r' : Now S) → work r'.bank ≡ work r.bank → map rested r'.tasks ≡ map rested r.tasks → r'.bounds ≡ r.bounds → r'.parts ≡ r.parts → Steady r.tasks r'.state → Lasting r'.state → Held work r'
  held_on r' bank tasks bounds parts steady' lasting =
      record {
        started = record {
          judged = held.started.judged;
          by_judge = held.started.by_judge;
          bank = bank ∙ held.started.bank;
          tasks = tasks ∙ held.started.tasks;
          bounds = bounds ∙ held.started.bounds;
          parts = parts ∙ held.started.parts;
        };
        backlogs = steady'.backlogs;
        jobs = steady'.jobs;
        waiting = steady'.waiting;
        known = known_same r.tasks r'.tasks tasks r'.state steady'.known;
        lasting = lasting;
      }

-- the bank of an accepted plan has at most 16 parts
judged_few : (bank : Work) (tasks : List Task) (v : Verdict) (bounds : List ℕ) → Judged bank tasks v bounds → ForSome (parts_of bank v) (λ n. n ≤ 16)
judged_few bank tasks (Accepted k) bounds judged n e = let same : bank.parts ≡ n = same_value e in omega (arith, judged.2)
judged_few bank tasks NotJudgeable bounds judged n e = nothing e
judged_few bank tasks (Late k) bounds judged n e = nothing e

pub held_few : {S : Type 0} (work : S → Work) (r : Now S) → Held work r → ForSome r.parts (λ n. n ≤ 16)
held_few work r held = let j = held.started.judged in subst (λ o. ForSome o (λ n. n ≤ 16)) (sym held.started.parts) (judged_few (work j.plan.bank) j.plan.tasks j.verdict j.bounds held.started.by_judge.judged)

-- a task to which nothing was offered is as it was at the start
rested_same : (t : Task) → AtRest t.row → rested t ≡ t
rested_same t rest = λ k. record t { row = record t.row { level = sym rest.level k; place = sym rest.place k } }

pub all_rested : (tasks : List Task) → All (λ t. AtRest t.row) tasks → map rested tasks ≡ tasks
all_rested [] rest = refl
all_rested (t ∷ tasks) rest = λ k. rested_same t (All-head (λ (t : Task). AtRest t.row) t tasks rest) k ∷ all_rested tasks (All-tail (λ (t : Task). AtRest t.row) t tasks rest) k

-- a run at its start
pub held_start : {S : Type 0} (work : S → Work) (j : Judgement S) → ByJudge work j → Held work (started work j)
held_start work j by_judge =
    record {
      started = record { judged = j; by_judge = by_judge; bank = refl; tasks = all_rested j.plan.tasks by_judge.fitting.rest; bounds = refl; parts = refl };
      backlogs = refl;
      jobs = refl;
      waiting = lit≤ tt;
      known = λ h e. nothing e;
      lasting = λ h e. nothing e;
    }
