-- A run of an acceptable plan keeps its promise.
use Rattle.std.proofs.Common.{◌≡◌, ℕ, ◌+◌, ◌-◌, ◌<◌, ◌≤◌, Bool, true, false, cond, leb, List, length, map, get_or, replicate, Some, refl, sym, ap, ◌∙◌, subst, inl, inr, arith, ◌↔◌, IsTrue}
use Rattle.std.proofs.lemmas.Bool.{cond-true, le-leb}
use Rattle.std.proofs.lemmas.List.{length-map}
use Rattle.cycles.proofs.Tables.{all_same}
use Rattle.source.specs.Facts.{Work, Moves, Sound, Driven}
use Rattle.paced.specs.Pace.{Fit}
use Rattle.plan.proofs.Sides.{rows_fit}
use Rattle.plan.specs.Judged.{Bounded, Judged}
use Rattle.plan.specs.Plans.{Plan, Judgement, ByJudge}
use Rattle.plan.specs.Tasks.{task_at, rows_of}
use Rattle.plan.specs.declared.verdict.Verdict.{Verdict}
use Rattle.plan.specs.declared.verdict.Verdict.TheVariants.{Accepted, NotJudgeable, Late}
use Rattle.calls.specs.Events.{log_of}
use Rattle.calls.specs.States as model
use Rattle.calls.specs.declared.Answer.{Answer}
use Rattle.calls.specs.declared.Call.{Call}
use Rattle.calls.proofs.Guaranteeing.{guaranteed}
use Rattle.run.specs.Runs.{Now, is_accepted, parts_of, rested, started}
use Rattle.run.proofs.Held.{all_rested}
use Rattle.run.specs.States.{no_job, hold_of, at_start}
use Rattle.guarantee.specs.Playing.{Played}
use Rattle.guarantee.specs.Promise.{Acceptable, Keeps, ModelLeads, Modelled, Promised, begun}
use Rattle.guarantee.specs.Views.{model_of, seen}
use Rattle.run.proofs.Steady.{nothing}
use Rattle.guarantee.proofs.Linking.{In, leads, fits}
use Rattle.guarantee.proofs.Played.{Fixed, played_fixed}
use Rattle.guarantee.proofs.Steady.{steady_start}

module _ {S : Type 0} (work : S → Work) (plan : Plan S) where
  -- the verdict on an acceptable plan is that it is accepted
  pub acceptable_accepted : (v : Verdict) (bounds : List ℕ) → Judged (work plan.bank) plan.tasks v bounds → Acceptable work plan → is_accepted v ≡ true
  acceptable_accepted (Accepted k) bounds j ok = refl
  acceptable_accepted NotJudgeable bounds j ok = elim j [ inl none ↦ absurd (omega (arith, ok.some)) | inr many ↦ absurd (omega (arith, ok.few)) ]
  acceptable_accepted (Late k) bounds j ok =
      let place : k - 1 < length plan.tasks = omega (arith, j.1, j.2) in
      let w = ok.windows (k - 1) place in
      let never = j.4 (k - 1) (omega (arith, j.1)) w.0 w.1 w.3 in
      absurd (omega (arith, w.2, never))

  -- an accepted plan has its bounds, and so it is acceptable
  pub accepted_bounds : (v : Verdict) (bounds : List ℕ) → Judged (work plan.bank) plan.tasks v bounds → is_accepted v ≡ true → (1 ≤ length plan.tasks) × ((work plan.bank).parts ≤ 16) × (parts_of (work plan.bank) v ≡ Some (work plan.bank).parts) × ((i : ℕ) → i < length plan.tasks → Bounded (work plan.bank) plan.tasks i (get_or bounds i 0))
  accepted_bounds (Accepted k) bounds j ok = (omega (arith, j.0, j.1), j.2, refl, λ i h. j.3 i (omega (arith, j.0)))
  accepted_bounds NotJudgeable bounds j ok = let z : ◌≡◌ {A = ℕ} 0 1 = cc in absurd (omega arith)
  accepted_bounds (Late k) bounds j ok = let z : ◌≡◌ {A = ℕ} 0 1 = cc in absurd (omega arith)

  pub accepted_acceptable : (v : Verdict) (bounds : List ℕ) → Judged (work plan.bank) plan.tasks v bounds → is_accepted v ≡ true → Acceptable work plan
  accepted_acceptable v bounds j ok =
      let right = accepted_bounds v bounds j ok in
      record { some = right.0; few = right.1; windows = λ i h. (let b = right.3 i h in (get_or bounds i 0, b.0.some, b.0.holds, b.1)) }

-- either of two values that are 0
either_zero : (b : Bool) (x : ℕ) → x ≡ 0 → cond b x 0 ≡ 0
either_zero true x h = h
either_zero false x h = refl

module _ {S : Type 0} (work : S → Work) (allowed : S → ℕ → ℕ → ℕ) (moves : Moves S)
    (sound : (s : S) → Sound (work s) (allowed s)) (driven : Driven work allowed moves)
    (j : Judgement S) (by_judge : ByJudge work j) (ok : Acceptable work j.plan) where
  accepted : is_accepted j.verdict ≡ true
  accepted = acceptable_accepted work j.plan j.verdict j.bounds by_judge.judged ok

  right : (1 ≤ length j.plan.tasks) × ((work j.plan.bank).parts ≤ 16) × (parts_of (work j.plan.bank) j.verdict ≡ Some (work j.plan.bank).parts) × ((i : ℕ) → i < length j.plan.tasks → Bounded (work j.plan.bank) j.plan.tasks i (get_or j.bounds i 0))
  right = accepted_bounds work j.plan j.verdict j.bounds by_judge.judged accepted

  -- the run takes calls: it has all parts of the bank
  pub parts_are : (started work j).parts ≡ Some (work j.plan.bank).parts
  parts_are = right.2

  deadlines : (i : ℕ) → i < length j.plan.tasks → (task_at j.plan.tasks i).limit.deadline + (task_at j.plan.tasks i).row.jitter ≤ (task_at j.plan.tasks i).row.period
  deadlines i h = by_judge.fitting.deadlines i _ h

  rows_many : length (rows_of j.plan.tasks) ≡ length j.plan.tasks
  rows_many = length-map j.plan.tasks (λ t. t.row)

  model_accepted : model.Accepted (model_of work j.plan j.bounds)
  model_accepted =
      record {
        some = λ i a b. (right.3 (i - 1) (omega (arith, rows_many))).0.some;
        holds = λ i a b. (right.3 (i - 1) (omega (arith, rows_many))).0.holds;
        capped = λ i a b. (let place : i - 1 < length j.plan.tasks = omega (arith, rows_many) in let fit : Fit (task_at j.plan.tasks (i - 1)).row = by_judge.fitting.rows (i - 1) _ place in omega (arith, (right.3 (i - 1) place).1, deadlines (i - 1) place, fit.paces));
        blocked = λ i k a b c. (let h : hold_of j.plan.tasks k ≡ (task_at j.plan.tasks (k - 1)).limit.hold = cond-true _ (task_at j.plan.tasks (k - 1)).limit.hold 0 (le-leb 1 k (omega arith)) in omega (arith, h, by_judge.fitting.holds (i - 1) (k - 1) (omega arith) (omega (arith, rows_many))));
      }

  inside : In work allowed moves sound driven j.plan j.bounds right.1 by_judge.fitting.few deadlines (λ i h. (right.3 i h).1) (started work j)
  inside = record { bank = refl; parts = right.2; tasks = steady_start j.plan.tasks (rows_fit j.plan.tasks by_judge.fitting); backlogs = refl; jobs = refl; whose = λ h e. nothing e }

  fresh : model.Fresh (seen allowed (started work j))
  fresh =
      record {
        backlog = λ k. either_zero (leb 1 k) (get_or (replicate 16 0) (k - 1) 0) (all_same 16 (k - 1) 0);
        left = λ i. either_zero (leb 1 i) (get_or (replicate 16 no_job) (i - 1) no_job).left (ap (λ job. job.left) (all_same 16 (i - 1) no_job));
        age = λ i. either_zero (leb 1 i) (get_or (replicate 16 no_job) (i - 1) no_job).age (ap (λ job. job.age) (all_same 16 (i - 1) no_job));
        holder = refl;
        held = refl;
      }

  -- whatever the calls, they lead from the start of the model's run to its end
  pub modelled : (calls : List Call) (as' : List Answer) (r : Now S) → Played allowed moves calls as' (started work j) r → ModelLeads (model_of work j.plan j.bounds) (seen allowed (started work j)) (seen allowed r) (log_of calls as')
  modelled calls as' r played =
      record {
        accepted = model_accepted;
        fresh = fresh;
        fits = fits work allowed moves sound driven j.plan j.bounds right.1 by_judge.fitting.few deadlines (λ i h. (right.3 i h).1) (started work j) inside;
        leads = leads work allowed moves sound driven j.plan j.bounds right.1 by_judge.fitting.few deadlines (λ i h. (right.3 i h).1) calls as' (started work j) r inside played;
      }

  pub kept : (calls : List Call) (as' : List Answer) (r : Now S) → Played allowed moves calls as' (started work j) r → Keeps work j.plan j.bounds (log_of calls as')
  kept calls as' r played =
      let m = modelled calls as' r played in
      let rules = guaranteed (model_of work j.plan j.bounds) m.accepted (seen allowed (started work j)) (seen allowed r) (log_of calls as') m.fresh m.fits m.leads in
      record { never_late = rules.0; never_more = rules.1 }

-- the promise, for every gate
pub promised : {S : Type 0} (work : S → Work) (allowed : S → ℕ → ℕ → ℕ) (moves : Moves S) → ((s : S) → Sound (work s) (allowed s)) → Driven work allowed moves → Promised work allowed moves
promised work allowed moves sound driven j by_judge ok calls answers r played = kept work allowed moves sound driven j by_judge ok calls answers r played

-- the run that a list of calls left, which began as s
module _ {S : Type 0} (work : S → Work) (allowed : S → ℕ → ℕ → ℕ) (moves : Moves S) (j : Judgement S) (calls : List Call) (as' : List Answer) (s r : Now S) (s_is : s ≡ started work j) (played : Played allowed moves calls as' s r) where
  from_start : Played allowed moves calls as' (started work j) r
  from_start = subst (λ x. Played allowed moves calls as' x r) s_is played

  fixed : Fixed allowed moves (started work j) r
  fixed = played_fixed allowed moves calls as' (started work j) r from_start

  pub bounds_are : r.bounds ≡ j.bounds
  bounds_are = fixed.bounds

  pub parts_told : r.parts ≡ parts_of (work j.plan.bank) j.verdict
  parts_told = fixed.parts

  pub tasks_are : ByJudge work j → map rested r.tasks ≡ j.plan.tasks
  tasks_are by_judge = fixed.tasks ∙ all_rested j.plan.tasks by_judge.fitting.rest

  begun_is : started work j ≡ begun j.plan r
  begun_is = λ k. record { bank = j.plan.bank; tasks = j.plan.tasks; bounds = sym fixed.bounds k; parts = sym fixed.parts k; state = at_start }

  pub played_begun : Played allowed moves calls as' (begun j.plan r) r
  played_begun = subst (λ x. Played allowed moves calls as' x r) begun_is from_start

  module _ (sound : (s : S) → Sound (work s) (allowed s)) (driven : Driven work allowed moves) (by_judge : ByJudge work j) (ok : Acceptable work j.plan) where
    pub parts_taken : r.parts ≡ Some (work j.plan.bank).parts
    parts_taken = fixed.parts ∙ parts_are work allowed moves sound driven j by_judge ok

    pub plan_kept : Keeps work j.plan r.bounds (log_of calls as')
    plan_kept = subst (λ b. Keeps work j.plan b (log_of calls as')) (sym fixed.bounds) (promised work allowed moves sound driven j by_judge ok calls as' r from_start)

    pub plan_modelled : Modelled work allowed j.plan r (log_of calls as')
    plan_modelled =
        subst (λ b. ModelLeads (model_of work j.plan b) (seen allowed (begun j.plan r)) (seen allowed r) (log_of calls as')) (sym fixed.bounds)
        (subst (λ x. ModelLeads (model_of work j.plan j.bounds) (seen allowed x) (seen allowed r) (log_of calls as')) begun_is (modelled work allowed moves sound driven j by_judge ok calls as' r from_start))

-- a plan is accepted exactly if it is acceptable
pub told_acceptable : {S : Type 0} (work : S → Work) (j : Judgement S) → ByJudge work j → IsTrue (is_accepted j.verdict) ↔ Acceptable work j.plan
told_acceptable work j by_judge = (λ e. accepted_acceptable work j.plan j.verdict j.bounds by_judge.judged e, λ ok. acceptable_accepted work j.plan j.verdict j.bounds by_judge.judged ok)
