-- The steps of a run, as the model has them: what is done to the state of a run is what the model's step says.
use Rattle.std.proofs.Common.{◌≡◌, ℕ, ◌+◌, ◌-◌, ◌≤◌, Bool, true, false, cond, eqb, List, length, set, Option, Some, None, sym, refl, ap, ◌∙◌, inl, inr, arith}
use Rattle.std.proofs.lemmas.List.{length-map}
use Rattle.std.proofs.lemmas.Bool.{cond-false, ne_eqb, cases_eq}
use Rattle.source.specs.Facts.{Taken}
use Rattle.calls.specs.Steps.{Offered, Released, Granted, LetGone, Ended}
use Rattle.run.specs.States.{no_job, backlog_of, left_of, age_of, hold_of, holder, holder_in, held_in, holds}
use Rattle.run.specs.Steps.{grown, released, granted, let_go, ended}
use Rattle.run.specs.declared.state.Hold.{Hold}
use Rattle.run.specs.declared.state.Job.{Job}
use Rattle.run.specs.declared.state.State.{State}
use Rattle.plan.specs.Plans.{Plan}
use Rattle.plan.specs.Tasks.{rows_of}
use Rattle.run.specs.Runs.{Now}
use Rattle.source.specs.Facts.{Work}
use Rattle.guarantee.specs.Views.{model_of, view_of}
use Rattle.run.proofs.Faults.{Holdable, Releasable}
use Rattle.run.proofs.Firsts.{pending_found}
use Rattle.run.proofs.Numbered.{numbered_set}

module _ (b : ℕ → ℕ → ℕ) (s : State) where
  pub offered_step : (a a' : ℕ → ℕ → ℕ) (k u : ℕ) → 1 ≤ k → k ≤ length s.backlogs → Taken a k u a' → Offered (view_of a b s) k u (view_of a' b (grown s k u))
  offered_step a a' k u some within taken =
      record {
        taken = taken;
        backlog = λ j. numbered_set 0 (λ x. x) s.backlogs k (backlog_of s.backlogs k + u) j some within ∙ same j;
        rest = refl;
      }
    where
      same : (j : ℕ) → cond (eqb j k) (backlog_of s.backlogs k + u) (backlog_of s.backlogs j) ≡ cond (eqb j k) (backlog_of s.backlogs j + u) (backlog_of s.backlogs j)
      same j = elim (cases_eq j k) [
        | inl e ↦ ap (λ i. cond (eqb j k) (backlog_of s.backlogs i + u) (backlog_of s.backlogs j)) (sym e)
        | inr ne ↦
            cond-false (eqb j k) (backlog_of s.backlogs k + u) (backlog_of s.backlogs j) (ne_eqb j k ne)
            ∙ sym (cond-false (eqb j k) (backlog_of s.backlogs j + u) (backlog_of s.backlogs j) (ne_eqb j k ne))
      ]

  pub ended_left : (i j : ℕ) → 1 ≤ i → i ≤ length s.jobs → left_of (set s.jobs (i - 1) no_job) j ≡ cond (eqb j i) 0 (left_of s.jobs j)
  ended_left i j some within = numbered_set no_job (λ x. x.left) s.jobs i no_job j some within

  pub ended_age : (i j : ℕ) → 1 ≤ i → i ≤ length s.jobs → age_of (set s.jobs (i - 1) no_job) j ≡ cond (eqb j i) 0 (age_of s.jobs j)
  ended_age i j some within = numbered_set no_job (λ x. x.age) s.jobs i no_job j some within

  pub let_go_step : (a : ℕ → ℕ → ℕ) (i : ℕ) → holder s ≡ i → LetGone (view_of a b s) i (view_of a b (let_go s))
  let_go_step a i holding = record { holds = holding; rest = refl }

  -- what is told of a hold is 0 where the job of its task is ended
  told_ended : (f : Option Hold → ℕ) → f None ≡ 0 → (i : ℕ) (o : Option Hold) → f (cond (holds o i) None o) ≡ cond (eqb (holder_in o) i) 0 (f o)
  told_ended f none i None = none ∙ sym (either (eqb 0 i))
    where
      either : (b : Bool) → cond b 0 (f None) ≡ 0
      either true = refl
      either false = none
  told_ended f none i (Some h) = go (eqb h.task i)
    where
      go : (b : Bool) → f (cond b None (Some h)) ≡ cond b 0 (f (Some h))
      go true = none
      go false = refl

  pub ended_step : (a : ℕ → ℕ → ℕ) (i : ℕ) → 1 ≤ i → i ≤ length s.jobs → 1 ≤ left_of s.jobs i → Ended (view_of a b s) i (view_of a b (ended s i))
  ended_step a i some within pending =
      record {
        pending = pending;
        left = λ j. ended_left i j some within;
        age = λ j. ended_age i j some within;
        holder = told_ended (λ o. holder_in o) refl i s.hold;
        held = told_ended (λ o. held_in o) refl i s.hold;
        rest = refl;
      }

-- a hold and a release, of a run of a plan with that many tasks and these longest holds
module _ {S : Type 0} (work : S → Work) (plan : Plan S) (bounds : List ℕ) (r : Now S) (many : length r.tasks ≡ length plan.tasks) (holds_are : (i : ℕ) → hold_of r.tasks i ≡ hold_of plan.tasks i) where
  last_is : (i : ℕ) → i ≤ length r.tasks → i ≤ length (rows_of plan.tasks)
  last_is i h = omega (arith, length-map plan.tasks (λ t. t.row))

  pub granted_step : (a b : ℕ → ℕ → ℕ) (i u : ℕ) → length r.tasks ≤ length r.state.jobs → Holdable r i u → Granted (model_of work plan bounds) (view_of a b r.state) i u (view_of a b (granted r.state i u))
  granted_step a b i u places task =
      record {
        first = task.first;
        last = last_is i task.last;
        nobody = ap (λ o. holder_in o) task.nobody;
        some = task.some;
        short = omega (arith, task.short, holds_are i);
        within = task.within;
        highest = (pending_found r.state.jobs (length r.tasks) i places task.highest).before;
        rest = refl;
      }

  pub released_step : (a b b' : ℕ → ℕ → ℕ) (i u : ℕ) → Releasable r i u → i ≤ length r.state.jobs → Taken b i u b' → Released (model_of work plan bounds) (view_of a b r.state) i u (view_of a b' (released r.state i u))
  released_step a b b' i u task within taken =
      let job : Job = record { left = u; age = 0 } in
      record {
        first = task.first;
        last = last_is i task.last;
        some = task.some;
        none = task.none;
        taken = taken;
        left = λ j. numbered_set no_job (λ x. x.left) r.state.jobs i job j task.first within;
        age = λ j. numbered_set no_job (λ x. x.age) r.state.jobs i job j task.first within;
        rest = refl;
      }
