-- A tick of a run is a tick of the model.
use Rattle.std.proofs.Common.{◌≡◌, ℕ, ◌+◌, ◌-◌, ◌<◌, ◌≤◌, min, Bool, true, false, cond, eqb, leb, ◌&&◌, List, map, length, get_or, ◌⊎◌, Option, Some, None, sym, refl, ap, ◌∙◌, inl, inr, arith, length-set}
use Rattle.std.specs.Option.{ForSome, option_or}
use Rattle.std.specs.Prelude.{option_map}
use Rattle.std.proofs.lemmas.Bool.{cond-true, cond-false, eq-eqb, ne_eqb, cases_eq}
use Rattle.std.proofs.Math.ListN.{get_or-map}
use Rattle.std.proofs.lemmas.List.{length-map}
use Rattle.source.specs.Facts.{Ticked}
use Rattle.source.specs.Facts.{Work}
use Rattle.calls.specs.declared.Got.{Got}
use Rattle.calls.specs.declared.Got.TheVariants.{Nobody, Part, Task}
use Rattle.calls.specs.Steps.{part_unit, task_unit, Due, AgeTold, Idle, Passed}
use Rattle.run.specs.States.{no_job, backlog_of, left_of, age_of, holder, held, holder_in, held_in, first_backlog, first_pending, First}
use Rattle.run.specs.Steps.{part_served, task_served, served, worked, used, older, aged, goes_on, going_on, settled, passed, due, due_first, due_task, foremost, told_age}
use Rattle.run.specs.declared.state.Hold.{Hold}
use Rattle.run.specs.declared.state.Job.{Job}
use Rattle.run.specs.declared.state.State.{State}
use Rattle.plan.specs.Plans.{Plan}
use Rattle.plan.specs.Tasks.{rows_of}
use Rattle.guarantee.specs.Views.{model_of, view_of}
use Rattle.run.proofs.Firsts.{backlog_found, backlogs_clear, pending_found, jobs_clear}
use Rattle.run.proofs.Steady.{after_use, after_tick, left_older}
use Rattle.run.proofs.Numbered.{numbered_set, numbered_some}

older_age : (j : Job) → (older j).age ≡ cond (leb 1 j.left) (min (j.age + 1) 4294967295) 0
older_age j = go (leb 1 j.left)
  where
    go : (b : Bool) → (let k : Job = cond b (record { left = j.left; age = min (j.age + 1) 4294967295 }) no_job in k.age) ≡ cond b (min (j.age + 1) 4294967295) 0
    go true = refl
    go false = refl

aged_age : (jobs : List Job) (i : ℕ) → age_of (map older jobs) i ≡ cond (leb 1 (left_of jobs i)) (min (age_of jobs i + 1) 4294967295) 0
aged_age jobs i = ap (λ x. cond (leb 1 i) x 0) (ap (λ j. j.age) (get_or-map older jobs (i - 1) no_job) ∙ older_age (get_or jobs (i - 1) no_job)) ∙ go (leb 1 i)
  where
    go : (b : Bool) → cond b (cond (leb 1 (get_or jobs (i - 1) no_job).left) (min ((get_or jobs (i - 1) no_job).age + 1) 4294967295) 0) 0 ≡ cond (leb 1 (cond b (get_or jobs (i - 1) no_job).left 0)) (min (cond b (get_or jobs (i - 1) no_job).age 0 + 1) 4294967295) 0
    go true = refl
    go false = refl

-- what is told of a hold is 0 where it does not go on
told_settled : (f : Option Hold → ℕ) → f None ≡ 0 → (jobs : List Job) (o : Option Hold) → f (going_on jobs o) ≡ cond (leb 1 (held_in o) && leb 1 (left_of jobs (holder_in o))) (f o) 0
told_settled f none jobs None = none
told_settled f none jobs (Some h) = go (goes_on jobs h)
  where
    go : (b : Bool) → f (cond b (Some h) None) ≡ cond b (f (Some h)) 0
    go true = refl
    go false = none

settled_holder : (s : State) → holder (settled s) ≡ cond (leb 1 (held s) && leb 1 (left_of s.jobs (holder s))) (holder s) 0
settled_holder s = told_settled (λ o. holder_in o) refl s.jobs s.hold

settled_held : (s : State) → held (settled s) ≡ cond (leb 1 (held s) && leb 1 (left_of s.jobs (holder s))) (held s) 0
settled_held s = told_settled (λ o. held_in o) refl s.jobs s.hold

-- s1 is s after the unit of a tick was given
record Gave (s s1 : State) (got : Got) : Type 0 where
  backlog : (k : ℕ) → backlog_of s1.backlogs k ≡ backlog_of s.backlogs k - part_unit got k
  left : (i : ℕ) → left_of s1.jobs i ≡ left_of s.jobs i - task_unit got i
  age : (i : ℕ) → age_of s1.jobs i ≡ age_of s.jobs i
  same_holder : holder s1 ≡ holder s
  units : held s1 ≡ held s - task_unit got (holder s)

-- one less at one number
less_at : (f : ℕ → ℕ) (k j : ℕ) → cond (eqb j k) (f k - 1) (f j) ≡ f j - cond (eqb j k) 1 0
less_at f k j = elim (cases_eq j k) [
  | inl e ↦
      cond-true (eqb j k) (f k - 1) (f j) (eq-eqb j k e)
      ∙ ap (λ i. f i - 1) (sym e)
      ∙ ap (λ x. f j - x) (sym (cond-true (eqb j k) 1 0 (eq-eqb j k e)))
  | inr ne ↦
      cond-false (eqb j k) (f k - 1) (f j) (ne_eqb j k ne)
      ∙ omega arith
      ∙ ap (λ x. f j - x) (sym (cond-false (eqb j k) 1 0 (ne_eqb j k ne)))
]

gave_nobody : (s : State) → Gave s s Nobody
gave_nobody s = record { backlog = λ k. omega arith; left = λ i. omega arith; age = λ i. refl; same_holder = refl; units = omega arith }

gave_part : (s : State) (k : ℕ) → 1 ≤ k → k ≤ length s.backlogs → Gave s (part_served s k) (Part k)
gave_part s k some within =
    record {
      backlog = λ j. numbered_set 0 (λ x. x) s.backlogs k (backlog_of s.backlogs k - 1) j some within ∙ less_at (backlog_of s.backlogs) k j;
      left = λ i. omega arith;
      age = λ i. refl;
      same_holder = refl;
      units = omega arith;
    }

gave_task : (s : State) (i : ℕ) (a : Option ℕ) → 1 ≤ i → i ≤ length s.jobs → Gave s (task_served s i) (Task i a)
gave_task s i a some within =
    let job = get_or s.jobs (i - 1) no_job in
    record {
      backlog = λ k. omega arith;
      left = λ j. numbered_set no_job (λ x. x.left) s.jobs i (worked job) j some within
          ∙ ap (λ x. cond (eqb j i) (x - 1) (left_of s.jobs j)) (sym (numbered_some no_job (λ x. x.left) s.jobs i some))
          ∙ less_at (left_of s.jobs) i j;
      age = λ j. numbered_set no_job (λ x. x.age) s.jobs i (worked job) j some within ∙ same_age j;
      same_holder = by_same s.hold;
      units = less s.hold;
    }
  where
    same_age : (j : ℕ) → cond (eqb j i) (get_or s.jobs (i - 1) no_job).age (age_of s.jobs j) ≡ age_of s.jobs j
    same_age j = elim (cases_eq j i) [
      | inl e ↦
          cond-true (eqb j i) (get_or s.jobs (i - 1) no_job).age (age_of s.jobs j) (eq-eqb j i e)
          ∙ sym (numbered_some no_job (λ x. x.age) s.jobs i some)
          ∙ ap (age_of s.jobs) (sym e)
      | inr ne ↦ cond-false (eqb j i) (get_or s.jobs (i - 1) no_job).age (age_of s.jobs j) (ne_eqb j i ne)
    ]

    by_same : (o : Option Hold) → holder_in (option_map (used i) o) ≡ holder_in o
    by_same None = refl
    by_same (Some h) = refl

    less : (o : Option Hold) → held_in (option_map (used i) o) ≡ held_in o - cond (eqb (holder_in o) i) 1 0
    less None = omega arith
    less (Some h) = less_at (λ _. h.units) i h.task

-- a tick of the run, once it is known who is due
module _ {S : Type 0} (work : S → Work) (plan : Plan S) (bounds : List ℕ) (a a' b b' : ℕ → ℕ → ℕ) (s s1 : State) (got : Got) where
  passed_from : Gave s s1 got → Due (model_of work plan bounds) (view_of a b s) got → AgeTold (model_of work plan bounds) (view_of a b s) got → Ticked a a' → Ticked b b' → Passed (model_of work plan bounds) (view_of a b s) got (view_of a' b' (settled (aged s1)))
  passed_from gave who told bank tasks =
      let s2 = aged s1 in
      let left : (i : ℕ) → left_of s2.jobs i ≡ left_of s1.jobs i = λ i. left_older s1.jobs i in
      let goes : (leb 1 (held s1) && leb 1 (left_of s2.jobs (holder s1))) ≡ (leb 1 (held s - task_unit got (holder s)) && leb 1 (left_of s2.jobs (holder s))) =
      ap (λ x. leb 1 x && leb 1 (left_of s2.jobs (holder s1))) gave.units
      ∙ ap (λ x. leb 1 (held s - task_unit got (holder s)) && leb 1 (left_of s2.jobs x)) gave.same_holder
      in
      record {
        due = who;
        told = told;
        backlog = gave.backlog;
        left = λ i. left i ∙ gave.left i;
        age = λ i. aged_age s1.jobs i ∙ ap (λ x. cond (leb 1 x) (min (age_of s1.jobs i + 1) 4294967295) 0) (sym (left i)) ∙ ap (λ x. cond (leb 1 (left_of s2.jobs i)) (min (x + 1) 4294967295) 0) (gave.age i);
        holder = settled_holder s2 ∙ ap (λ b. cond b (holder s1) 0) goes ∙ ap (λ x. cond (leb 1 (held s - task_unit got (holder s)) && leb 1 (left_of s2.jobs (holder s))) x 0) gave.same_holder;
        held = settled_held s2 ∙ ap (λ b. cond b (held s1) 0) goes ∙ ap (λ x. cond (leb 1 (held s - task_unit got (holder s)) && leb 1 (left_of s2.jobs (holder s))) x 0) gave.units;
        bank = bank;
        tasks = tasks;
      }

-- a hold is of one of m tasks
abbrev pub Whose : ℕ → State → Type 0
Whose m s = ForSome s.hold (λ h. (1 ≤ h.task) × (h.task ≤ m))

-- and it is who the run's rule says
module _ {S : Type 0} (work : S → Work) (plan : Plan S) (bounds : List ℕ) (a a' b b' : ℕ → ℕ → ℕ) (s : State)
    (parts : (work plan.bank).parts ≤ length s.backlogs) (tasks : length (rows_of plan.tasks) ≤ length s.jobs) (whose : Whose (length (rows_of plan.tasks)) s)
    (bank : Ticked a a') (paced : Ticked b b') where
  abbrev n : ℕ
  n = (work plan.bank).parts

  abbrev m : ℕ
  m = length (rows_of plan.tasks)

  abbrev Ticks : Got → Type 0
  Ticks got = Passed (model_of work plan bounds) (view_of a b s) got (view_of a' b' (passed s got))

  ticks_part : (k : ℕ) → First (backlog_of s.backlogs) n k → Ticks (Part k)
  ticks_part k f = passed_from work plan bounds a a' b b' s (part_served s k) (Part k) (gave_part s k f.some (omega (arith, f.within))) (f.some, f.within, f.there, f.before) tt bank paced

  ticks_task : Idle (model_of work plan bounds) (view_of a b s) → (i : ℕ) → 1 ≤ i → i ≤ m → (holder s ≡ i) ⊎ ((holder s ≡ 0) × (i ≤ m) × (1 ≤ left_of s.jobs i) × ((j : ℕ) → 1 ≤ j → j < i → left_of s.jobs j ≡ 0)) → Ticks (Task i (told_age s.jobs i))
  ticks_task idle i some within why = passed_from work plan bounds a a' b b' s (task_served s i) (Task i (told_age s.jobs i)) (gave_task s i (told_age s.jobs i) some (omega arith)) (idle, some, why) refl bank paced

  ticks_nobody : Idle (model_of work plan bounds) (view_of a b s) → holder s ≡ 0 → ((i : ℕ) → 1 ≤ i → i ≤ m → left_of s.jobs i ≡ 0) → Ticks Nobody
  ticks_nobody idle none no-job = passed_from work plan bounds a a' b b' s s Nobody (gave_nobody s) (idle, none, no-job) tt bank paced

  -- no part has backlog
  ticks_foremost : first_backlog s.backlogs n ≡ None → Ticks (due_task s.jobs (foremost m s))
  ticks_foremost clear = by_hold s.hold refl
    where
      idle : Idle (model_of work plan bounds) (view_of a b s)
      idle = backlogs_clear s.backlogs n parts clear

      by_pending : holder s ≡ 0 → (o : Option ℕ) → first_pending s.jobs m ≡ o → Ticks (due_task s.jobs o)
      by_pending none (Some i) e = let f = pending_found s.jobs m i tasks e in ticks_task idle i f.some f.within (inr (none, f.within, f.there, f.before))
      by_pending none None e = ticks_nobody idle none (jobs_clear s.jobs m tasks e)

      by_hold : (o : Option Hold) → s.hold ≡ o → Ticks (due_task s.jobs (option_or (option_map (λ h. h.task) o) (first_pending s.jobs m)))
      by_hold (Some h) e = let there = whose h e in ticks_task idle h.task there.0 there.1 (inl (ap (λ o. holder_in o) e))
      by_hold None e = by_pending (ap (λ o. holder_in o) e) (first_pending s.jobs m) refl

  pub tick_step : Passed (model_of work plan bounds) (view_of a b s) (due n m s) (view_of a' b' (passed s (due n m s)))
  tick_step = by_part (first_backlog s.backlogs n) refl
    where
      by_part : (o : Option ℕ) → first_backlog s.backlogs n ≡ o → Ticks (due_first o (due_task s.jobs (foremost m s)))
      by_part (Some k) e = ticks_part k (backlog_found s.backlogs n k parts e)
      by_part None e = ticks_foremost e

-- places and the hold, after a tick
served_backlogs : (s : State) (got : Got) → length (served s got).backlogs ≡ length s.backlogs
served_backlogs s Nobody = refl
served_backlogs s (Part k) = length-set s.backlogs (k - 1) (backlog_of s.backlogs k - 1)
served_backlogs s (Task i a) = refl

served_jobs : (s : State) (got : Got) → length (served s got).jobs ≡ length s.jobs
served_jobs s Nobody = refl
served_jobs s (Part k) = refl
served_jobs s (Task i a) = length-set s.jobs (i - 1) (worked (get_or s.jobs (i - 1) no_job))

served_whose : (s : State) (got : Got) (m : ℕ) → Whose m s → Whose m (served s got)
served_whose s Nobody m w = w
served_whose s (Part k) m w = w
served_whose s (Task i a) m w = after_use (λ h. (1 ≤ h.task) × (h.task ≤ m)) i s.hold w

pub passed_backlogs : (s : State) (got : Got) → length (passed s got).backlogs ≡ length s.backlogs
passed_backlogs s got = served_backlogs s got

pub passed_jobs : (s : State) (got : Got) → length (passed s got).jobs ≡ length s.jobs
passed_jobs s got = length-map (served s got).jobs older ∙ served_jobs s got

pub passed_whose : (s : State) (got : Got) (m : ℕ) → Whose m s → Whose m (passed s got)
passed_whose s got m w h e = served_whose s got m w h (after_tick (aged (served s got)).jobs (served s got).hold h e).0
