-- What the answer to a tick tells of the run.
use Rattle.std.proofs.Common.{◌≡◌, ℕ, ◌+◌, ◌<◌, ◌≤◌, ◌⊎◌, min, leb, List, length, Option, Some, None, refl, sym, ap, ◌∙◌, subst, inl, inr, arith}
use Rattle.std.specs.Option.{option_or}
use Rattle.std.specs.Prelude.{option_map, unwrap_or}
use Rattle.std.proofs.lemmas.Bool.{cond-true, cond-false, le-leb, lt-leb}
use Rattle.source.specs.Facts.{Work}
use Rattle.calls.specs.Told.{age_or_0, told}
use Rattle.run.specs.Runs.{Now, Held, due_in}
use Rattle.run.specs.States.{age_of, first_backlog, first_pending, holder, holder_in, left_of, First}
use Rattle.run.specs.Steps.{due, due_first, due_task, foremost, told_age}
use Rattle.run.specs.Told.{NoBacklog, TickTold}
use Rattle.run.specs.declared.state.Hold.{Hold}
use Rattle.run.specs.declared.state.Job.{Job}
use Rattle.run.proofs.Firsts.{backlog_found, backlogs_clear, pending_found, jobs_clear}
use Rattle.run.proofs.Held.{held_few}
use Rattle.run.proofs.Rules.{parts_are, tasks_few}
use Rattle.run.proofs.Steady.{nothing}

-- the age that is told of a task
last_age : (jobs : List Job) (i : ℕ) → left_of jobs i ≡ 1 → age_or_0 (told_age jobs i) ≡ min (age_of jobs i + 1) 4294967295
last_age jobs i e = ap age_or_0 (cond-true (leb (left_of jobs i) 1) (Some (min (age_of jobs i + 1) 4294967295)) None (le-leb (left_of jobs i) 1 (omega arith)))

no_age : (jobs : List Job) (i : ℕ) → 1 < left_of jobs i → age_or_0 (told_age jobs i) ≡ 0
no_age jobs i more = ap age_or_0 (cond-false (leb (left_of jobs i) 1) (Some (min (age_of jobs i + 1) 4294967295)) None (lt-leb (left_of jobs i) 1 more))

module _ {S : Type 0} (work : S → Work) (r : Now S) (held : Held work r) where
  abbrev n : ℕ
  n = (work r.bank).parts

  abbrev m : ℕ
  m = length r.tasks

  -- a run that ticks has as many parts as its bank
  same_parts : (p : ℕ) → r.parts ≡ Some p → r.parts ≡ Some n
  same_parts p e = elim (parts_are work r held) [ inl none ↦ nothing (sym none ∙ e) | inr some ↦ some ]

  module _ (parts : n ≤ length r.state.backlogs) (tasks : m ≤ length r.state.jobs) where
    task_told : NoBacklog work r → (i : ℕ) → 1 ≤ i → i ≤ m → (holder r.state ≡ i) ⊎ ((holder r.state ≡ 0) × First (left_of r.state.jobs) m i) → 1 ≤ left_of r.state.jobs i → TickTold work r (record { who = 2; number = i; age = age_or_0 (told_age r.state.jobs i) })
    task_told idle i some within why pending =
        inr (inl (record { who = refl; idle = idle; task = (some, within); foremost = why; pending = pending; last = last_age r.state.jobs i; more = no_age r.state.jobs i }))

    idle_told : NoBacklog work r → TickTold work r (told (due_task r.state.jobs (foremost m r.state)))
    idle_told idle = by_hold r.state.hold refl
      where
        by_pending : holder r.state ≡ 0 → (o : Option ℕ) → first_pending r.state.jobs m ≡ o → TickTold work r (told (due_task r.state.jobs o))
        by_pending free (Some i) e = let f = pending_found r.state.jobs m i tasks e in task_told idle i f.some f.within (inr (free, f)) f.there
        by_pending free None e = inr (inr (record { told = refl; idle = idle; nobody = free; none = jobs_clear r.state.jobs m tasks e }))

        by_hold : (o : Option Hold) → r.state.hold ≡ o → TickTold work r (told (due_task r.state.jobs (option_or (option_map (λ h. h.task) o) (first_pending r.state.jobs m))))
        by_hold (Some h) e =
            let within = held.known h e in
            task_told idle h.task within.first within.last (inl (ap (λ o. holder_in o) e)) (omega (arith, within.left, held.lasting h e))
        by_hold None e = by_pending (ap (λ o. holder_in o) e) (first_pending r.state.jobs m) refl

    due_told : TickTold work r (told (due n m r.state))
    due_told = by_part (first_backlog r.state.backlogs n) refl
      where
        by_part : (o : Option ℕ) → first_backlog r.state.backlogs n ≡ o → TickTold work r (told (due_first o (due_task r.state.jobs (foremost m r.state))))
        by_part (Some k) e = inl (record { who = refl; lowest = backlog_found r.state.backlogs n k parts e; age = refl })
        by_part None e = idle_told (backlogs_clear r.state.backlogs n parts e)

  pub tick_told : (p : ℕ) → r.parts ≡ Some p → TickTold work r (told (due_in r))
  tick_told p e =
      let same = same_parts p e in
      let few : n ≤ 16 = held_few work r held n same in
      subst (λ o. TickTold work r (told (due (unwrap_or o 0) m r.state))) (sym same) (due_told (omega (arith, few, held.backlogs)) (omega (arith, tasks_few work r held, held.jobs)))
