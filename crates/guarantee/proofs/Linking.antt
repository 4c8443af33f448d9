-- The calls of a run of an accepted plan lead, as the model has it, from its start to its end.
use Rattle.std.proofs.Common.{◌≡◌, ℕ, ◌+◌, ◌-◌, ◌<◌, ◌≤◌, cond, leb, List, [], ◌∷◌, length, map, get_or, Some, None, Option, MatchOption, unwrap_or, sym, refl, ap, ◌∙◌, subst, arith, length-set}
use Rattle.std.specs.Prelude.{is_some}
use Rattle.std.proofs.lemmas.List.{length-map}
use Rattle.refusal.specs.declared.Refusal.{Refusal}
use Rattle.refusal.specs.Refusals.{refusal_of, named_refusal}
use Rattle.refusal.specs.declared.Fault.{Fault}
use Rattle.refusal.specs.declared.Fault.TheVariants.{NotAccepted}
use Rattle.source.proofs.Gates.{list_sound}
use Rattle.source.specs.Facts.{Work, Moves, Sound, Driven}
use Rattle.paced.specs.Pace.{largest_cost, paced}
use Rattle.paced.specs.Rows.{paced_owes}
use Rattle.plan.specs.Plans.{Plan}
use Rattle.plan.specs.Tasks.{task_at, rows_of}
use Rattle.calls.specs.Events.{log_of}
use Rattle.calls.specs.States as model
use Rattle.calls.specs.Steps.{Step, Leads, Passed}
use Rattle.calls.specs.declared.Call.{Call}
use Rattle.calls.specs.declared.Call.TheVariants.{Offer, Release, Hold, LetGo, End, Tick}
use Rattle.calls.specs.declared.Answer.{Answer}
use Rattle.calls.specs.declared.Answer.TheVariants as answers
use Rattle.run.specs.Faults.{offer_fault, offer_refusal, release_fault, release_refusal, hold_fault, hold_refusal, let_go_fault, let_go_refusal, end_fault, end_refusal, tick_refusal}
use Rattle.run.specs.Runs.{Now, TickPassed, due_in, later_task, run_released, run_granted, run_let_go, run_ended, tasks_allowed}
use Rattle.run.specs.States.{no_job, backlog_of, hold_of}
use Rattle.run.specs.Steps.{grown, due, passed}
use Rattle.run.proofs.Faults.{offerable, releasable, holdable, holding, endable}
use Rattle.run.proofs.Held.{same_count, same_limit}
use Rattle.run.proofs.Steady.{nothing, same_value, after_end}
use Rattle.guarantee.specs.Playing.{Did, Played}
use Rattle.guarantee.specs.Views.{model_of, view_of, seen}
use Rattle.guarantee.proofs.Steps.{offered_step, released_step, granted_step, let_go_step, ended_step}
use Rattle.guarantee.proofs.Ticking.{tick_step, Whose, passed_backlogs, passed_jobs, passed_whose}
use Rattle.guarantee.proofs.Steady.{Steady, one_cost, steady_given, steady_later}

-- a fault that is not there makes no refusal
no_refusal : (o : Option Fault) (i : ℕ) → refusal_of o i ≡ None → o ≡ None
no_refusal None i e = refl
no_refusal (Some f) i e = nothing (sym e)

no_named : (o : Option Fault) (i : ℕ) → named_refusal o i ≡ None → o ≡ None
no_named None i e = refl
no_named (Some f) i e = nothing (sym e)

module _ {S : Type 0} (work : S → Work) (allowed : S → ℕ → ℕ → ℕ) (moves : Moves S)
    (sound : (s : S) → Sound (work s) (allowed s)) (driven : Driven work allowed moves)
    (plan : Plan S) (bounds : List ℕ)
    (few_parts : (work plan.bank).parts ≤ 16) (few_tasks : length plan.tasks ≤ 16)
    (deadlines : (i : ℕ) → i < length plan.tasks → (task_at plan.tasks i).limit.deadline + (task_at plan.tasks i).row.jitter ≤ (task_at plan.tasks i).row.period)
    (bounded : (i : ℕ) → i < length plan.tasks → get_or bounds i 0 ≤ (task_at plan.tasks i).limit.deadline) where
  -- what every state of the run keeps to: the bank's work, the number of its parts, the tasks, places for all, and of whom a hold is
  pub record In (r : Now S) : Type 0 where
    pub bank : work r.bank ≡ work plan.bank
    pub parts : r.parts ≡ Some (work plan.bank).parts
    pub tasks : Steady plan.tasks r.tasks
    pub backlogs : length r.state.backlogs ≡ 16
    pub jobs : length r.state.jobs ≡ 16
    pub whose : Whose (length (rows_of plan.tasks)) r.state

  abbrev p : model.Plan
  p = model_of work plan bounds

  many : (r : Now S) → In r → length r.tasks ≡ length plan.tasks
  many r h = same_count plan.tasks r.tasks h.tasks.alike

  rows_many : length (rows_of plan.tasks) ≡ length plan.tasks
  rows_many = length-map plan.tasks (λ t. t.row)

  pub fits : (r : Now S) → In r → model.Fits p (seen allowed r)
  fits r h =
      record {
        bank = subst (λ w. Sound w (allowed r.bank)) h.bank (sound r.bank);
        tasks = subst (λ w. Sound w (tasks_allowed r)) h.tasks.work (list_sound paced paced_owes (rows_of r.tasks) (omega (arith, few_tasks, many r h, length-map r.tasks (λ t. t.row))) h.tasks.fit);
        one = λ i l a b c. one i l a b c;
      }
    where
      one : (i l : ℕ) → 1 ≤ i → i ≤ length (rows_of plan.tasks) → l ≤ get_or bounds (i - 1) 0 → tasks_allowed r i l ≤ largest_cost (task_at plan.tasks (i - 1)).row
      one i l a b c =
          let place : i - 1 < length plan.tasks = omega (arith, rows_many) in
          one_cost plan.tasks r.tasks h.tasks i l (omega (arith, place, many r h)) (omega (arith, deadlines (i - 1) place, bounded (i - 1) place))

  -- a call with its answer is a step of the model, and what is kept stays kept
  abbrev Stepped : Call → Answer → Now S → Now S → Type 0
  Stepped c a r r' = Step p (seen allowed r) c a (seen allowed r') × In r'

  -- the same with the answer and the run by other names
  as_told : (c : Call) (r r' r'' : Now S) (a b : Answer) → a ≡ b → r' ≡ r'' → Stepped c b r r'' → Stepped c a r r'
  as_told c r r' r'' a b told same h = subst (λ x. Stepped c a r x) (sym same) (subst (λ y. Stepped c y r r'') (sym told) h)

  -- a call by its refusal: what is refused changes nothing
  by_answer : (c : Call) (r r' : Now S) (a : Answer) (o : Option Refusal) {P : Type 0} → MatchOption o P (λ e. (a ≡ answers.Refused e) × (r' ≡ r)) → ((e : Refusal) → Step p (seen allowed r) c (answers.Refused e) (seen allowed r)) → In r → (o ≡ None → P → Stepped c a r r') → Stepped c a r r'
  by_answer c r r' a None x stays h done = done refl x
  by_answer c r r' a (Some e) x stays h done = as_told c r r' r a (answers.Refused e) x.0 x.1 (stays e, h)

  -- the longest holds are those of the plan
  holds_are : (r : Now S) → In r → (i : ℕ) → hold_of r.tasks i ≡ hold_of plan.tasks i
  holds_are r h i = ap (λ l. cond (leb 1 i) l.hold 0) (same_limit plan.tasks r.tasks h.tasks.alike (i - 1))

  step_offer : (r r' : Now S) (k u : ℕ) (a : Answer) → In r → Did allowed moves (Offer k u) a r r' → Stepped (Offer k u) a r r'
  step_offer r r' k u a h did =
      by_answer (Offer k u) r r' a (offer_refusal allowed r k u) did (λ e. refl) h
      (λ none x. (let offer = offerable r allowed k u (no_refusal (offer_fault allowed r k u) 0 none) in
      let g = driven.taken r.bank r'.bank k u x.1.bank in
      let last : k ≤ length r.state.backlogs = omega (arith, offer.last, ap (λ o. unwrap_or o 0) h.parts, few_parts, h.backlogs) in
      as_told (Offer k u) r r' (record r { bank = r'.bank; state = grown r.state k u }) a answers.Done x.0 x.1.rest (
        offered_step (tasks_allowed r) r.state (allowed r.bank) (allowed r'.bank) k u offer.first last g.1,
        record {
          bank = g.0 ∙ h.bank;
          parts = h.parts;
          tasks = h.tasks;
          backlogs = length-set r.state.backlogs (k - 1) (backlog_of r.state.backlogs k + u) ∙ h.backlogs;
          jobs = h.jobs;
          whose = h.whose;
        },
      )))

  step_release : (r r' : Now S) (i u : ℕ) (a : Answer) → In r → Did allowed moves (Release i u) a r r' → Stepped (Release i u) a r r'
  step_release r r' i u a h did =
      by_answer (Release i u) r r' a (release_refusal r i u) did (λ e. refl) h
      (λ none x. (let task = releasable r i u (no_named (release_fault r i u) i none) in
      let y = steady_given plan.tasks r.tasks h.tasks i u task.first task.last task.some task.allowed in
      as_told (Release i u) r r' (run_released r i u) a answers.Done x.0 x.1 (
        released_step work plan bounds r (many r h) (holds_are r h) (allowed r.bank) (tasks_allowed r) (tasks_allowed (run_released r i u)) i u task (omega (arith, task.last, many r h, few_tasks, h.jobs)) y.1,
        record {
          bank = h.bank;
          parts = h.parts;
          tasks = y.0;
          backlogs = h.backlogs;
          jobs = length-set r.state.jobs (i - 1) (record { left = u; age = 0 }) ∙ h.jobs;
          whose = h.whose;
        },
      )))

  step_hold : (r r' : Now S) (i u : ℕ) (a : Answer) → In r → Did allowed moves (Hold i u) a r r' → Stepped (Hold i u) a r r'
  step_hold r r' i u a h did =
      by_answer (Hold i u) r r' a (hold_refusal r i u) did (λ e. refl) h
      (λ none x. (let task = holdable r i u (no_named (hold_fault r i u) i none) in
      as_told (Hold i u) r r' (run_granted r i u) a answers.Done x.0 x.1 (
        granted_step work plan bounds r (many r h) (holds_are r h) (allowed r.bank) (tasks_allowed r) i u (omega (arith, many r h, few_tasks, h.jobs)) task,
        record {
          bank = h.bank;
          parts = h.parts;
          tasks = h.tasks;
          backlogs = h.backlogs;
          jobs = h.jobs;
          whose = λ w e. subst (λ y. (1 ≤ y.task) × (y.task ≤ length (rows_of plan.tasks))) (same_value e) (task.first, omega (arith, task.last, many r h, rows_many));
        },
      )))

  step_let_go : (r r' : Now S) (i : ℕ) (a : Answer) → In r → Did allowed moves (LetGo i) a r r' → Stepped (LetGo i) a r r'
  step_let_go r r' i a h did =
      by_answer (LetGo i) r r' a (let_go_refusal r i) did (λ e. refl) h
      (λ none x. as_told (LetGo i) r r' (run_let_go r) a answers.Done x.0 x.1 (
        let_go_step (tasks_allowed r) r.state (allowed r.bank) i (holding r i (no_named (let_go_fault r i) i none)),
        record { bank = h.bank; parts = h.parts; tasks = h.tasks; backlogs = h.backlogs; jobs = h.jobs; whose = λ w e. nothing e },
      ))

  step_end : (r r' : Now S) (i : ℕ) (a : Answer) → In r → Did allowed moves (End i) a r r' → Stepped (End i) a r r'
  step_end r r' i a h did =
      by_answer (End i) r r' a (end_refusal r i) did (λ e. refl) h
      (λ none x. (let task = endable r i (no_named (end_fault r i) i none) in
      as_told (End i) r r' (run_ended r i) a answers.Done x.0 x.1 (
        ended_step (tasks_allowed r) r.state (allowed r.bank) i task.0 (omega (arith, task.1, many r h, few_tasks, h.jobs)) task.2,
        record {
          bank = h.bank;
          parts = h.parts;
          tasks = h.tasks;
          backlogs = h.backlogs;
          jobs = length-set r.state.jobs (i - 1) no_job ∙ h.jobs;
          whose = λ w e. h.whose w (after_end i r.state.hold w e).0;
        },
      )))

  step_tick : (r r' : Now S) (a : Answer) → In r → Did allowed moves Tick a r r' → Stepped Tick a r r'
  step_tick r r' a h did =
      let none : tick_refusal r ≡ None = ap (λ o. refusal_of (cond (is_some o) None (Some NotAccepted)) 0) h.parts in
      let x = subst (λ o. MatchOption o ((a ≡ answers.Ticked (due_in r)) × TickPassed moves r r') (λ e. (a ≡ answers.Refused e) × (r' ≡ r))) none did in
      let s = r.state in
      let g = driven.ticked r.bank r'.bank x.1.bank in
      let y = steady_later plan.tasks r.tasks h.tasks in
      let after : Now S = record r { bank = r'.bank; tasks = map later_task r.tasks; state = passed s (due_in r) } in
      let who : due_in r ≡ due (work plan.bank).parts (length (rows_of plan.tasks)) s = λ k. due (unwrap_or (h.parts k) 0) ((many r h ∙ sym rows_many) k) s in
      let step = tick_step work plan bounds (allowed r.bank) (allowed r'.bank) (tasks_allowed r) (tasks_allowed after) s (omega (arith, few_parts, h.backlogs)) (omega (arith, few_tasks, rows_many, h.jobs)) h.whose g.1 y.1 in
      as_told Tick r r' after a (answers.Ticked (due_in r)) x.0 x.1.rest (
        subst (λ got. Passed p (seen allowed r) got (view_of (allowed r'.bank) (tasks_allowed after) (passed s got))) (sym who) step,
        record {
          bank = g.0 ∙ h.bank;
          parts = h.parts;
          tasks = y.0;
          backlogs = passed_backlogs s (due_in r) ∙ h.backlogs;
          jobs = passed_jobs s (due_in r) ∙ h.jobs;
          whose = passed_whose s (due_in r) (length (rows_of plan.tasks)) h.whose;
        },
      )

  step : (r r' : Now S) (c : Call) (a : Answer) → In r → Did allowed moves c a r r' → Stepped c a r r'
  step r r' (Offer k u) a h did = step_offer r r' k u a h did
  step r r' (Release i u) a h did = step_release r r' i u a h did
  step r r' (Hold i u) a h did = step_hold r r' i u a h did
  step r r' (LetGo i) a h did = step_let_go r r' i a h did
  step r r' (End i) a h did = step_end r r' i a h did
  step r r' Tick a h did = step_tick r r' a h did

  -- one call after another
  pub leads : (calls : List Call) (as' : List Answer) (r r' : Now S) → In r → Played allowed moves calls as' r r' → Leads p (seen allowed r) (log_of calls as') (seen allowed r')
  leads [] as' r r' h played = ap (seen allowed) played
  leads (c ∷ calls) [] r r' h played = ap (seen allowed) played
  leads (c ∷ calls) (a ∷ as') r r' h (mid, did, more) =
      let one = step r mid c a h did in
      (seen allowed mid, one.0, fits mid one.1, leads calls as' mid r' one.1 more)
