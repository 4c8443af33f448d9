-- What a run holds to after each of its calls, told by its fields.
use Rattle.std.proofs.Common.{◌≡◌, ℕ, ◌-◌, ◌≤◌, true, List, length, map, Option, Some, None, unwrap_or, refl, sym, ap, ◌∙◌, subst, arith}
use Rattle.source.specs.Facts.{Work, Moves, Taken, Ticked, offerable}
use Rattle.source.specs.Rows.{Gives, Passes}
use Rattle.source.proofs.Parts.{part_from, offerable_from}
use Rattle.paced.specs.Pace.{paced}
use Rattle.paced.specs.Tables.{FitRows, work_in, allowances_in}
use Rattle.plan.proofs.Sides.{rows_in, count_in}
use Rattle.plan.specs.Tasks.{rows_of, side_by_side}
use Rattle.plan.specs.declared.tasks.Limit.{Limit}
use Rattle.calls.specs.declared.Got.{Got}
use Rattle.run.specs.Faults.{offer_fault, release_fault, hold_fault, end_fault}
use Rattle.run.specs.Runs.{Now, Held, TickPassed, due_in, later_task, run_released, tasks_work, tasks_allowed}
use Rattle.run.specs.Steps.{grown, released, granted, let_go, ended, due, served, aged, passed, Placed}
use Rattle.run.specs.declared.state.State.{State}
use Rattle.run.proofs.Faults as faults
use Rattle.run.proofs.Held.{steady, held_on, held_few, sides_given, sides_later, rested_given, rested_later}
use Rattle.run.proofs.Steady.{grown_steady, released_steady, ended_steady, ended_lasting, passed_steady, settled_lasting, nothing, same_value}

module _ {S : Type 0} (work : S → Work) (bank : S) (table : FitRows 16) (limits : List Limit) (room : length limits ≡ 16) (bounds : List ℕ) (parts : Option ℕ) (s : State) where
  -- the run with these fields, and the same with others that change
  abbrev pub now : S → FitRows 16 → State → Now S
  now bank table s = record { bank = bank; tasks = side_by_side table.list limits; bounds = bounds; parts = parts; state = s }

  abbrev r : Now S
  r = now bank table s

  rows_are : (t : FitRows 16) → rows_of (side_by_side t.list limits) ≡ t.list
  rows_are t = sym (rows_in t limits room (side_by_side t.list limits) refl)

  count : length table.list ≡ length r.tasks
  count = count_in table limits room r.tasks refl

  -- a release that has no fault is taken by the table
  pub release_taken : (i u : ℕ) → release_fault r i u ≡ None → offerable (length table.list) (allowances_in table.list) i u ≡ true
  release_taken i u none =
      let task = faults.releasable r i u none in
      offerable_from (length table.list) (allowances_in table.list) i u (part_from (length table.list) i task.first (omega (arith, task.last, count))) task.some (subst (λ rows. u ≤ allowances_in rows i 1) (rows_are table) task.allowed)

  -- the tasks after a release
  pub release_seen : (i u : ℕ) (table' : FitRows 16) → release_fault r i u ≡ None → Gives paced table.list i u table'.list → (t : State) → t ≡ released s i u → now bank table' t ≡ run_released r i u
  release_seen i u table' none gives t e =
      let task = faults.releasable r i u none in
      let tasks : side_by_side table'.list limits ≡ (run_released r i u).tasks = ap (λ rows. side_by_side rows limits) gives.moved ∙ sides_given table.list limits (i - 1) (omega (arith, task.first, task.last, count)) (omega (arith, table.few, room)) in
      λ k. record { bank = bank; tasks = tasks k; bounds = bounds; parts = parts; state = e k }

  pub release_facts : (i u : ℕ) (table' : FitRows 16) → Taken (allowances_in table.list) i u (allowances_in table'.list) → work_in table'.list ≡ work_in table.list → (x : Now S) → r ≡ x → Taken (tasks_allowed x) i u (tasks_allowed (now bank table' s)) × (tasks_work (now bank table' s) ≡ tasks_work x)
  release_facts i u table' taken kept x seen = (
    subst (λ y. Taken (tasks_allowed y) i u (tasks_allowed (now bank table' s))) seen
        (subst (λ rows. Taken (allowances_in rows) i u (tasks_allowed (now bank table' s))) (sym (rows_are table)) (subst (λ rows. Taken (allowances_in table.list) i u (allowances_in rows)) (sym (rows_are table')) taken)),
    ap work_in (rows_are table') ∙ kept ∙ sym (ap work_in (rows_are table)) ∙ ap tasks_work seen,
  )

  -- the tasks after a tick
  pub tick_seen : (bank' : S) (table' : FitRows 16) → Passes paced table.list table'.list → (t : State) → now bank' table' t ≡ record r { bank = bank'; tasks = map later_task r.tasks; state = t }
  tick_seen bank' table' passes t =
      let tasks : side_by_side table'.list limits ≡ map later_task r.tasks = ap (λ rows. side_by_side rows limits) passes ∙ sides_later table.list limits in
      λ k. record { bank = bank'; tasks = tasks k; bounds = bounds; parts = parts; state = t }

  pub tick_facts : (table' : FitRows 16) → Ticked (allowances_in table.list) (allowances_in table'.list) → work_in table'.list ≡ work_in table.list → (x : Now S) → r ≡ x → Ticked (tasks_allowed x) (tasks_allowed (now bank table' s)) × (tasks_work (now bank table' s) ≡ tasks_work x)
  tick_facts table' ticked kept x seen = (
    subst (λ y. Ticked (tasks_allowed y) (tasks_allowed (now bank table' s))) seen
        (subst (λ rows. Ticked (allowances_in rows) (tasks_allowed (now bank table' s))) (sym (rows_are table)) (subst (λ rows. Ticked (allowances_in table.list) (allowances_in rows)) (sym (rows_are table')) ticked)),
    ap work_in (rows_are table') ∙ kept ∙ sym (ap work_in (rows_are table)) ∙ ap tasks_work seen,
  )

  pub tick_passed : (moves : Moves S) (bank' : S) (table' : FitRows 16) (p n : ℕ) (got : Got) (x : Now S) → r ≡ x → moves.ticks bank bank' → Passes paced table.list table'.list → x.parts ≡ Some p → n ≡ length x.tasks → got ≡ due p n s → (t : State) → t ≡ passed s got → TickPassed moves x (now bank' table' t)
  tick_passed moves bank' table' p n got x seen ticks passes parts_are many who t e =
      let due_is : got ≡ due_in r = who ∙ (λ k. due (unwrap_or (sym parts_are k) 0) (many k) s) ∙ (λ k. due (unwrap_or (sym seen k).parts 0) (length (sym seen k).tasks) s) in
      let rest : now bank' table' t ≡ record r { bank = bank'; tasks = map later_task r.tasks; state = passed s (due_in r) } = tick_seen bank' table' passes t ∙ (λ k. record r { bank = bank'; tasks = map later_task r.tasks; state = (e ∙ ap (passed s) due_is) k }) in
      let here : TickPassed moves r (now bank' table' t) = record { bank = ticks; rest = rest } in
      subst (λ y. TickPassed moves y (now bank' table' t)) seen here

  module _ (held : Held work r) where
    few : unwrap_or parts 0 ≤ 16
    few = faults.parts_few parts (held_few work r held)

    -- with another state that is s'
    with_state : (bank' : S) (s' t : State) → t ≡ s' → Held work (now bank' table s') → Held work (now bank' table t)
    with_state bank' s' t e h = subst (λ x. Held work (now bank' table x)) (sym e) h

    pub after_offer : (allowed : S → ℕ → ℕ → ℕ) (bank' : S) (k u : ℕ) → work bank' ≡ work bank → offer_fault allowed r k u ≡ None → (t : State) → t ≡ grown s k u → Held work (now bank' table t)
    after_offer allowed bank' k u kept none t e =
        let offer = faults.offerable r allowed k u none in
        with_state bank' (grown s k u) t e (held_on work r held (now bank' table (grown s k u)) kept refl refl refl (grown_steady r.tasks s (steady work r held) k u offer.first (omega (arith, offer.last, few)) offer.room) held.lasting)

    pub after_release : (i u : ℕ) (table' : FitRows 16) → release_fault r i u ≡ None → Gives paced table.list i u table'.list → (t : State) → t ≡ released s i u → Held work (now bank table' t)
    after_release i u table' none gives t e =
        let task = faults.releasable r i u none in
        let seen = release_seen i u table' none gives t e in
        subst (Held work) (sym seen) (held_on work r held (run_released r i u) refl (rested_given r.tasks (i - 1)) refl refl (released_steady r.tasks s (steady work r held) held.lasting i u task.first task.none) held.lasting)

    pub after_hold : (i u : ℕ) → hold_fault r i u ≡ None → (t : State) → t ≡ granted s i u → Held work (now bank table t)
    after_hold i u none t e =
        let task = faults.holdable r i u none in
        let before = steady work r held in
        with_state bank (granted s i u) t e (held_on work r held (now bank table (granted s i u)) refl refl refl refl
        (record {
          backlogs = before.backlogs;
          jobs = before.jobs;
          waiting = before.waiting;
          known = λ h eq. (let same = same_value eq in subst (λ x. faults.WithinHere r x) same (faults.holdable_within r i u task));
        })
        (λ h eq. subst (λ x. 1 ≤ x.units) (same_value eq) task.some))

    pub after_let_go : (t : State) → t ≡ let_go s → Held work (now bank table t)
    after_let_go t e =
        let before = steady work r held in
        with_state bank (let_go s) t e (held_on work r held (now bank table (let_go s)) refl refl refl refl (record { backlogs = before.backlogs; jobs = before.jobs; waiting = before.waiting; known = λ h eq. nothing eq }) (λ h eq. nothing eq))

    pub after_end : (i : ℕ) → end_fault r i ≡ None → (t : State) → t ≡ ended s i → Held work (now bank table t)
    after_end i none t e =
        let task = faults.endable r i none in
        with_state bank (ended s i) t e (held_on work r held (now bank table (ended s i)) refl refl refl refl (ended_steady r.tasks s (steady work r held) i task.0) (ended_lasting r.tasks s (steady work r held) held.lasting i))

    pub after_tick : (bank' : S) (table' : FitRows 16) (got : Got) → work bank' ≡ work bank → Passes paced table.list table'.list → Placed got → (t : State) → t ≡ passed s got → Held work (now bank' table' t)
    after_tick bank' table' got kept passes placed t e =
        let r' : Now S = record r { bank = bank'; tasks = map later_task r.tasks; state = passed s got } in
        let seen : now bank' table' t ≡ r' = tick_seen bank' table' passes t ∙ (λ k. record r { bank = bank'; tasks = map later_task r.tasks; state = e k }) in
        subst (Held work) (sym seen) (held_on work r held r' kept (rested_later r.tasks) refl refl (passed_steady r.tasks s (steady work r held) got placed) (settled_lasting (aged (served s got))))
