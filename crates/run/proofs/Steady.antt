-- What every state of a run keeps, call by call.
use Rattle.std.proofs.Common.{◌≡◌, ℕ, ◌+◌, ◌-◌, ◌≤◌, min, Bool, true, false, cond, eqb, leb, List, map, length, get_or, set, ◌≢◌, Option, Some, None, ◌⊎◌, inl, inr, refl, sym, ap, ◌∙◌, subst, arith, length-set}
use Rattle.std.specs.List.{sum}
use Rattle.std.specs.Option.{ForSome}
use Rattle.std.specs.Prelude.{is_some, option_map, unwrap_or}
use Rattle.std.proofs.Math.ListN.{get_or-map}
use Rattle.std.proofs.lemmas.Bool.{cond_both, leb-true, leb-false, eqb-true, and_parts, cases_eq, eq-eqb, ne_eqb}
use Rattle.std.proofs.lemmas.List.{length-map}
use Rattle.std.proofs.lemmas.List.Sums.{sum_by-set}
use Rattle.calls.specs.declared.Got.{Got}
use Rattle.calls.specs.declared.Got.TheVariants.{Nobody, Part, Task}
use Rattle.plan.specs.Tasks.{Task as PlanTask}
use Rattle.run.specs.States.{no_job, backlog_of, left_of, holds, Within, Known, Lasting}
use Rattle.run.specs.Steps.{grown, released, ended, worked, used, part_served, task_served, served, older, aged, goes_on, going_on, settled, passed, Placed}
use Rattle.run.specs.declared.state.Hold.{Hold}
use Rattle.run.specs.declared.state.Job.{Job}
use Rattle.run.specs.declared.state.State.{State}
use Rattle.run.proofs.Numbered.{numbered_some, numbered_same, numbered_other}

-- with these tasks
pub record Steady (tasks : List PlanTask) (s : State) : Type 0 where
  pub backlogs : length s.backlogs ≡ 16
  pub jobs : length s.jobs ≡ 16
  pub waiting : sum s.backlogs ≤ 1000000
  pub known : Known tasks s

pub never : {B : Type 0} → false ≡ true → B
never e = let z : ◌≡◌ {A = ℕ} 0 1 = ap (λ b. cond b 1 0) e in absurd (omega (arith, z))

-- there is no value in None
pub nothing : {A B : Type 0} {x : A} → None ≡ Some x → B
nothing e = never (ap is_some e)

pub same_value : {A : Type 0} {x y : A} → Some x ≡ Some y → x ≡ y
same_value {x = x} e = ap (λ o. unwrap_or o x) e

-- what holds of each hold after a unit, after an end, and after a tick
pub after_use : (P : Hold → Type 0) (i : ℕ) (o : Option Hold) → ((h : Hold) → o ≡ Some h → P (used i h)) → ForSome (option_map (used i) o) P
after_use P i None each h e = nothing e
after_use P i (Some x) each h e = subst P (same_value e) (each x refl)

pub after_end : (i : ℕ) (o : Option Hold) (h : Hold) → cond (holds o i) None o ≡ Some h → (o ≡ Some h) × (h.task ≢ i)
after_end i None h e = nothing e
after_end i (Some x) h e = go (cases_eq x.task i)
  where
    go : (x.task ≡ i) ⊎ (x.task ≢ i) → (Some x ≡ Some h) × (h.task ≢ i)
    go (inl same) = nothing (subst (λ b. cond b None (Some x) ≡ Some h) (eq-eqb x.task i same) e)
    go (inr other) = let kept : Some x ≡ Some h = subst (λ b. cond b None (Some x) ≡ Some h) (ne_eqb x.task i other) e in (kept, subst (λ y. y.task ≢ i) (same_value kept) other)

pub after_tick : (jobs : List Job) (o : Option Hold) (h : Hold) → going_on jobs o ≡ Some h → (o ≡ Some h) × (1 ≤ h.units)
after_tick jobs None h e = nothing e
after_tick jobs (Some x) h e = go (goes_on jobs x) refl e
  where
    go : (b : Bool) → goes_on jobs x ≡ b → cond b (Some x) None ≡ Some h → (Some x ≡ Some h) × (1 ≤ h.units)
    go true goes kept = (kept, subst (λ y. 1 ≤ y.units) (same_value kept) (leb-true 1 x.units (and_parts (leb 1 x.units) (leb 1 (left_of jobs x.task)) goes).0))
    go false goes kept = nothing kept

older_left : (j : Job) → (older j).left ≡ j.left
older_left j = cond_both (leb 1 j.left) (record { left = j.left; age = min (j.age + 1) 4294967295 }) no_job (λ k. k.left ≡ j.left) (λ e. refl) (λ e. let none = leb-false 1 j.left e in omega arith)

-- growing older takes no units
pub left_older : (jobs : List Job) (i : ℕ) → left_of (map older jobs) i ≡ left_of jobs i
left_older jobs i = ap (λ x. cond (leb 1 i) x 0) (ap (λ x. x.left) (get_or-map older jobs (i - 1) no_job) ∙ older_left (get_or jobs (i - 1) no_job))

module _ (tasks : List PlanTask) (s : State) (steady : Steady tasks s) where
  -- the job of a task that does not hold is written
  written : (i : ℕ) (v : Job) → 1 ≤ i → (h : Hold) → s.hold ≡ Some h → h.task ≢ i → Within tasks (set s.jobs (i - 1) v) h
  written i v low h e other =
      let within = steady.known h e in
      record { first = within.first; last = within.last; left = omega (arith, within.left, numbered_other no_job (λ x. x.left) s.jobs i v h.task low other); short = within.short }

  pub grown_steady : (k u : ℕ) → 1 ≤ k → k ≤ 16 → sum s.backlogs + u ≤ 1000000 → Steady tasks (grown s k u)
  grown_steady k u low high room =
      let b = s.backlogs in
      let y = backlog_of b k + u in
      let there : backlog_of b k ≡ get_or b (k - 1) 0 = numbered_some 0 (λ x. x) b k low in
      let grows : sum (set b (k - 1) y) + get_or b (k - 1) 0 ≡ sum b + y = sum_by-set (λ x. x) b (k - 1) y 0 (omega (arith, steady.backlogs)) in
      record { backlogs = length-set b (k - 1) y ∙ steady.backlogs; jobs = steady.jobs; waiting = omega arith; known = steady.known }

  -- a task that has no job does not hold
  pub released_steady : Lasting s → (i u : ℕ) → 1 ≤ i → left_of s.jobs i ≡ 0 → Steady tasks (released s i u)
  released_steady lasting i u low none =
      let job : Job = record { left = u; age = 0 } in
      record { backlogs = steady.backlogs; jobs = length-set s.jobs (i - 1) job ∙ steady.jobs; waiting = steady.waiting; known = λ h e. written i job low h e (λ same. omega (arith, lasting h e, (steady.known h e).left, ap (left_of s.jobs) same)) }

  pub ended_steady : (i : ℕ) → 1 ≤ i → Steady tasks (ended s i)
  ended_steady i low =
      record { backlogs = steady.backlogs; jobs = length-set s.jobs (i - 1) no_job ∙ steady.jobs; waiting = steady.waiting; known = λ h e. (let kept = after_end i s.hold h e in written i no_job low h kept.0 kept.1) }

  pub ended_lasting : Lasting s → (i : ℕ) → Lasting (ended s i)
  ended_lasting lasting i h e = lasting h (after_end i s.hold h e).0

  part_served_steady : (k : ℕ) → 1 ≤ k → k ≤ 16 → Steady tasks (part_served s k)
  part_served_steady k low high =
      let b = s.backlogs in
      let y = backlog_of b k - 1 in
      let there : backlog_of b k ≡ get_or b (k - 1) 0 = numbered_some 0 (λ x. x) b k low in
      let grows : sum (set b (k - 1) y) + get_or b (k - 1) 0 ≡ sum b + y = sum_by-set (λ x. x) b (k - 1) y 0 (omega (arith, steady.backlogs)) in
      record { backlogs = length-set b (k - 1) y ∙ steady.backlogs; jobs = steady.jobs; waiting = omega (arith, steady.waiting); known = steady.known }

  task_served_steady : (i : ℕ) → 1 ≤ i → i ≤ 16 → Steady tasks (task_served s i)
  task_served_steady i low high = record { backlogs = steady.backlogs; jobs = length-set s.jobs (i - 1) v ∙ steady.jobs; waiting = steady.waiting; known = after_use (Within tasks jobs') i s.hold one_less }
    where
      v : Job
      v = worked (get_or s.jobs (i - 1) no_job)

      jobs' : List Job
      jobs' = set s.jobs (i - 1) v

      here : left_of jobs' i ≡ left_of s.jobs i - 1
      here = numbered_same no_job (λ x. x.left) s.jobs i v low (omega (arith, steady.jobs)) ∙ ap (λ x. x - 1) (sym (numbered_some no_job (λ x. x.left) s.jobs i low))

      one_less : (h : Hold) → s.hold ≡ Some h → Within tasks jobs' (used i h)
      one_less h e = go (eqb h.task i) refl
        where
          within : Within tasks s.jobs h
          within = steady.known h e

          go : (b : Bool) → eqb h.task i ≡ b → Within tasks jobs' (record { task = h.task; units = cond b (h.units - 1) h.units })
          go true t =
              let same : h.task ≡ i = eqb-true h.task i t in
              record { first = within.first; last = within.last; left = omega (arith, within.left, here, ap (left_of s.jobs) same, ap (left_of jobs') same); short = omega (arith, within.short) }
          go false t = written i v low h e (λ same. never (sym t ∙ eq-eqb h.task i same))

  served_steady : (got : Got) → Placed got → Steady tasks (served s got)
  served_steady Nobody h = steady
  served_steady (Part k) h = part_served_steady k h.0 h.1
  served_steady (Task i a) h = task_served_steady i h.0 h.1

  aged_steady : Steady tasks (aged s)
  aged_steady = record { backlogs = steady.backlogs; jobs = length-map s.jobs older ∙ steady.jobs; waiting = steady.waiting; known = λ h e. (let within = steady.known h e in record { first = within.first; last = within.last; left = omega (arith, within.left, left_older s.jobs h.task); short = within.short }) }

  settled_steady : Steady tasks (settled s)
  settled_steady = record { backlogs = steady.backlogs; jobs = steady.jobs; waiting = steady.waiting; known = λ h e. steady.known h (after_tick s.jobs s.hold h e).0 }

pub settled_lasting : (s : State) → Lasting (settled s)
settled_lasting s h e = (after_tick s.jobs s.hold h e).1

pub passed_steady : (tasks : List PlanTask) (s : State) → Steady tasks s → (got : Got) → Placed got → Steady tasks (passed s got)
passed_steady tasks s steady got placed = settled_steady tasks (aged (served s got)) (aged_steady tasks (served s got) (served_steady tasks s steady got placed))
