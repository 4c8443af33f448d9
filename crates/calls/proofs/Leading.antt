-- From the start of a run on: every state is safe, and has the jobs that the log shows.
use Rattle.std.proofs.Common.{◌≡◌, ℕ, ◌+◌, ◌<◌, ◌≤◌, List, [], ◌∷◌, ◌++◌, Option, Some, None, sym, refl, subst, arith}
use Rattle.std.specs.Option.{IfSome}
use Rattle.calls.specs.declared.Call.{Call}
use Rattle.calls.specs.declared.Call.TheVariants.{Offer, Release, Hold, LetGo, End, Tick}
use Rattle.calls.specs.declared.Got.TheVariants.{Task}
use Rattle.calls.specs.declared.Answer.{Answer}
use Rattle.calls.specs.declared.Answer.TheVariants as answers
use Rattle.calls.specs.Events.{Event}
use Rattle.calls.specs.Jobs.{Job, after, carried, job_of, end_age}
use Rattle.calls.specs.Rules.{NeverLate}
use Rattle.calls.specs.States.{Plan, Accepted, State, Fits, Fresh}
use Rattle.calls.specs.Steps.{Step, Leads}
use Rattle.calls.proofs.Facts.{Safe}
use Rattle.calls.proofs.Easing.{eased_same, eased_offered, eased_released, eased_granted, eased_let_go, eased_ended}
use Rattle.calls.proofs.Staying.{safe_start, safe_eased}
use Rattle.calls.proofs.Passing.{safe_passed, is_task, in_time}
use Rattle.calls.proofs.Showing.{Shown, shown_after, told_in_time}

safe_after : (p : Plan) (s t : State) (c : Call) (a : Answer) → Accepted p → Safe p s → Step p s c a t → Fits p t → Safe p t
safe_after p s t (Offer k u) answers.Done ok safe h fits = safe_eased p s t ok safe (eased_offered p s t k u safe.sane h) fits
safe_after p s t (Release i u) answers.Done ok safe h fits = safe_eased p s t ok safe (eased_released p s t i u safe.sane h) fits
safe_after p s t (Hold i u) answers.Done ok safe h fits = safe_eased p s t ok safe (eased_granted p s t i u safe.sane h) fits
safe_after p s t (LetGo i) answers.Done ok safe h fits = safe_eased p s t ok safe (eased_let_go p s t i safe.sane h) fits
safe_after p s t (End i) answers.Done ok safe h fits = safe_eased p s t ok safe (eased_ended p s t i safe.sane h) fits
safe_after p s t Tick (answers.Ticked got) ok safe h fits = safe_passed p s ok safe t got h fits
safe_after p s t (Offer k u) (answers.Refused e) ok safe h fits = safe_eased p s t ok safe (eased_same p s t safe.sane h) fits
safe_after p s t (Release i u) (answers.Refused e) ok safe h fits = safe_eased p s t ok safe (eased_same p s t safe.sane h) fits
safe_after p s t (Hold i u) (answers.Refused e) ok safe h fits = safe_eased p s t ok safe (eased_same p s t safe.sane h) fits
safe_after p s t (LetGo i) (answers.Refused e) ok safe h fits = safe_eased p s t ok safe (eased_same p s t safe.sane h) fits
safe_after p s t (End i) (answers.Refused e) ok safe h fits = safe_eased p s t ok safe (eased_same p s t safe.sane h) fits
safe_after p s t c a ok safe h fits = absurd h

-- a log in two parts leads over a state between them
pub parted : (p : Plan) (s t : State) (before rest : List Event) → Leads p s (before ++ rest) t → (m : State) × Leads p s before m × Leads p m rest t
parted p s t [] rest h = (s, refl, h)
parted p s t (e ∷ before) rest h =
    let q = parted p h.0 t before rest h.3 in
    (q.0, (h.0, h.1, h.2, q.1), q.2)

pub safe_along : (p : Plan) (s t : State) (log : List Event) → Accepted p → Safe p s → Leads p s log t → Safe p t
safe_along p s t [] ok safe h = subst (λ x. Safe p x) (sym h) safe
safe_along p s t (e ∷ log) ok safe h = safe_along p h.0 t log ok (safe_after p s h.0 e.call e.answer ok safe h.1 h.2) h.3

shown_along : (p : Plan) (s t : State) (log : List Event) (i : ℕ) (job : Option Job) → Accepted p → Safe p s → Leads p s log t → Shown job (s.left i) (s.age i) → Shown (carried i job log) (t.left i) (t.age i)
shown_along p s t [] i job ok safe h shown = subst (λ x. Shown job (x.left i) (x.age i)) (sym h) shown
shown_along p s t (e ∷ log) i job ok safe h shown =
    shown_along p h.0 t log i (after i job e.call e.answer) ok (safe_after p s h.0 e.call e.answer ok safe h.1 h.2) h.3 (shown_after p s h.0 e.call e.answer i job ok safe h.1 shown)

pub never_late : (p : Plan) (s t : State) (log : List Event) → Accepted p → Fresh s → Fits p s → Leads p s log t → NeverLate p.bound log
never_late p s t log ok fresh fits leads = record { pending = pending; ended = ended }
  where
    safe : Safe p s
    safe = safe_start p s ok fits fresh

    shown : (m : State) (before : List Event) (i : ℕ) → Leads p s before m → Shown (job_of i before) (m.left i) (m.age i)
    shown m before i h = shown_along p s m before i None ok safe h (fresh.left i)

    pending : (before rest : List Event) (i : ℕ) (job : Job) → log ≡ before ++ rest → job_of i before ≡ Some job → (1 ≤ job.left) × (job.age < p.bound i)
    pending before rest i job e is =
        let q = parted p s t before rest (subst (λ x. Leads p s x t) e leads) in
        let here = safe_along p s q.0 before ok safe q.1 in
        let has : Shown (Some job) (q.0.left i) (q.0.age i) = subst (λ x. Shown x (q.0.left i) (q.0.age i)) is (shown q.0 before i q.1) in
        let task = is_task p q.0 ok here i has.1 in
        let soon : q.0.age i + 1 ≤ p.bound i = in_time p q.0 ok here i task.0 task.1 has.1 in
        (omega (arith, has.0, has.1), omega (arith, has.2, soon))

    ended : (before rest : List Event) (i : ℕ) (a : Option ℕ) → log ≡ before ++ (record { call = Tick; answer = answers.Ticked (Task i a) } ∷ rest) → (a ≡ end_age (job_of i before)) × IfSome a (λ age. age ≤ p.bound i)
    ended before rest i a e =
        let q = parted p s t before (record { call = Tick; answer = answers.Ticked (Task i a) } ∷ rest) (subst (λ x. Leads p s x t) e leads) in
        told_in_time p q.0 q.2.0 i a (job_of i before) ok (safe_along p s q.0 before ok safe q.1) q.2.1 (shown q.0 before i q.1)
