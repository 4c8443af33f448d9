-- The job that a log shows is the one that the state has.
use Rattle.std.proofs.Common.{◌≡◌, ℕ, ◌+◌, ◌-◌, ◌<◌, ◌≤◌, min, cond, Bool, true, false, nat_le, Option, Some, None, sym, refl, ap, ◌∙◌, subst, arith}
use Rattle.std.specs.Option.{IfSome}
use Rattle.std.specs.Prelude.{◌==◌}
use Rattle.std.proofs.lemmas.Bool.Decides.{nat_tests}
use Rattle.calls.specs.declared.Call.{Call}
use Rattle.calls.specs.declared.Call.TheVariants.{Offer, Release, Hold, LetGo, End, Tick}
use Rattle.calls.specs.declared.Got.{Got}
use Rattle.calls.specs.declared.Got.TheVariants.{Nobody, Part, Task}
use Rattle.calls.specs.declared.Answer.{Answer}
use Rattle.calls.specs.declared.Answer.TheVariants as answers
use Rattle.calls.specs.Jobs.{Job, older, served, ticked, after, end_age}
use Rattle.calls.specs.States.{Plan, Accepted, State}
use Rattle.calls.specs.Steps.{Released, Ended, Passed, Step}
use Rattle.calls.proofs.Facts.{Safe}
use Rattle.calls.proofs.Passing.{has_job, age_exact, uncapped, in_time}

-- it has these units left and this age, and is there as long as it has units left
abbrev pub Shown : Option Job → ℕ → ℕ → Type 0
Shown None l a = l ≡ 0
Shown (Some job) l a = (job.left ≡ l) × (1 ≤ l) × (job.age ≡ a)

shown_same : (job : Option Job) (l a l' a' : ℕ) → l' ≡ l → a' ≡ a → Shown job l a → Shown job l' a'
shown_same None l a l' a' e f h = omega arith
shown_same (Some job) l a l' a' e f h = (omega arith, omega arith, omega arith)

-- a tick, in which b says whether the task got the unit
shown_ticked : (job : Option Job) (b : Bool) (l a l' a' u : ℕ) → u ≡ cond b 1 0 → l' ≡ l - u → a' ≡ cond (nat_le 1 l') (a + 1) 0 → Shown job l a → Shown (cond b (served (older job)) (older job)) l' a'
shown_ticked None true l a l' a' u e f g h = omega arith
shown_ticked None false l a l' a' u e f g h = omega arith
shown_ticked (Some job) false l a l' a' u e f g h =
    let unit : u ≡ 0 = e in
    let left : job.left ≡ l = h.0 in
    let some : 1 ≤ l = h.1 in
    let age : job.age ≡ a = h.2 in
    (omega arith, omega arith, grind (arith, nat_tests))
shown_ticked (Some job) true l a l' a' u e f g h = go (nat_le job.left 1) refl
  where
    go : (c : Bool) → nat_le job.left 1 ≡ c → Shown (cond c None (Some (record { left = job.left - 1; age = job.age + 1 }))) l' a'
    go true k =
        let unit : u ≡ 1 = e in
        let left : job.left ≡ l = h.0 in
        grind (arith, nat_tests)
    go false k =
        let unit : u ≡ 1 = e in
        let left : job.left ≡ l = h.0 in
        let age : job.age ≡ a = h.2 in
        let more : 1 < job.left = grind (arith, nat_tests) in
        (omega arith, omega arith, grind (arith, nat_tests))

shown_released : (p : Plan) (s t : State) (k u i : ℕ) (job : Option Job) → Released p s k u t → Shown job (s.left i) (s.age i) → Shown (cond (k == i) (Some (record { left = u; age = 0 })) job) (t.left i) (t.age i)
shown_released p s t k u i job h shown = go (k == i) refl
  where
    go : (b : Bool) → (k == i) ≡ b → Shown (cond b (Some (record { left = u; age = 0 })) job) (t.left i) (t.age i)
    go true e =
        let left = h.left i in
        let age = h.age i in
        let some = h.some in
        (grind (arith, nat_tests), grind (arith, nat_tests), grind (arith, nat_tests))
    go false e =
        let left = h.left i in
        let age = h.age i in
        shown_same job (s.left i) (s.age i) (t.left i) (t.age i) (grind (arith, nat_tests)) (grind (arith, nat_tests)) shown

shown_ended : (s t : State) (k i : ℕ) (job : Option Job) → Ended s k t → Shown job (s.left i) (s.age i) → Shown (cond (k == i) None job) (t.left i) (t.age i)
shown_ended s t k i job h shown = go (k == i) refl
  where
    go : (b : Bool) → (k == i) ≡ b → Shown (cond b None job) (t.left i) (t.age i)
    go true e = let left = h.left i in grind (arith, nat_tests)
    go false e =
        let left = h.left i in
        let age = h.age i in
        shown_same job (s.left i) (s.age i) (t.left i) (t.age i) (grind (arith, nat_tests)) (grind (arith, nat_tests)) shown

-- a call that leaves jobs as they are
shown_rest : (s t : State) (i : ℕ) (job : Option Job) → t.left ≡ s.left → t.age ≡ s.age → Shown job (s.left i) (s.age i) → Shown job (t.left i) (t.age i)
shown_rest s t i job e f shown = shown_same job (s.left i) (s.age i) (t.left i) (t.age i) (λ x. e x i) (λ x. f x i) shown

shown_passed : (p : Plan) (s t : State) (got : Got) (i : ℕ) (job : Option Job) → Accepted p → Safe p s → Passed p s got t → Shown job (s.left i) (s.age i) → Shown (ticked i job got) (t.left i) (t.age i)
shown_passed p s t Nobody i job ok safe h shown = shown_ticked job false (s.left i) (s.age i) (t.left i) (t.age i) 0 refl (h.left i) (age_exact p s ok safe t Nobody h i) shown
shown_passed p s t (Part k) i job ok safe h shown = shown_ticked job false (s.left i) (s.age i) (t.left i) (t.age i) 0 refl (h.left i) (age_exact p s ok safe t (Part k) h i) shown
shown_passed p s t (Task j a) i job ok safe h shown = shown_ticked job (j == i) (s.left i) (s.age i) (t.left i) (t.age i) (cond (i == j) 1 0) (grind (arith, nat_tests)) (h.left i) (age_exact p s ok safe t (Task j a) h i) shown

pub shown_after : (p : Plan) (s t : State) (c : Call) (a : Answer) (i : ℕ) (job : Option Job) → Accepted p → Safe p s → Step p s c a t → Shown job (s.left i) (s.age i) → Shown (after i job c a) (t.left i) (t.age i)
shown_after p s t (Offer k u) answers.Done i job ok safe h shown = shown_rest s t i job (ap (λ x. x.left) h.rest) (ap (λ x. x.age) h.rest) shown
shown_after p s t (Release k u) answers.Done i job ok safe h shown = shown_released p s t k u i job h shown
shown_after p s t (Hold k u) answers.Done i job ok safe h shown = shown_rest s t i job (ap (λ x. x.left) h.rest) (ap (λ x. x.age) h.rest) shown
shown_after p s t (LetGo k) answers.Done i job ok safe h shown = shown_rest s t i job (ap (λ x. x.left) h.rest) (ap (λ x. x.age) h.rest) shown
shown_after p s t (End k) answers.Done i job ok safe h shown = shown_ended s t k i job h shown
shown_after p s t Tick (answers.Ticked got) i job ok safe h shown = shown_passed p s t got i job ok safe h shown
shown_after p s t (Offer k u) (answers.Refused e) i job ok safe h shown = shown_rest s t i job (ap (λ x. x.left) h) (ap (λ x. x.age) h) shown
shown_after p s t (Release k u) (answers.Refused e) i job ok safe h shown = shown_rest s t i job (ap (λ x. x.left) h) (ap (λ x. x.age) h) shown
shown_after p s t (Hold k u) (answers.Refused e) i job ok safe h shown = shown_rest s t i job (ap (λ x. x.left) h) (ap (λ x. x.age) h) shown
shown_after p s t (LetGo k) (answers.Refused e) i job ok safe h shown = shown_rest s t i job (ap (λ x. x.left) h) (ap (λ x. x.age) h) shown
shown_after p s t (End k) (answers.Refused e) i job ok safe h shown = shown_rest s t i job (ap (λ x. x.left) h) (ap (λ x. x.age) h) shown
shown_after p s t c a i job ok safe h shown = absurd h

-- a tick tells the age of the job that it ended, and that is within the bound
pub told_in_time : (p : Plan) (s t : State) (i : ℕ) (a : Option ℕ) (job : Option Job) → Accepted p → Safe p s → Passed p s (Task i a) t → Shown job (s.left i) (s.age i) → (a ≡ end_age job) × IfSome a (λ age. age ≤ p.bound i)
told_in_time p s t i a job ok safe h shown = (exact job shown, within)
  where
    some : 1 ≤ s.left i
    some = (has_job p s i a safe.sane h.due).1

    old : min (s.age i + 1) p.cap ≡ s.age i + 1
    old = uncapped p s ok safe i some

    told : a ≡ cond (nat_le (s.left i) 1) (Some (s.age i + 1)) None
    told = h.told ∙ ap (λ x. cond (nat_le (s.left i) 1) (Some x) None) old

    exact : (job : Option Job) → Shown job (s.left i) (s.age i) → a ≡ end_age job
    exact None e = absurd (omega (arith, some))
    exact (Some job) e = told ∙ (λ x. cond (nat_le (sym e.0 x) 1) (Some (sym e.2 x + 1)) None)

    bounded : (b : Bool) → IfSome (cond b (Some (s.age i + 1)) None) (λ age. age ≤ p.bound i)
    bounded true = in_time p s ok safe i h.due.1 (has_job p s i a safe.sane h.due).0 some
    bounded false = tt

    within : IfSome a (λ age. age ≤ p.bound i)
    within = subst (λ x. IfSome x (λ age. age ≤ p.bound i)) (sym told) (bounded (nat_le (s.left i) 1))
