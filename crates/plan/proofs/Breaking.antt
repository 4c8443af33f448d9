-- What is wrong with one task more, and the fault of the verdict on a plan, keep to the law of refusals.
use Rattle.std.proofs.Common.{◌≡◌, ◌↔◌, ℕ, zero, suc, ◌+◌, ◌-◌, ◌<◌, ◌≤◌, ◌⊎◌, Bool, true, false, leb, List, [], ◌∷◌, length, get_or, All, Option, refl, sym, ap, subst, inl, inr, arith}
use Rattle.std.specs.List.{Any}
use Rattle.std.proofs.lemmas.Bool.{cases_Bool, and_parts, leb-true, leb-false}
use Rattle.std.proofs.lemmas.Bool.Decides.{nat_tests}
use Rattle.refusal.specs.Laws.{FirstBroken}
use Rattle.refusal.specs.Table.{row}
use Rattle.refusal.specs.declared.Fault.{Fault}
use Rattle.refusal.specs.declared.Fault.TheVariants as faults
use Rattle.refusal.specs.declared.Fault.TheVariants.{TooMany, OutOfRange, Misfit, HoldAboveBlocking}
use Rattle.refusal.proofs.Firsts.{none_broken, some_broken, tests_broken, both_broken, same_broken, fails}
use Rattle.paced.specs.Makes.{Asked, adding, PaceBreaks, PartBreaks}
use Rattle.paced.proofs.Breaking.{part_broken}
use Rattle.source.specs.Facts.{Work}
use Rattle.plan.specs.Judged.{Judged, PlanBreaks, fault_told}
use Rattle.plan.specs.declared.verdict.Verdict.{Verdict}
use Rattle.plan.specs.declared.verdict.Verdict.TheVariants.{Accepted, NotJudgeable, Late}
use Rattle.plan.proofs.Once.{not_both}
use Rattle.plan.specs.Limits.{bearable, limits_right, limit_fault, task_fault, TaskBreaks}
use Rattle.plan.specs.Tasks.{Task}
use Rattle.plan.specs.declared.tasks.Limit.{Limit}

-- the rules of the limits by themselves
LimitBreaks : List Task → Asked → Limit → Fault → Type 0
LimitBreaks tasks a l OutOfRange = (l.deadline ≡ 0) ⊎ Any (λ number. 1000000 < number) (l.blocking ∷ l.deadline ∷ l.hold ∷ [])
LimitBreaks tasks a l Misfit = a.period < l.deadline + a.jitter
LimitBreaks tasks a l HoldAboveBlocking = Any (λ earlier. earlier.limit.blocking < l.hold) tasks
LimitBreaks tasks a l other = ⊥

too_much : (tasks : List Task) (h : ℕ) → bearable tasks h ≡ false → Any (λ earlier. earlier.limit.blocking < h) tasks
too_much [] h e = cc
too_much (t ∷ tasks) h e = elim (cases_Bool (leb h t.limit.blocking)) [
  | inl fine ↦ (let later = too_much tasks h (grind (arith, nat_tests)) in (suc later.0, later.1, omega arith, later.3, later.4))
  | inr here ↦ (0, t, omega arith, refl, leb-false h t.limit.blocking here)
]

borne : (tasks : List Task) (h : ℕ) → bearable tasks h ≡ true → All (λ earlier. h ≤ earlier.limit.blocking) tasks
borne [] h e i d l = absurd (omega arith)
borne (t ∷ tasks) h e zero d l = leb-true h t.limit.blocking (and_parts (leb h t.limit.blocking) (bearable tasks h) e).0
borne (t ∷ tasks) h e (suc i) d l = borne tasks h (and_parts (leb h t.limit.blocking) (bearable tasks h) e).1 i d (omega arith)

limit_wrong : (l : Limit) → limits_right l ≡ false → (l.deadline ≡ 0) ⊎ Any (λ number. 1000000 < number) (l.blocking ∷ l.deadline ∷ l.hold ∷ [])
limit_wrong l e = elim (cases_Bool (leb 1 l.deadline)) [
  | inr none ↦ inl (let less = leb-false 1 l.deadline none in omega arith)
  | inl some ↦ elim (cases_Bool (leb l.deadline 1000000)) [
    | inr large ↦ inr (1, l.deadline, omega arith, refl, leb-false l.deadline 1000000 large)
    | inl small ↦ elim (cases_Bool (leb l.blocking 1000000)) [
      | inr large ↦ inr (0, l.blocking, omega arith, refl, leb-false l.blocking 1000000 large)
      | inl blocking ↦ inr (2, l.hold, omega arith, refl, leb-false l.hold 1000000 (grind (arith, nat_tests)))
    ]
  ]
]

limit_right : (l : Limit) → limits_right l ≡ true → (l.deadline ≡ 0) ⊎ Any (λ number. 1000000 < number) (l.blocking ∷ l.deadline ∷ l.hold ∷ []) → ⊥
limit_right l e (inl none) = grind (arith, nat_tests)
limit_right l e (inr (zero, n, k, i, p)) = grind (arith, nat_tests)
limit_right l e (inr (suc zero, n, k, i, p)) = grind (arith, nat_tests)
limit_right l e (inr (suc (suc zero), n, k, i, p)) = grind (arith, nat_tests)
limit_right l e (inr (suc (suc (suc j)), n, k, i, p)) = omega arith

abbrev tests : List Task → Asked → Limit → List (Fault × Bool)
tests tasks a l = (OutOfRange, limits_right l) ∷ (Misfit, leb (l.deadline + a.jitter) a.period) ∷ (HoldAboveBlocking, bearable tasks l.hold) ∷ []

limit_fails : (tasks : List Task) (a : Asked) (l : Limit) (f : Fault) → (fails (tests tasks a l) f ≡ true) ↔ LimitBreaks tasks a l f
unfolding LimitBreaks
limit_fails tasks a l OutOfRange = (λ h. limit_wrong l (grind (arith, nat_tests)), λ h. elim (cases_Bool (limits_right l)) [ inl e ↦ absurd (limit_right l e h) | inr e ↦ grind (arith, nat_tests) ])
limit_fails tasks a l Misfit = (λ h. grind (arith, nat_tests), λ h. grind (arith, nat_tests))
limit_fails tasks a l HoldAboveBlocking = (λ h. too_much tasks l.hold (grind (arith, nat_tests)), λ h. elim (cases_Bool (bearable tasks l.hold)) [ inl e ↦ absurd (omega (arith, h.4, ap (λ t. t.limit.blocking) h.3, borne tasks l.hold e h.0 h.1 h.2)) | inr e ↦ grind (arith, nat_tests) ])
limit_fails tasks a l other = (λ h. cc, λ h. absurd h)

limit_broken : (tasks : List Task) (a : Asked) (l : Limit) → FirstBroken (LimitBreaks tasks a l) (limit_fault tasks a l)
limit_broken tasks a l = tests_broken (LimitBreaks tasks a l) (tests tasks a l) refl (limit_fails tasks a l)

both : (tasks : List Task) (a : Asked) (l : Limit) (f : Fault) → (PartBreaks 16 (length tasks) a f ⊎ LimitBreaks tasks a l f) ↔ TaskBreaks tasks a l f
unfolding PaceBreaks PartBreaks LimitBreaks TaskBreaks
both tasks a l TooMany = (λ h. elim h [ inl p ↦ p | inr q ↦ absurd q ], inl)
both tasks a l OutOfRange = (λ h. h, λ h. h)
both tasks a l Misfit = (λ h. grind arith, λ h. grind arith)
both tasks a l HoldAboveBlocking = (λ h. elim h [ inl p ↦ absurd p | inr q ↦ q ], inr)
both tasks a l other = (λ h. elim h [ inl p ↦ p | inr q ↦ q ], inl)

pub task_broken : (tasks : List Task) (a : Asked) (l : Limit) (x : Option Fault) → x ≡ task_fault tasks a l → FirstBroken (TaskBreaks tasks a l) x
task_broken tasks a l x e =
    subst (FirstBroken (TaskBreaks tasks a l)) (sym e)
    (same_broken (λ f. PartBreaks 16 (length tasks) a f ⊎ LimitBreaks tasks a l f) (TaskBreaks tasks a l) (task_fault tasks a l) (both tasks a l)
    (both_broken (PartBreaks 16 (length tasks) a) (LimitBreaks tasks a l) (adding 16 (length tasks) a) (limit_fault tasks a l) (part_broken 16 (length tasks) a (adding 16 (length tasks) a) refl) (limit_broken tasks a l)))

module _ (bank : Work) (tasks : List Task) where
  accepted_fine : (k : ℕ) (bounds : List ℕ) → Judged bank tasks (Accepted k) bounds → (f : Fault) → PlanBreaks bank tasks f → ⊥
  unfolding PlanBreaks
  accepted_fine k bounds h faults.NotJudgeable b = elim b [ inl none ↦ omega (arith, h.0, h.1) | inr many ↦ omega (arith, h.2) ]
  accepted_fine k bounds h faults.NoWindow (i, l, late) = not_both bank tasks i (get_or bounds i 0) (h.3 i (omega (arith, h.0))) late
  accepted_fine k bounds h other b = b

  none_before : (f : Fault) → PlanBreaks bank tasks f → 9 ≤ (row f).number
  unfolding PlanBreaks
  none_before faults.NotJudgeable b = omega arith
  none_before faults.NoWindow b = omega arith
  none_before other b = absurd b

  late_first : (f : Fault) → 1 ≤ length tasks → bank.parts ≤ 16 → PlanBreaks bank tasks f → 10 ≤ (row f).number
  unfolding PlanBreaks
  late_first faults.NotJudgeable some few b = elim b [ inl none ↦ omega arith | inr many ↦ omega arith ]
  late_first faults.NoWindow some few b = omega arith
  late_first other some few b = absurd b

  pub judged_broken : (v : Verdict) (bounds : List ℕ) → Judged bank tasks v bounds → FirstBroken (PlanBreaks bank tasks) (fault_told v)
  unfolding PlanBreaks
  judged_broken (Accepted k) bounds h = none_broken (PlanBreaks bank tasks) (accepted_fine k bounds h)
  judged_broken NotJudgeable bounds h = some_broken (PlanBreaks bank tasks) faults.NotJudgeable h none_before
  judged_broken (Late k) bounds h = some_broken (PlanBreaks bank tasks) faults.NoWindow (k - 1, omega (arith, h.1, h.2), h.4 (k - 1) (omega (arith, h.1))) (λ f b. late_first f (omega (arith, h.1, h.2)) h.0 b)
