-- What each call of a run is refused with keeps to the law of refusals.
use Rattle.std.proofs.Common.{◌≡◌, ◌↔◌, ℕ, zero, suc, ◌+◌, ◌≤◌, ◌⊎◌, Bool, true, false, cond, not, ◌&&◌, ◌||◌, eqb, leb, List, [], ◌∷◌, length, Option, Some, None, refl, sym, ap, ◌∙◌, subst, inl, inr, arith}
use Rattle.std.specs.List.{sum}
use Rattle.std.specs.Option.{option_eq, option_or}
use Rattle.std.specs.Prelude.{is_none, is_some, nat_eq, unwrap_or}
use Rattle.std.proofs.lemmas.Bool.{cases_Bool, and_parts, and_from, leb-true, le-leb, leb-false, eqb-true, eqb-false, eq-eqb, ne_eqb}
use Rattle.std.proofs.lemmas.List.{length-map}
use Rattle.refusal.specs.Laws.{FirstBroken}
use Rattle.refusal.specs.declared.Fault.{Fault}
use Rattle.refusal.specs.declared.Fault.TheVariants.{NotAccepted, NoSuchNumber, UnitsNotAllowed, BacklogFull, HoldNotGranted, NothingToEnd, JobPending}
use Rattle.refusal.proofs.Firsts.{tests_broken, first_failed, fails}
use Rattle.source.specs.Facts.{Work, is_part}
use Rattle.source.proofs.Parts.{part_bounds}
use Rattle.plan.specs.declared.verdict.Verdict.{Verdict}
use Rattle.plan.specs.declared.verdict.Verdict.TheVariants.{Accepted, NotJudgeable, Late}
use Rattle.run.specs.Faults.{range_fault, grantable, tick_fault, offer_fault, release_fault, hold_fault, let_go_fault, end_fault}
use Rattle.run.specs.Rules.{Outside, TickBreaks, OfferBreaks, ReleaseBreaks, HoldBreaks, LetGoBreaks, EndBreaks}
use Rattle.run.specs.Runs.{Now, Held, HighestPending, parts_of, rested, tasks_allowed}
use Rattle.run.specs.States.{left_of, hold_of, holds, holder, holder_in, first_pending, First}
use Rattle.run.specs.declared.state.Hold.{Hold}
use Rattle.run.proofs.Faults.{nobody_holds, same_number}
use Rattle.run.proofs.Firsts.{pending_found, jobs_clear}
use Rattle.run.proofs.Steady.{never, nothing}

-- a test is failed just if a rule is broken
decided : {P : Type 0} (b : Bool) → (b ≡ false → P) → (b ≡ true → P → ⊥) → ((not b || false) ≡ true) ↔ P
decided true broken kept = (λ h. never h, λ p. absurd (kept refl p))
decided false broken kept = (λ h. broken refl, λ p. refl)

either : {B : Type 0} (b : Bool) → b ≡ false → b ≡ true → B
either b f t = never (sym f ∙ t)

accepted : (p : Option ℕ) → ((not (is_some p) || false) ≡ true) ↔ (p ≡ None)
accepted None = (λ h. refl, λ e. refl)
accepted (Some n) = (λ h. never h, λ e. nothing (sym e))

outside : (n k : ℕ) → is_part n k ≡ false → Outside n k
outside n zero e = inl refl
outside n (suc k) e = elim (cases_Bool (leb (suc k) n)) [
  | inl t ↦ either (is_part n (suc k)) e (and_from (leb 1 (suc k)) (leb (suc k) n) (le-leb 1 (suc k) (omega arith)) t)
  | inr f ↦ inr (leb-false (suc k) n f)
]

inside : (n k : ℕ) → is_part n k ≡ true → Outside n k → ⊥
inside n k e (inl none) = omega (arith, none, (part_bounds n k e).0)
inside n k e (inr over) = omega (arith, over, (part_bounds n k e).1)

ranged : (n k : ℕ) → ((not (is_part n k) || false) ≡ true) ↔ Outside n k
ranged n k = decided (is_part n k) (outside n k) (inside n k)

-- a cascade of such tests, one after another
two : (f g : Fault) (a b : Bool) → option_or (cond a None (Some f)) (cond b None (Some g)) ≡ first_failed ((f, a) ∷ (g, b) ∷ [])
two f g true b = refl
two f g false b = refl

three : (f g h : Fault) (a b c : Bool) → option_or (option_or (cond a None (Some f)) (cond b None (Some g))) (cond c None (Some h)) ≡ first_failed ((f, a) ∷ (g, b) ∷ (h, c) ∷ [])
three f g h true b c = two g h b c
three f g h false b c = refl

four : (f g h i : Fault) (a b c d : Bool) → option_or (option_or (cond a None (Some f)) (cond b None (Some g))) (option_or (cond c None (Some h)) (cond d None (Some i))) ≡ first_failed ((f, a) ∷ (g, b) ∷ (h, c) ∷ (i, d) ∷ [])
four f g h i true true c d = two h i c d
four f g h i true false c d = refl
four f g h i false b c d = refl

-- of two numbers that are the first at which f is not 0, one is the other
same_first : (f : ℕ → ℕ) (n i j : ℕ) → First f n i → First f n j → i ≡ j
same_first f n i j a b = elim (cases_Bool (leb i j)) [
  | inl t ↦ elim (cases_Bool (leb j i)) [
    | inl s ↦ omega (arith, leb-true i j t, leb-true j i s)
    | inr s ↦ absurd (let less = leb-false j i s in omega (arith, b.before i a.some less, a.there))
  ]
  | inr t ↦ absurd (let less = leb-false i j t in omega (arith, a.before j b.some less, b.there))
]

module _ {S : Type 0} (r : Now S) where
  tick_fails : (f : Fault) → (fails ((NotAccepted, is_some r.parts) ∷ []) f ≡ true) ↔ TickBreaks r f
  tick_fails NotAccepted = accepted r.parts
  tick_fails other = (λ h. never h, λ h. absurd h)

  pub tick_law : FirstBroken (TickBreaks r) (tick_fault r)
  tick_law = tests_broken (TickBreaks r) ((NotAccepted, is_some r.parts) ∷ []) refl tick_fails

module _ {S : Type 0} (work : S → Work) (r : Now S) (held : Held work r) where
  -- how many parts a run has, and that there is a place for each task
  pub parts_are : (r.parts ≡ None) ⊎ (r.parts ≡ Some (work r.bank).parts)
  parts_are = go held.started.judged.verdict held.started.parts
    where
      go : (v : Verdict) → r.parts ≡ parts_of (work held.started.judged.plan.bank) v → (r.parts ≡ None) ⊎ (r.parts ≡ Some (work r.bank).parts)
      go (Accepted n) e = inr (e ∙ ap (λ w. Some w.parts) (sym held.started.bank))
      go NotJudgeable e = inl e
      go (Late i) e = inl e

  pub tasks_few : length r.tasks ≤ 16
  tasks_few = omega (arith, length-map r.tasks rested, ap length held.started.tasks, held.started.by_judge.fitting.few)

  jobs_many : length r.tasks ≤ length r.state.jobs
  jobs_many = omega (arith, tasks_few, held.jobs)

  -- nobody holds, or one of the tasks
  somebody : (o : Option Hold) → r.state.hold ≡ o → is_none o ≡ false → 1 ≤ holder r.state
  somebody None e f = never (sym f)
  somebody (Some h) e f = omega (arith, ap (λ o. holder_in o) e, (held.known h e).first)

  pub highest : (i : ℕ) → HighestPending r i → first_pending r.state.jobs (length r.tasks) ≡ Some i
  highest i here = go (first_pending r.state.jobs (length r.tasks)) refl
    where
      go : (o : Option ℕ) → first_pending r.state.jobs (length r.tasks) ≡ o → o ≡ Some i
      go None e = absurd (omega (arith, here.there, jobs_clear r.state.jobs (length r.tasks) jobs_many e i here.some here.within))
      go (Some j) e = ap (λ k. Some k) (same_first (left_of r.state.jobs) (length r.tasks) j i (pending_found r.state.jobs (length r.tasks) j jobs_many e) here)

  module _ (i u : ℕ) where
    abbrev HoldRule : Type 0
    HoldRule = HoldBreaks r i u HoldNotGranted

    abbrev first : Bool
    first = option_eq nat_eq (first_pending r.state.jobs (length r.tasks)) (Some i)

    abbrev short : Bool
    short = leb u (hold_of r.tasks i)

    abbrev within : Bool
    within = leb u (left_of r.state.jobs i)

    not_granted : grantable r.tasks r.state i u ≡ false → HoldRule
    not_granted e = elim (cases_Bool (is_none r.state.hold)) [
      | inr f ↦ inl (somebody r.state.hold refl f)
      | inl free ↦ elim (cases_Bool first) [
        | inr f ↦ inr (inl (λ here. either first f (same_option (highest i here))))
        | inl at ↦ elim (cases_Bool (leb 1 u)) [
          | inr f ↦ inr (inr (inl (inl (let less = leb-false 1 u f in omega arith))))
          | inl some ↦ elim (cases_Bool short) [
            | inr f ↦ inr (inr (inl (inr (leb-false u (hold_of r.tasks i) f))))
            | inl s ↦ elim (cases_Bool within) [
              | inr f ↦ inr (inr (inr (inr (leb-false u (left_of r.state.jobs i) f))))
              | inl w ↦ either (grantable r.tasks r.state i u) e (and_from (is_none r.state.hold) (first && (leb 1 u && (short && within))) free (and_from first (leb 1 u && (short && within)) at (and_from (leb 1 u) (short && within) some (and_from short within s w))))
            ]
          ]
        ]
      ]
    ]
      where
        same_option : {o : Option ℕ} → o ≡ Some i → option_eq nat_eq o (Some i) ≡ true
        same_option eq = ap (λ o. option_eq nat_eq o (Some i)) eq ∙ eq-eqb i i refl

    granted : grantable r.tasks r.state i u ≡ true → HoldRule → ⊥
    granted e rule =
        let a = and_parts (is_none r.state.hold) (first && (leb 1 u && (short && within))) e in
        let b = and_parts first (leb 1 u && (short && within)) a.1 in
        let c = and_parts (leb 1 u) (short && within) b.1 in
        let d = and_parts short within c.1 in
        elim rule [
          | inl holding ↦ omega (arith, holding, ap (λ o. holder_in o) (nobody_holds r.state.hold a.0))
          | inr (inl lower) ↦ lower (pending_found r.state.jobs (length r.tasks) i jobs_many (same_number (first_pending r.state.jobs (length r.tasks)) i b.0))
          | inr (inr (inl (inl none))) ↦ omega (arith, none, leb-true 1 u c.0)
          | inr (inr (inl (inr long))) ↦ omega (arith, long, leb-true u (hold_of r.tasks i) d.0)
          | inr (inr (inr (inl none))) ↦ omega (arith, none, leb-true 1 u c.0)
          | inr (inr (inr (inr long))) ↦ omega (arith, long, leb-true u (left_of r.state.jobs i) d.1)
        ]

  module _ (allowed : S → ℕ → ℕ → ℕ) (k u : ℕ) where
    abbrev offer_tests : List (Fault × Bool)
    offer_tests = (NotAccepted, is_some r.parts) ∷ (NoSuchNumber, is_part (work r.bank).parts k) ∷ (UnitsNotAllowed, is_part (allowed r.bank k 1) u) ∷ (BacklogFull, leb (sum r.state.backlogs + u) 1000000) ∷ []

    offer_fails : (f : Fault) → (fails offer_tests f ≡ true) ↔ OfferBreaks work allowed r k u f
    offer_fails NotAccepted = accepted r.parts
    offer_fails NoSuchNumber = ranged (work r.bank).parts k
    offer_fails UnitsNotAllowed = ranged (allowed r.bank k 1) u
    offer_fails BacklogFull = decided (leb (sum r.state.backlogs + u) 1000000) (leb-false (sum r.state.backlogs + u) 1000000) (λ e over. omega (arith, over, leb-true (sum r.state.backlogs + u) 1000000 e))
    offer_fails other = (λ h. never h, λ h. absurd h)

    abbrev offer_at : Option ℕ → Option Fault
    offer_at p = option_or (option_or (cond (is_some p) None (Some NotAccepted)) (range_fault NoSuchNumber (unwrap_or p 0) k)) (option_or (range_fault UnitsNotAllowed (allowed r.bank k 1) u) (cond (leb (sum r.state.backlogs + u) 1000000) None (Some BacklogFull)))

    abbrev tests_at : Option ℕ → List (Fault × Bool)
    tests_at p = (NotAccepted, is_some p) ∷ (NoSuchNumber, is_part (work r.bank).parts k) ∷ (UnitsNotAllowed, is_part (allowed r.bank k 1) u) ∷ (BacklogFull, leb (sum r.state.backlogs + u) 1000000) ∷ []

    offer_is : (p : Option ℕ) → (p ≡ None) ⊎ (p ≡ Some (work r.bank).parts) → offer_at p ≡ first_failed (tests_at p)
    offer_is p (inl e) = subst (λ p. offer_at p ≡ first_failed (tests_at p)) (sym e) refl
    offer_is p (inr e) = subst (λ p. offer_at p ≡ first_failed (tests_at p)) (sym e) (four NotAccepted NoSuchNumber UnitsNotAllowed BacklogFull true (is_part (work r.bank).parts k) (is_part (allowed r.bank k 1) u) (leb (sum r.state.backlogs + u) 1000000))

    pub offer_law : FirstBroken (OfferBreaks work allowed r k u) (offer_fault allowed r k u)
    offer_law = subst (FirstBroken (OfferBreaks work allowed r k u)) (sym (offer_is r.parts parts_are)) (tests_broken (OfferBreaks work allowed r k u) offer_tests refl offer_fails)

  module _ (i u : ℕ) where
    abbrev release_tests : List (Fault × Bool)
    release_tests = (NotAccepted, is_some r.parts) ∷ (NoSuchNumber, is_part (length r.tasks) i) ∷ (UnitsNotAllowed, is_part (tasks_allowed r i 1) u) ∷ (JobPending, eqb (left_of r.state.jobs i) 0) ∷ []

    release_fails : (f : Fault) → (fails release_tests f ≡ true) ↔ ReleaseBreaks r i u f
    release_fails NotAccepted = accepted r.parts
    release_fails NoSuchNumber = ranged (length r.tasks) i
    release_fails UnitsNotAllowed = ranged (tasks_allowed r i 1) u
    release_fails JobPending = decided (eqb (left_of r.state.jobs i) 0) (λ e. let some = eqb-false (left_of r.state.jobs i) 0 e in omega arith) (λ e some. omega (arith, some, eqb-true (left_of r.state.jobs i) 0 e))
    release_fails other = (λ h. never h, λ h. absurd h)

    pub release_law : FirstBroken (ReleaseBreaks r i u) (release_fault r i u)
    release_law = subst (FirstBroken (ReleaseBreaks r i u)) (sym (four NotAccepted NoSuchNumber UnitsNotAllowed JobPending (is_some r.parts) (is_part (length r.tasks) i) (is_part (tasks_allowed r i 1) u) (eqb (left_of r.state.jobs i) 0))) (tests_broken (ReleaseBreaks r i u) release_tests refl release_fails)

    abbrev hold_tests : List (Fault × Bool)
    hold_tests = (NotAccepted, is_some r.parts) ∷ (NoSuchNumber, is_part (length r.tasks) i) ∷ (HoldNotGranted, grantable r.tasks r.state i u) ∷ []

    hold_fails : (f : Fault) → (fails hold_tests f ≡ true) ↔ HoldBreaks r i u f
    hold_fails NotAccepted = accepted r.parts
    hold_fails NoSuchNumber = ranged (length r.tasks) i
    hold_fails HoldNotGranted = decided (grantable r.tasks r.state i u) (not_granted i u) (granted i u)
    hold_fails other = (λ h. never h, λ h. absurd h)

    pub hold_law : FirstBroken (HoldBreaks r i u) (hold_fault r i u)
    hold_law = subst (FirstBroken (HoldBreaks r i u)) (sym (three NotAccepted NoSuchNumber HoldNotGranted (is_some r.parts) (is_part (length r.tasks) i) (grantable r.tasks r.state i u))) (tests_broken (HoldBreaks r i u) hold_tests refl hold_fails)

  module _ (i : ℕ) where
    abbrev let_go_tests : List (Fault × Bool)
    let_go_tests = (NotAccepted, is_some r.parts) ∷ (NoSuchNumber, is_part (length r.tasks) i) ∷ (NothingToEnd, eqb (holder r.state) i) ∷ []

    let_go_fails : (f : Fault) → (fails let_go_tests f ≡ true) ↔ LetGoBreaks r i f
    let_go_fails NotAccepted = accepted r.parts
    let_go_fails NoSuchNumber = ranged (length r.tasks) i
    let_go_fails NothingToEnd = decided (eqb (holder r.state) i) (eqb-false (holder r.state) i) (λ e other. other (eqb-true (holder r.state) i e))
    let_go_fails other = (λ h. never h, λ h. absurd h)

    -- a task that there is holds just if it is the holder
    let_go_is : (o : Option Hold) (a b : Bool) → (b ≡ true → 1 ≤ i) → option_or (option_or (cond a None (Some NotAccepted)) (cond b None (Some NoSuchNumber))) (cond (holds o i) None (Some NothingToEnd)) ≡ first_failed ((NotAccepted, a) ∷ (NoSuchNumber, b) ∷ (NothingToEnd, eqb (holder_in o) i) ∷ [])
    let_go_is (Some h) a b some = three NotAccepted NoSuchNumber NothingToEnd a b (eqb h.task i)
    let_go_is None false b some = refl
    let_go_is None true false some = refl
    let_go_is None true true some = ap (λ t. cond t None (Some NothingToEnd)) (sym (ne_eqb 0 i (λ e. omega (arith, e, some refl))))

    pub let_go_law : FirstBroken (LetGoBreaks r i) (let_go_fault r i)
    let_go_law = subst (FirstBroken (LetGoBreaks r i)) (sym (let_go_is r.state.hold (is_some r.parts) (is_part (length r.tasks) i) (λ e. (part_bounds (length r.tasks) i e).0))) (tests_broken (LetGoBreaks r i) let_go_tests refl let_go_fails)

    abbrev end_tests : List (Fault × Bool)
    end_tests = (NotAccepted, is_some r.parts) ∷ (NoSuchNumber, is_part (length r.tasks) i) ∷ (NothingToEnd, leb 1 (left_of r.state.jobs i)) ∷ []

    end_fails : (f : Fault) → (fails end_tests f ≡ true) ↔ EndBreaks r i f
    end_fails NotAccepted = accepted r.parts
    end_fails NoSuchNumber = ranged (length r.tasks) i
    end_fails NothingToEnd = decided (leb 1 (left_of r.state.jobs i)) (λ e. let less = leb-false 1 (left_of r.state.jobs i) e in omega arith) (λ e none. omega (arith, none, leb-true 1 (left_of r.state.jobs i) e))
    end_fails other = (λ h. never h, λ h. absurd h)

    pub end_law : FirstBroken (EndBreaks r i) (end_fault r i)
    end_law = subst (FirstBroken (EndBreaks r i)) (sym (three NotAccepted NoSuchNumber NothingToEnd (is_some r.parts) (is_part (length r.tasks) i) (leb 1 (left_of r.state.jobs i)))) (tests_broken (EndBreaks r i) end_tests refl end_fails)
