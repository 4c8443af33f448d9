-- A plan has one verdict and one bound for each task.
use Rattle.std.proofs.Common.{◌≡◌, ℕ, ◌+◌, ◌-◌, ◌<◌, ◌≤◌, List, length, get_or, sym, refl, ap, ◌∙◌, subst, inl, inr, arith}
use Rattle.std.proofs.lemmas.List.{get_or-map, length-map}
use Rattle.std.proofs.lemmas.Bool.{cases_lt, cases_eq}
use Rattle.source.specs.Facts.{Work}
use Rattle.paced.specs.Pace.{blank, largest_cost}
use Rattle.paced.specs.Tables.{row_at, work_in}
use Rattle.plan.specs.Judged.{Bounded, Unbounded, Judged, OnlyJudged, Raised, StaysAccepted}
use Rattle.plan.specs.Needs.{needed, total, Smallest}
use Rattle.plan.specs.Tasks.{Task, task_at}
use Rattle.plan.specs.declared.verdict.Verdict.{Verdict}
use Rattle.plan.specs.declared.verdict.Verdict.TheVariants.{Accepted, NotJudgeable, Late}

-- two smallest windows are the same
same_smallest : (f : ℕ → ℕ) (w w' : ℕ) → Smallest f w → Smallest f w' → w' ≡ w
same_smallest f w w' a b =
    elim (cases_lt w w') [
      | inl less ↦ absurd (omega (arith, a.holds, b.smaller w a.some less))
      | inr up ↦ elim (cases_eq w' w) [ inl e ↦ e | inr ne ↦ absurd (omega (arith, b.holds, a.smaller w' b.some (omega arith))) ]
    ]

module _ (bank : Work) (tasks : List Task) where
  pub not_both : (i w : ℕ) → Bounded bank tasks i w → Unbounded bank tasks i → ⊥
  not_both i w b u = omega (arith, b.0.holds, u w b.0.some b.1)

  -- the task with number k has no window, and the tasks before k' have one
  no_earlier : (k k' : ℕ) → 1 ≤ k → k < k' → ((i : ℕ) → i + 1 ≡ k → Unbounded bank tasks i) → ((i : ℕ) → i + 1 < k' → (w : ℕ) × Bounded bank tasks i w) → ⊥
  no_earlier k k' some less late early = let b = early (k - 1) (omega arith) in not_both (k - 1) b.0 b.1 (late (k - 1) (omega arith))

  pub once : (v : Verdict) (bounds : List ℕ) → Judged bank tasks v bounds → OnlyJudged bank tasks v bounds
  once (Accepted k) bounds h (Accepted k') bounds' h' = (let same : k' ≡ k = omega (arith, h.0, h'.0) in ap Accepted same, λ i l. same_smallest _ (get_or bounds i 0) (get_or bounds' i 0) (h.3 i l).0 (h'.3 i (omega (arith, h.0, h'.0))).0)
  once (Accepted k) bounds h NotJudgeable bounds' h' = absurd (elim h' [ inl none ↦ omega (arith, h.0, h.1) | inr many ↦ omega (arith, h.2) ])
  once (Accepted k) bounds h (Late k') bounds' h' = absurd (not_both (k' - 1) (get_or bounds (k' - 1) 0) (h.3 (k' - 1) (omega (arith, h.0, h'.1, h'.2))) (h'.4 (k' - 1) (omega (arith, h'.1))))
  once NotJudgeable bounds h (Accepted k') bounds' h' = absurd (elim h [ inl none ↦ omega (arith, h'.0, h'.1) | inr many ↦ omega (arith, h'.2) ])
  once NotJudgeable bounds h NotJudgeable bounds' h' = (refl, λ i l. absurd (omega arith))
  once NotJudgeable bounds h (Late k') bounds' h' = absurd (elim h [ inl none ↦ omega (arith, h'.1, h'.2) | inr many ↦ omega (arith, h'.0) ])
  once (Late k) bounds h (Accepted k') bounds' h' = absurd (not_both (k - 1) (get_or bounds' (k - 1) 0) (h'.3 (k - 1) (omega (arith, h'.0, h.1, h.2))) (h.4 (k - 1) (omega (arith, h.1))))
  once (Late k) bounds h NotJudgeable bounds' h' = absurd (elim h' [ inl none ↦ omega (arith, h.1, h.2) | inr many ↦ omega (arith, h.0) ])
  once (Late k) bounds h (Late k') bounds' h' =
      let same : k' ≡ k = elim (cases_lt k k') [
        | inl less ↦ absurd (no_earlier k k' h.1 less h.4 h'.3)
        | inr up ↦ elim (cases_eq k' k) [ inl e ↦ e | inr ne ↦ absurd (no_earlier k' k h'.1 (omega arith) h'.4 h.3) ]
      ] in
      (ap Late same, λ i l. absurd (omega arith))

-- with deadlines raised, each task needs what it needed

raised_need : (bank : Work) (tasks tasks' : List Task) → Raised tasks tasks' → (i l : ℕ) → i < length tasks → needed bank tasks' i l ≡ needed bank tasks i l
raised_need bank tasks tasks' raised i l h =
    let long : length tasks' ≡ length tasks = sym (length-map tasks' (λ t. t.row)) ∙ ap length raised.rows ∙ length-map tasks (λ t. t.row) in
    let row : (task_at tasks' i).row ≡ (task_at tasks i).row = sym (get_or-map (λ t. t.row) tasks' i _ blank (omega arith)) ∙ ap (λ rows. row_at rows i) raised.rows ∙ get_or-map (λ t. t.row) tasks i _ blank h in
    λ k. raised.blockings i h k + largest_cost (row k) + total bank bank.parts l + total (work_in (raised.rows k)) i l

pub stays_accepted : (bank : Work) (tasks : List Task) (v : Verdict) (bounds : List ℕ) → Judged bank tasks v bounds → StaysAccepted bank tasks v bounds
stays_accepted bank tasks v bounds judged tasks' raised e = subst (λ v. Judged bank tasks' v bounds) (sym e) (go (subst (λ v. Judged bank tasks v bounds) e judged))
  where
    long : length tasks' ≡ length tasks
    long = sym (length-map tasks' (λ t. t.row)) ∙ ap length raised.rows ∙ length-map tasks (λ t. t.row)

    go : Judged bank tasks (Accepted (length tasks)) bounds → Judged bank tasks' (Accepted (length tasks)) bounds
    go j = (sym long, j.1, j.2, λ i h. (raised_smallest i h (j.3 i h).0, omega (arith, (j.3 i h).1, raised.deadlines i h)))
      where
        raised_smallest : (i : ℕ) → i < length tasks → Smallest (needed bank tasks i) (get_or bounds i 0) → Smallest (needed bank tasks' i) (get_or bounds i 0)
        raised_smallest i h s = record {
          some = s.some;
          holds = omega (arith, s.holds, raised_need bank tasks tasks' raised i (get_or bounds i 0) h);
          smaller = λ l a b. omega (arith, s.smaller l a b, raised_need bank tasks tasks' raised i l h);
        }
