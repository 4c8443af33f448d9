use Rattle.std.proofs.Common.{◌≡◌, ℕ, zero, suc, ◌+◌, ◌*◌, ◌<◌, ◌≤◌, ◌≢◌, ◌⊎◌, [], ◌∷◌, get_or, refl, inl, inr, arith, lit≤}
use Rattle.std.specs.Fmt.{digits}
use Rattle.arrivals.specs.Times.{Explains, Explained}
use Rattle.plan.specs.Judged.{Raised}
use Rattle.plan.specs.Tasks.{task_at}
use Rattle.figures.specs.Plans.{tasks}
use Rattle.figures.proofs.premises.premises_hold.Goals as goal

raised : Raised (tasks 15) (tasks 20)
raised = record { rows = refl; blockings = blockings; deadlines = deadlines }
  where
    blockings : (i : ℕ) → i < 2 → (task_at (tasks 20) i).limit.blocking ≡ (task_at (tasks 15) i).limit.blocking
    blockings zero h = refl
    blockings (suc zero) h = refl
    blockings (suc (suc i)) h = refl

    deadlines : (i : ℕ) → i < 2 → (task_at (tasks 15) i).limit.deadline ≤ (task_at (tasks 20) i).limit.deadline
    deadlines zero h = lit≤ tt
    deadlines (suc zero) h = lit≤ tt
    deadlines (suc (suc i)) h = absurd (omega arith)

-- arrivals at the times 0 and 10
abbrev times : ℕ → ℕ
times zero = 0
times (suc i) = 10

explains : Explains 10 2 (2 ∷ 10 ∷ []) times
explains = record { before = before; within = within; apart = apart }
  where
    before : (i : ℕ) → i < 2 → times i ≤ get_or (2 ∷ 10 ∷ []) i 0
    before zero h = lit≤ tt
    before (suc zero) h = lit≤ tt
    before (suc (suc i)) h = absurd (omega arith)

    within : (i : ℕ) → i < 2 → get_or (2 ∷ 10 ∷ []) i 0 ≤ times i + 2
    within zero h = lit≤ tt
    within (suc zero) h = lit≤ tt
    within (suc (suc i)) h = absurd (omega arith)

    apart : (i j : ℕ) → i < 2 → j < 2 → (i ≢ j) → (times i + 10 ≤ times j) ⊎ (times j + 10 ≤ times i)
    apart zero zero a b ne = absurd (ne refl)
    apart zero (suc j) a b ne = inl (lit≤ tt)
    apart (suc i) zero a b ne = inr (lit≤ tt)
    apart (suc zero) (suc zero) a b ne = absurd (ne refl)
    apart (suc zero) (suc (suc j)) a b ne = absurd (omega arith)
    apart (suc (suc i)) (suc j) a b ne = absurd (omega arith)

unexplained : Explained 10 2 (2 ∷ 9 ∷ []) → ⊥
unexplained x =
    let a = x.0 in
    let e = x.1 in
    let one = e.before 1 (lit≤ tt) in
    let none = e.before 0 (lit≤ tt) in
    elim (e.apart 0 1 (lit≤ tt) (lit≤ tt) (λ same. absurd (omega (arith, same)))) [ inl l ↦ absurd (omega (arith, l, one)) | inr r ↦ absurd (omega (arith, r, none)) ]

least : (m : ℕ) → 50000 ≤ m * 12 → 4167 ≤ m
least m h = omega (arith, h)

pub returns : goal.returns
unfolding digits
returns c = record {
  raised = raised;
  no_task = inl refl;
  many_parts = inr (lit≤ tt);
  explained = (times, explains);
  unexplained = unexplained;
  number = (refl, lit≤ tt);
  line = refl;
  sayable = (refl, refl);
  call = refl;
  small = refl;
  words = record { some = lit≤ tt; apart = refl; whole = refl };
  lines = record { some = lit≤ tt; apart = refl; whole = refl };
  rounded = record { enough = lit≤ tt; least = least };
}
