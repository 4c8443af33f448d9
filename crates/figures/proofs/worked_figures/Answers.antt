use Rattle.std.proofs.Common.{ℕ, zero, suc, ◌+◌, ◌<◌, ◌≡◌, [], ◌∷◌, get_or, refl, arith, lit≤}
use Rattle.std.specs.Fmt.{digits}
use Rattle.plan.specs.Judged.{Bounded, Judged, Unbounded}
use Rattle.plan.specs.Needs.{needed}
use Rattle.plan.specs.declared.verdict.Verdict.TheVariants.{Accepted, Late}
use Rattle.figures.specs.Plans.{bank, tasks, FirstBound}
use Rattle.figures.proofs.Below.{each_too_small}
use Rattle.figures.proofs.worked_figures.Goals as goal

first : FirstBound
first = (record { some = lit≤ tt; holds = lit≤ tt; smaller = each_too_small (needed bank (tasks 15) 0) 11 refl }, lit≤ tt)

second : Bounded bank (tasks 15) 1 12
second = (record { some = lit≤ tt; holds = lit≤ tt; smaller = each_too_small (needed bank (tasks 15) 1) 12 refl }, lit≤ tt)

bounded : (i : ℕ) → i < 2 → Bounded bank (tasks 15) i (get_or (11 ∷ 12 ∷ []) i 0)
bounded zero h = first
bounded (suc zero) h = second
bounded (suc (suc i)) h = absurd (omega arith)

accepted : Judged bank (tasks 15) (Accepted 2) (11 ∷ 12 ∷ [])
accepted = (refl, lit≤ tt, lit≤ tt, bounded)

unbounded : (i : ℕ) → i + 1 ≡ 1 → Unbounded bank (tasks 10) i
unbounded zero e l h k = each_too_small (needed bank (tasks 10) 0) 11 refl l h (omega arith)
unbounded (suc i) e l h k = absurd (omega arith)

late : Judged bank (tasks 10) (Late 1) []
late = (lit≤ tt, lit≤ tt, lit≤ tt, (λ i h. absurd (omega arith)), unbounded)

pub returns : goal.returns
unfolding digits
returns c = record {
  early_pairs = record { over_5 = refl; over_6 = refl; over_12 = refl; over_13 = refl };
  late_pairs = record { over_2 = refl; over_3 = refl };
  with_jitter = record { over_8 = refl; over_9 = refl; over_18 = refl; over_19 = refl };
  costs_in_turn = record { over_5 = refl; over_10 = refl; over_30 = refl };
  first_bound = first;
  second_bound = record { bound = second; judged = accepted };
  too_late = record { judged = late; listed = (Late 1, [], late, refl) };
  loads = record { schedule = refl; task = refl; listed = (Accepted 2, 11 ∷ 12 ∷ [], accepted, refl) };
  offers = record { at_start = refl; after_7 = refl; after_8 = refl };
}
