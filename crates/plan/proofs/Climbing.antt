-- The need of a task rises with the window, so a window that is too small can be left for what is needed in it.
use Rattle.std.proofs.Common.{ℕ, ◌<◌, ◌≤◌, List, inl, inr, arith}
use Rattle.std.proofs.lemmas.Bool.{cases_lt}
use Rattle.source.specs.Facts.{Work, Sound}
use Rattle.plan.specs.Needs.{needed}
use Rattle.plan.specs.Tasks.{Task, Fitting}
use Rattle.plan.proofs.Sides.{tasks_sound}
use Rattle.plan.proofs.Totals.{total_rises}

-- what a task of a plan needs
pub task_rises : (bank : Work) (a : ℕ → ℕ → ℕ) → Sound bank a → (tasks : List Task) → Fitting tasks → (i l l' : ℕ) → l ≤ l' → needed bank tasks i l ≤ needed bank tasks i l'
task_rises bank a sound tasks fitting i l l' h = omega (arith, total_rises bank a sound bank.parts l l' h, total_rises _ _ (tasks_sound tasks fitting) i l l' h)

module _ (f : ℕ → ℕ) (rises : (l m : ℕ) → l ≤ m → f l ≤ f m) (t : ℕ) (passed : (m : ℕ) → 1 ≤ m → m < t → m < f m) where
  -- every window below what is needed in t is too small
  pub climbs : (m : ℕ) → 1 ≤ m → m < f t → m < f m
  climbs m h l = elim (cases_lt m t) [ inl below ↦ passed m h below | inr up ↦ omega (arith, rises t m up) ]

  -- where more is needed than the deadline, no window is within it
  pub none_within : (d : ℕ) → d < f t → (m : ℕ) → 1 ≤ m → m ≤ d → m < f m
  none_within d late m h l = climbs m h (omega arith)
