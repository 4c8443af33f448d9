-- The two rules that the log of a run keeps.
use Rattle.std.specs.Prelude.{◌≡◌, ℕ, ◌<◌, ◌≤◌, List, ◌∷◌, ◌++◌, Option, Some, IfSome}
use Rattle.calls.specs.declared.Call.TheVariants.{Tick}
use Rattle.calls.specs.declared.Got.TheVariants.{Task}
use Rattle.calls.specs.declared.Answer.{Answer}
use Rattle.calls.specs.declared.Answer.TheVariants.{Ticked}
use Rattle.calls.specs.Events.{Event, ticks, let_in_part, let_in_task, then_tick}
use Rattle.calls.specs.Jobs.{Job, job_of, end_age}

-- Never late. Cut the log anywhere: a job that is pending there has units left, and its age is below its task's bound. And a
-- tick that gave its unit to a task answers the age, this tick included, of the job whose last unit that was, or none
-- if it was no job's last unit; that age is at most the bound.
pub record NeverLate (bound : ℕ → ℕ) (log : List Event) : Type 0 where
  pub pending : (before rest : List Event) (i : ℕ) (job : Job) → log ≡ before ++ rest → job_of i before ≡ Some job → (1 ≤ job.left) × (job.age < bound i)
  pub ended : (before rest : List Event) (i : ℕ) (a : Option ℕ) → log ≡ before ++ (record { call = Tick; answer = Ticked (Task i a) } ∷ rest) → (a ≡ end_age (job_of i before)) × IfSome a (λ age. age ≤ bound i)

-- Never more than the demand. Cut any stretch that ends on a tick out of the log: what it lets in for a part is at most the
-- demand of that part over the ticks of the stretch, and what it lets in for a task is at most the demand of that task.
pub record NeverMore (demand task_demand : ℕ → ℕ → ℕ) (log : List Event) : Type 0 where
  pub parts : (before stretch rest : List Event) (a : Answer) (k : ℕ) → log ≡ before ++ then_tick stretch a ++ rest → let_in_part k (then_tick stretch a) ≤ demand k (ticks (then_tick stretch a))
  pub tasks : (before stretch rest : List Event) (a : Answer) (i : ℕ) → log ≡ before ++ then_tick stretch a ++ rest → let_in_task i (then_tick stretch a) ≤ task_demand i (ticks (then_tick stretch a))
