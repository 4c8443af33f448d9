-- An accepted plan and the states of a run of it, as far as the two rules go: numbers and functions of the number of a part
-- or task, from 1.
use Rattle.std.specs.Prelude.{◌≡◌, ℕ, ◌+◌, ◌-◌, ◌<◌, ◌≤◌}
use Rattle.cycles.specs.Round.{sum}
use Rattle.source.specs.Facts.{Work, Sound}

-- f 1 + .. + f n
abbrev pub upto : (ℕ → ℕ) → ℕ → ℕ
upto f n = sum (λ k. f (k + 1)) n

-- A plan: the work of its bank and that of its tasks, which are numbered as parts are, and for each task its blocking, its longest hold,
-- its largest cost and its bound. Ages are counted up to a cap.
pub record Plan : Type 0 where
  pub bank : Work
  pub tasks : Work
  pub blocking : ℕ → ℕ
  pub hold : ℕ → ℕ
  pub cost : ℕ → ℕ
  pub bound : ℕ → ℕ
  pub cap : ℕ

-- what a window of l ticks has to hold for task i: its blocking, its largest cost, the demand of the bank and that of the
-- tasks before it
abbrev pub need : Plan → ℕ → ℕ → ℕ
need p i l = p.blocking i + p.cost i + upto (λ k. p.bank.demand k l) p.bank.parts + upto (λ j. p.tasks.demand j l) (i - 1)

-- each task has a window of at least a tick that holds its need, the bound, and none has a longer hold than the blocking of
-- a task before it
pub record Accepted (p : Plan) : Type 0 where
  pub some : (i : ℕ) → 1 ≤ i → i ≤ p.tasks.parts → 1 ≤ p.bound i
  pub holds : (i : ℕ) → 1 ≤ i → i ≤ p.tasks.parts → need p i (p.bound i) ≤ p.bound i
  pub capped : (i : ℕ) → 1 ≤ i → i ≤ p.tasks.parts → p.bound i ≤ p.cap
  pub blocked : (i j : ℕ) → 1 ≤ i → i < j → j ≤ p.tasks.parts → p.hold j ≤ p.blocking i

-- A state of a run: what each part of the bank may still bring, and each task; the backlog of each part; the units left of each
-- task's job (0 if none is pending) and its age; who holds the processor (0 if nobody does) and for how many units more.
pub record State : Type 0 where
  pub bank : ℕ → ℕ → ℕ
  pub tasks : ℕ → ℕ → ℕ
  pub backlog : ℕ → ℕ
  pub left : ℕ → ℕ
  pub age : ℕ → ℕ
  pub holder : ℕ
  pub held : ℕ

-- what holds of the bank and of the tasks in every state: neither may bring more than its demand, and no task more than one
-- cost within its bound
pub record Fits (p : Plan) (s : State) : Type 0 where
  pub bank : Sound p.bank s.bank
  pub tasks : Sound p.tasks s.tasks
  pub one : (i l : ℕ) → 1 ≤ i → i ≤ p.tasks.parts → l ≤ p.bound i → s.tasks i l ≤ p.cost i

-- a run at its start: no backlog, no job and no hold
pub record Fresh (s : State) : Type 0 where
  pub backlog : (k : ℕ) → s.backlog k ≡ 0
  pub left : (i : ℕ) → s.left i ≡ 0
  pub age : (i : ℕ) → s.age i ≡ 0
  pub holder : s.holder ≡ 0
  pub held : s.held ≡ 0
