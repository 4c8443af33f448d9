-- What each call of a run of an accepted plan makes of its state.
use Rattle.std.specs.Prelude.{◌≡◌, ℕ, ◌+◌, ◌-◌, ◌<◌, ◌≤◌, min, cond, ◌&&◌, ◌⊎◌, Some, None, List, [], ◌∷◌, ◌==◌, nat_le}
use Rattle.source.specs.Facts.{Taken, Ticked}
use Rattle.calls.specs.declared.Call.{Call}
use Rattle.calls.specs.declared.Call.TheVariants.{Offer, Release, Hold, LetGo, End, Tick}
use Rattle.calls.specs.declared.Got.{Got}
use Rattle.calls.specs.declared.Got.TheVariants.{Nobody, Part, Task}
use Rattle.calls.specs.declared.Answer.{Answer}
use Rattle.calls.specs.declared.Answer.TheVariants as answers
use Rattle.calls.specs.Events.{Event}
use Rattle.calls.specs.States.{Plan, State, Fits}

-- an offer of u units to part k is taken: its backlog grows by them
pub record Offered (s : State) (k u : ℕ) (t : State) : Type 0 where
  pub taken : Taken s.bank k u t.bank
  pub backlog : (j : ℕ) → t.backlog j ≡ cond (j == k) (s.backlog j + u) (s.backlog j)
  pub rest : t ≡ record s { bank = t.bank; backlog = t.backlog }

-- a release of task i with u units is taken: no job of it was pending, and now one of age 0 is
pub record Released (p : Plan) (s : State) (i u : ℕ) (t : State) : Type 0 where
  pub first : 1 ≤ i
  pub last : i ≤ p.tasks.parts
  pub some : 1 ≤ u
  pub none : s.left i ≡ 0
  pub taken : Taken s.tasks i u t.tasks
  pub left : (j : ℕ) → t.left j ≡ cond (j == i) u (s.left j)
  pub age : (j : ℕ) → t.age j ≡ cond (j == i) 0 (s.age j)
  pub rest : t ≡ record s { tasks = t.tasks; left = t.left; age = t.age }

-- a hold of u units is granted to task i: nobody holds, the task is the highest that has a job, and the units are at most its
-- longest hold and at most those left of its job
pub record Granted (p : Plan) (s : State) (i u : ℕ) (t : State) : Type 0 where
  pub first : 1 ≤ i
  pub last : i ≤ p.tasks.parts
  pub nobody : s.holder ≡ 0
  pub some : 1 ≤ u
  pub short : u ≤ p.hold i
  pub within : u ≤ s.left i
  pub highest : (j : ℕ) → 1 ≤ j → j < i → s.left j ≡ 0
  pub rest : t ≡ record s { holder = i; held = u }

-- the holder lets go
pub record LetGone (s : State) (i : ℕ) (t : State) : Type 0 where
  pub holds : s.holder ≡ i
  pub rest : t ≡ record s { holder = 0; held = 0 }

-- the job of task i is ended, and any hold of that task
pub record Ended (s : State) (i : ℕ) (t : State) : Type 0 where
  pub pending : 1 ≤ s.left i
  pub left : (j : ℕ) → t.left j ≡ cond (j == i) 0 (s.left j)
  pub age : (j : ℕ) → t.age j ≡ cond (j == i) 0 (s.age j)
  pub holder : t.holder ≡ cond (s.holder == i) 0 s.holder
  pub held : t.held ≡ cond (s.holder == i) 0 s.held
  pub rest : t ≡ record s { left = t.left; age = t.age; holder = t.holder; held = t.held }

-- no part has backlog
abbrev pub Idle : Plan → State → Type 0
Idle p s = (k : ℕ) → 1 ≤ k → k ≤ p.bank.parts → s.backlog k ≡ 0

-- the one who gets the unit of a tick is the lowest-numbered part with backlog, else the holder, else the highest task that
-- has a job, else nobody
abbrev pub Due : Plan → State → Got → Type 0
Due p s (Part k) = (1 ≤ k) × (k ≤ p.bank.parts) × (1 ≤ s.backlog k) × ((j : ℕ) → 1 ≤ j → j < k → s.backlog j ≡ 0)
Due p s (Task i a) = Idle p s × (1 ≤ i) × ((s.holder ≡ i) ⊎ ((s.holder ≡ 0) × (i ≤ p.tasks.parts) × (1 ≤ s.left i) × ((j : ℕ) → 1 ≤ j → j < i → s.left j ≡ 0)))
Due p s Nobody = Idle p s × (s.holder ≡ 0) × ((i : ℕ) → 1 ≤ i → i ≤ p.tasks.parts → s.left i ≡ 0)

-- 1 for the part that got the unit, 0 for any other
abbrev pub part_unit : Got → ℕ → ℕ
part_unit (Part j) k = cond (k == j) 1 0
part_unit _ k = 0

-- 1 for the task that got the unit, 0 for any other
abbrev pub task_unit : Got → ℕ → ℕ
task_unit (Task j a) i = cond (i == j) 1 0
task_unit _ i = 0

-- the age that the answer tells: that of the job that ended with the unit, this tick included, or none
abbrev pub AgeTold : Plan → State → Got → Type 0
AgeTold p s (Task i a) = a ≡ cond (nat_le (s.left i) 1) (Some (min (s.age i + 1) p.cap)) None
AgeTold p s _ = Unit

-- the units of its hold that the holder keeps: one fewer if it got the unit
abbrev pub kept_units : State → Got → ℕ
kept_units s got = s.held - task_unit got s.holder

-- a tick: that one gets the unit, every job that is still pending is a tick older, a hold with no units or of a task with
-- no job any more is over, and the bank and the tasks tick
pub record Passed (p : Plan) (s : State) (got : Got) (t : State) : Type 0 where
  pub due : Due p s got
  pub told : AgeTold p s got
  pub backlog : (k : ℕ) → t.backlog k ≡ s.backlog k - part_unit got k
  pub left : (i : ℕ) → t.left i ≡ s.left i - task_unit got i
  pub age : (i : ℕ) → t.age i ≡ cond (nat_le 1 (t.left i)) (min (s.age i + 1) p.cap) 0
  pub holder : t.holder ≡ cond (nat_le 1 (kept_units s got) && nat_le 1 (t.left s.holder)) s.holder 0
  pub held : t.held ≡ cond (nat_le 1 (kept_units s got) && nat_le 1 (t.left s.holder)) (kept_units s got) 0
  pub bank : Ticked s.bank t.bank
  pub tasks : Ticked s.tasks t.tasks

-- what a call with that answer makes of a state; a call that is refused changes nothing, and a tick never is
abbrev pub Step : Plan → State → Call → Answer → State → Type 0
Step p s (Offer k u) answers.Done t = Offered s k u t
Step p s (Release i u) answers.Done t = Released p s i u t
Step p s (Hold i u) answers.Done t = Granted p s i u t
Step p s (LetGo i) answers.Done t = LetGone s i t
Step p s (End i) answers.Done t = Ended s i t
Step p s Tick (answers.Ticked got) t = Passed p s got t
Step p s Tick _ t = ⊥
Step p s _ (answers.Refused e) t = t ≡ s
Step p s _ _ t = ⊥

-- the log leads from the state s to the state t, one call after another
abbrev pub Leads : Plan → State → List Event → State → Type 0
Leads p s [] t = t ≡ s
Leads p s (e ∷ log) t = (m : State) × Step p s e.call e.answer m × Fits p m × Leads p m log t
