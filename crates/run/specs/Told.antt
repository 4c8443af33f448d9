-- What the answer to a tick tells in numbers, held against the run before the tick.
use Rattle.std.specs.Prelude.{◌≡◌, ℕ, ◌+◌, ◌<◌, ◌≤◌, ◌⊎◌, min, length}
use Rattle.source.specs.Facts.{Work}
use Rattle.calls.specs.Told.{Told}
use Rattle.run.specs.Runs.{Now, HighestPending, LowestWaiting}
use Rattle.run.specs.States.{age_of, backlog_of, holder, left_of}

module _ {S : Type 0} (work : S → Work) (r : Now S) where
  -- no part of the bank has backlog
  abbrev pub NoBacklog : Type 0
  NoBacklog = (k : ℕ) → 1 ≤ k → k ≤ (work r.bank).parts → backlog_of r.state.backlogs k ≡ 0

  -- no task has a pending job
  abbrev pub NoJob : Type 0
  NoJob = (i : ℕ) → 1 ≤ i → i ≤ length r.tasks → left_of r.state.jobs i ≡ 0

  -- the lowest-numbered part with backlog got the unit
  pub record PartTold (t : Told) : Type 0 where
    pub who : t.who ≡ 1
    pub lowest : LowestWaiting work r t.number
    pub age : t.age ≡ 0

  -- No part has backlog, and the holder got the unit, or where nobody holds the highest task with a pending job. If the unit is the last of
  -- its job, the age of that job is told, this tick included, or the largest that there is room for; else 0 is.
  pub record TaskTold (t : Told) : Type 0 where
    pub who : t.who ≡ 2
    pub idle : NoBacklog
    pub task : (1 ≤ t.number) × (t.number ≤ length r.tasks)
    pub foremost : (holder r.state ≡ t.number) ⊎ ((holder r.state ≡ 0) × HighestPending r t.number)
    pub pending : 1 ≤ left_of r.state.jobs t.number
    pub last : left_of r.state.jobs t.number ≡ 1 → t.age ≡ min (age_of r.state.jobs t.number + 1) 4294967295
    pub more : 1 < left_of r.state.jobs t.number → t.age ≡ 0

  -- no part has backlog, nobody holds and no task has a pending job, and nobody got the unit
  pub record NobodyTold (t : Told) : Type 0 where
    pub told : t ≡ record { who = 0; number = 0; age = 0 }
    pub idle : NoBacklog
    pub nobody : holder r.state ≡ 0
    pub none : NoJob

  -- one of the three
  abbrev pub TickTold : Told → Type 0
  TickTold t = PartTold t ⊎ TaskTold t ⊎ NobodyTold t
