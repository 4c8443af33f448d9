-- Which rules a call of a run breaks, each rule on its own and told by its fault. What a call is refused with is held against them: the
-- fault of a broken rule, the one with the smallest number.
use Rattle.std.specs.Prelude.{◌≡◌, ◌≢◌, ℕ, ◌+◌, ◌<◌, ◌≤◌, ◌⊎◌, None, length}
use Rattle.std.specs.List.{sum}
use Rattle.refusal.specs.declared.Fault.{Fault}
use Rattle.refusal.specs.declared.Fault.TheVariants.{NotAccepted, NoSuchNumber, UnitsNotAllowed, BacklogFull, HoldNotGranted, NothingToEnd, JobPending}
use Rattle.source.specs.Facts.{Work}
use Rattle.run.specs.Runs.{Now, HighestPending, tasks_allowed}
use Rattle.run.specs.States.{holder, hold_of, left_of}

-- k is not from 1 to n
abbrev pub Outside : ℕ → ℕ → Type 0
Outside n k = (k ≡ 0) ⊎ (n < k)

module _ {S : Type 0} where
  -- A tick: the plan of the run is not accepted, so the run has no number of parts. That breaks every call.
  abbrev pub TickBreaks : Now S → Fault → Type 0
  TickBreaks r NotAccepted = r.parts ≡ None
  TickBreaks r other = ⊥

  -- An offer of u units to part k: the bank has no such part; the units are not from 1 to what the part may bring in this tick; with them
  -- more than 1,000,000 units would wait in all backlogs.
  abbrev pub OfferBreaks : (S → Work) → (S → ℕ → ℕ → ℕ) → Now S → ℕ → ℕ → Fault → Type 0
  OfferBreaks work allowed r k u NotAccepted = r.parts ≡ None
  OfferBreaks work allowed r k u NoSuchNumber = Outside (work r.bank).parts k
  OfferBreaks work allowed r k u UnitsNotAllowed = Outside (allowed r.bank k 1) u
  OfferBreaks work allowed r k u BacklogFull = 1000000 < sum r.state.backlogs + u
  OfferBreaks work allowed r k u other = ⊥

  -- A release of task i with u units: there is no such task; the units are not from 1 to what the task may bring in this tick; a job of it
  -- is pending.
  abbrev pub ReleaseBreaks : Now S → ℕ → ℕ → Fault → Type 0
  ReleaseBreaks r i u NotAccepted = r.parts ≡ None
  ReleaseBreaks r i u NoSuchNumber = Outside (length r.tasks) i
  ReleaseBreaks r i u UnitsNotAllowed = Outside (tasks_allowed r i 1) u
  ReleaseBreaks r i u JobPending = 1 ≤ left_of r.state.jobs i
  ReleaseBreaks r i u other = ⊥

  -- A hold of u units for task i: there is no such task; somebody holds, the task is not the highest with a pending job, or the units are
  -- not from 1 to its longest hold or not from 1 to those left of its job.
  abbrev pub HoldBreaks : Now S → ℕ → ℕ → Fault → Type 0
  HoldBreaks r i u NotAccepted = r.parts ≡ None
  HoldBreaks r i u NoSuchNumber = Outside (length r.tasks) i
  HoldBreaks r i u HoldNotGranted = (1 ≤ holder r.state) ⊎ (HighestPending r i → ⊥) ⊎ Outside (hold_of r.tasks i) u ⊎ Outside (left_of r.state.jobs i) u
  HoldBreaks r i u other = ⊥

  -- Task i lets go: there is no such task; it does not hold.
  abbrev pub LetGoBreaks : Now S → ℕ → Fault → Type 0
  LetGoBreaks r i NotAccepted = r.parts ≡ None
  LetGoBreaks r i NoSuchNumber = Outside (length r.tasks) i
  LetGoBreaks r i NothingToEnd = holder r.state ≢ i
  LetGoBreaks r i other = ⊥

  -- The job of task i is ended: there is no such task; it has no job.
  abbrev pub EndBreaks : Now S → ℕ → Fault → Type 0
  EndBreaks r i NotAccepted = r.parts ≡ None
  EndBreaks r i NoSuchNumber = Outside (length r.tasks) i
  EndBreaks r i NothingToEnd = left_of r.state.jobs i ≡ 0
  EndBreaks r i other = ⊥
