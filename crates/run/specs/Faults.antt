-- Why a call of a run is refused: each rule that it may break, the smallest number first. The plan of the run is accepted if
-- there is a number of parts.
use Rattle.std.specs.Prelude.{ℕ, ◌+◌, Bool, cond, ◌&&◌, List, Some, None, Option, is_some, is_none, length, unwrap_or, nat_eq, nat_le}
use Rattle.std.specs.List.{sum}
use Rattle.std.specs.Option.{option_eq, option_or}
use Rattle.refusal.specs.Refusals.{refusal_of, named_refusal}
use Rattle.refusal.specs.declared.Fault.{Fault}
use Rattle.refusal.specs.declared.Fault.TheVariants.{NotAccepted, NoSuchNumber, UnitsNotAllowed, BacklogFull, HoldNotGranted, NothingToEnd, JobPending}
use Rattle.refusal.specs.declared.Refusal.{Refusal}
use Rattle.source.specs.Facts.{is_part}
use Rattle.plan.specs.Tasks.{Task}
use Rattle.run.specs.Runs.{Now, tasks_allowed}
use Rattle.run.specs.States.{left_of, hold_of, holds, first_pending}
use Rattle.run.specs.declared.state.State.{State}

-- what is wrong with a number that has to be from 1 to n: that fault, if it is not
abbrev pub range_fault : Fault → ℕ → ℕ → Option Fault
range_fault fault n k = cond (is_part n k) None (Some fault)

-- what is wrong with u units of a part or task that may bring `most` in this tick
abbrev pub units_fault : ℕ → ℕ → Option Fault
units_fault most u = range_fault UnitsNotAllowed most u

-- a hold of u units is granted to task i: nobody holds, the task is the highest with a pending job, and the units are
-- from 1 to its longest hold and to those left of its job
abbrev pub grantable : List Task → State → ℕ → ℕ → Bool
grantable tasks s i u = is_none s.hold && (option_eq nat_eq (first_pending s.jobs (length tasks)) (Some i) && (nat_le 1 u && (nat_le u (hold_of tasks i) && nat_le u (left_of s.jobs i))))

module _ {S : Type 0} where
  -- what is wrong with a tick: the plan of the run has to be accepted
  abbrev pub tick_fault : Now S → Option Fault
  tick_fault r = cond (is_some r.parts) None (Some NotAccepted)

  -- what is wrong with number k of n parts or tasks of a run
  abbrev pub numbered_fault : Now S → ℕ → ℕ → Option Fault
  numbered_fault r n k = option_or (tick_fault r) (range_fault NoSuchNumber n k)

  -- with task i
  abbrev pub named_fault : Now S → ℕ → Option Fault
  named_fault r i = numbered_fault r (length r.tasks) i

  -- an offer of u units to part k of a bank with that allowance: all backlogs together stay within 1,000,000 units
  abbrev pub offer_fault : (S → ℕ → ℕ → ℕ) → Now S → ℕ → ℕ → Option Fault
  offer_fault allowed r k u = option_or (numbered_fault r (unwrap_or r.parts 0) k) (option_or (units_fault (allowed r.bank k 1) u) (cond (nat_le (sum r.state.backlogs + u) 1000000) None (Some BacklogFull)))

  -- a release of task i with u units: no job of it may be pending
  abbrev pub release_fault : Now S → ℕ → ℕ → Option Fault
  release_fault r i u = option_or (named_fault r i) (option_or (units_fault (tasks_allowed r i 1) u) (cond (nat_eq (left_of r.state.jobs i) 0) None (Some JobPending)))

  -- a hold of u units for task i
  abbrev pub hold_fault : Now S → ℕ → ℕ → Option Fault
  hold_fault r i u = option_or (named_fault r i) (cond (grantable r.tasks r.state i u) None (Some HoldNotGranted))

  -- task i lets go: it has to be the holder
  abbrev pub let_go_fault : Now S → ℕ → Option Fault
  let_go_fault r i = option_or (named_fault r i) (cond (holds r.state.hold i) None (Some NothingToEnd))

  -- the job of task i is ended: one has to be pending
  abbrev pub end_fault : Now S → ℕ → Option Fault
  end_fault r i = option_or (named_fault r i) (cond (nat_le 1 (left_of r.state.jobs i)) None (Some NothingToEnd))

  -- the refusals that the calls give for these faults: of no line, and of the task that is named if the fault is one of a task
  abbrev pub offer_refusal : (S → ℕ → ℕ → ℕ) → Now S → ℕ → ℕ → Option Refusal
  offer_refusal allowed r k u = refusal_of (offer_fault allowed r k u) 0

  abbrev pub release_refusal : Now S → ℕ → ℕ → Option Refusal
  release_refusal r i u = named_refusal (release_fault r i u) i

  abbrev pub hold_refusal : Now S → ℕ → ℕ → Option Refusal
  hold_refusal r i u = named_refusal (hold_fault r i u) i

  abbrev pub let_go_refusal : Now S → ℕ → Option Refusal
  let_go_refusal r i = named_refusal (let_go_fault r i) i

  abbrev pub end_refusal : Now S → ℕ → Option Refusal
  end_refusal r i = named_refusal (end_fault r i) i

  abbrev pub tick_refusal : Now S → Option Refusal
  tick_refusal r = refusal_of (tick_fault r) 0
