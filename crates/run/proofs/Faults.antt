-- What is known where a call has no fault.
use Rattle.std.proofs.Common.{◌≡◌, ℕ, ◌+◌, ◌≤◌, Bool, true, cond, ◌&&◌, leb, length, Some, None, Option, refl, sym, arith}
use Rattle.std.specs.List.{sum}
use Rattle.std.specs.Option.{ForSome, option_eq, option_or}
use Rattle.std.specs.Prelude.{nat_eq, is_none, is_some, unwrap_or}
use Rattle.std.proofs.lemmas.Bool.{leb-true, eqb-true, and_parts}
use Rattle.refusal.specs.declared.Fault.{Fault}
use Rattle.refusal.specs.declared.Fault.TheVariants.{NotAccepted, NoSuchNumber, UnitsNotAllowed, BacklogFull, HoldNotGranted, NothingToEnd, JobPending}
use Rattle.source.specs.Facts.{is_part}
use Rattle.source.proofs.Parts.{part_bounds}
use Rattle.paced.proofs.Makings.{passed}
use Rattle.run.specs.Faults.{tick_fault, range_fault, units_fault, numbered_fault, offer_fault, release_fault, grantable, hold_fault, let_go_fault, end_fault}
use Rattle.run.specs.Runs.{Now, tasks_allowed}
use Rattle.run.specs.States.{left_of, hold_of, holds, holder, holder_in, first_pending, Within}
use Rattle.run.specs.declared.state.Hold.{Hold}
use Rattle.run.proofs.Steady.{never, nothing}

-- of two tests neither found a fault
neither : (a b : Option Fault) → option_or a b ≡ None → (a ≡ None) × (b ≡ None)
neither None b e = (refl, e)
neither (Some f) b e = nothing (sym e)

no_fault : (b : Bool) (f : Fault) → cond b None (Some f) ≡ None → b ≡ true
no_fault b f e = (passed b None f e).0

-- a run that is accepted, and a number of a part or task that there is
numbered : {S : Type 0} (r : Now S) (n i : ℕ) (rest : Option Fault) → option_or (numbered_fault r n i) rest ≡ None → (1 ≤ i) × (i ≤ n) × (rest ≡ None)
numbered r n i rest e =
    let all = neither (numbered_fault r n i) rest e in
    let number = neither (tick_fault r) (range_fault NoSuchNumber n i) all.0 in
    let bounds = part_bounds n i (no_fault (is_part n i) NoSuchNumber number.1) in
    (bounds.0, bounds.1, all.1)

-- units that may be brought
units_of : (most u : ℕ) (rest : Option Fault) → option_or (units_fault most u) rest ≡ None → (1 ≤ u) × (u ≤ most) × (rest ≡ None)
units_of most u rest e =
    let all = neither (units_fault most u) rest e in
    let both = and_parts (leb 1 u) (leb u most) (no_fault (leb 1 u && leb u most) UnitsNotAllowed all.0) in
    (leb-true 1 u both.0, leb-true u most both.1, all.1)

-- there are no more parts than there are places for
pub parts_few : (parts : Option ℕ) → ForSome parts (λ n. n ≤ 16) → unwrap_or parts 0 ≤ 16
parts_few None few = omega arith
parts_few (Some n) few = few n refl

pub nobody_holds : (h : Option Hold) → is_none h ≡ true → h ≡ None
nobody_holds None e = refl
nobody_holds (Some h) e = never e

pub same_number : (o : Option ℕ) (i : ℕ) → option_eq nat_eq o (Some i) ≡ true → o ≡ Some i
same_number None i e = never e
same_number (Some j) i e = λ k. Some (eqb-true j i e k)

-- what is known of an offer, a release and a hold without a fault
pub record Offerable {S : Type 0} (r : Now S) (most k u : ℕ) : Type 0 where
  pub first : 1 ≤ k
  pub last : k ≤ unwrap_or r.parts 0
  pub some : 1 ≤ u
  pub allowed : u ≤ most
  pub room : sum r.state.backlogs + u ≤ 1000000

pub record Releasable {S : Type 0} (r : Now S) (i u : ℕ) : Type 0 where
  pub first : 1 ≤ i
  pub last : i ≤ length r.tasks
  pub some : 1 ≤ u
  pub allowed : u ≤ tasks_allowed r i 1
  pub none : left_of r.state.jobs i ≡ 0

pub record Holdable {S : Type 0} (r : Now S) (i u : ℕ) : Type 0 where
  pub first : 1 ≤ i
  pub last : i ≤ length r.tasks
  pub nobody : r.state.hold ≡ None
  pub highest : first_pending r.state.jobs (length r.tasks) ≡ Some i
  pub some : 1 ≤ u
  pub short : u ≤ hold_of r.tasks i
  pub within : u ≤ left_of r.state.jobs i

module _ {S : Type 0} (r : Now S) where
  -- the plan of a run that ticks is accepted
  pub accepted_parts : tick_fault r ≡ None → r.parts ≡ Some (unwrap_or r.parts 0)
  accepted_parts e = go r.parts (no_fault (is_some r.parts) NotAccepted e)
    where
      go : (o : Option ℕ) → is_some o ≡ true → o ≡ Some (unwrap_or o 0)
      go None e = never e
      go (Some n) e = refl

  pub offerable : (allowed : S → ℕ → ℕ → ℕ) (k u : ℕ) → offer_fault allowed r k u ≡ None → Offerable r (allowed r.bank k 1) k u
  offerable allowed k u none =
      let full : Option Fault = cond (leb (sum r.state.backlogs + u) 1000000) None (Some BacklogFull) in
      let most = allowed r.bank k 1 in
      let part = numbered r (unwrap_or r.parts 0) k (option_or (units_fault most u) full) none in
      let units = units_of most u full part.2 in
      record { first = part.0; last = part.1; some = units.0; allowed = units.1; room = leb-true (sum r.state.backlogs + u) 1000000 (no_fault (leb (sum r.state.backlogs + u) 1000000) BacklogFull units.2) }

  pub releasable : (i u : ℕ) → release_fault r i u ≡ None → Releasable r i u
  releasable i u none =
      let most = tasks_allowed r i 1 in
      let pending : Option Fault = cond (nat_eq (left_of r.state.jobs i) 0) None (Some JobPending) in
      let task = numbered r (length r.tasks) i (option_or (units_fault most u) pending) none in
      let units = units_of most u pending task.2 in
      record { first = task.0; last = task.1; some = units.0; allowed = units.1; none = eqb-true (left_of r.state.jobs i) 0 (no_fault (nat_eq (left_of r.state.jobs i) 0) JobPending units.2) }

  pub holdable : (i u : ℕ) → hold_fault r i u ≡ None → Holdable r i u
  holdable i u none =
      let s = r.state in
      let n = length r.tasks in
      let task = numbered r n i (cond (grantable r.tasks s i u) None (Some HoldNotGranted)) none in
      let granted = no_fault (grantable r.tasks s i u) HoldNotGranted task.2 in
      let d = leb u (hold_of r.tasks i) && leb u (left_of s.jobs i) in
      let c = leb 1 u && d in
      let b = option_eq nat_eq (first_pending s.jobs n) (Some i) && c in
      let free = and_parts (is_none s.hold) b granted in
      let first = and_parts (option_eq nat_eq (first_pending s.jobs n) (Some i)) c free.1 in
      let units = and_parts (leb 1 u) d first.1 in
      let bounds = and_parts (leb u (hold_of r.tasks i)) (leb u (left_of s.jobs i)) units.1 in
      record {
        first = task.0;
        last = task.1;
        nobody = nobody_holds s.hold free.0;
        highest = same_number (first_pending s.jobs n) i first.0;
        some = leb-true 1 u units.0;
        short = leb-true u (hold_of r.tasks i) bounds.0;
        within = leb-true u (left_of s.jobs i) bounds.1;
      }

  -- a hold that is granted is one that a run may have
  abbrev pub WithinHere : Hold → Type 0
  WithinHere h = Within r.tasks r.state.jobs h

  pub holdable_within : (i u : ℕ) → Holdable r i u → WithinHere (record { task = i; units = u })
  holdable_within i u task = record { first = task.first; last = task.last; left = task.within; short = task.short }

  -- the task that lets go is the holder
  pub holding : (i : ℕ) → let_go_fault r i ≡ None → holder r.state ≡ i
  holding i none = go r.state.hold (no_fault (holds r.state.hold i) NothingToEnd (numbered r (length r.tasks) i (cond (holds r.state.hold i) None (Some NothingToEnd)) none).2)
    where
      go : (o : Option Hold) → holds o i ≡ true → holder_in o ≡ i
      go None e = never e
      go (Some h) e = eqb-true h.task i e

  pub endable : (i : ℕ) → end_fault r i ≡ None → (1 ≤ i) × (i ≤ length r.tasks) × (1 ≤ left_of r.state.jobs i)
  endable i none =
      let left = left_of r.state.jobs i in
      let task = numbered r (length r.tasks) i (cond (leb 1 left) None (Some NothingToEnd)) none in
      (task.0, task.1, leb-true 1 left (no_fault (leb 1 left) NothingToEnd task.2))
