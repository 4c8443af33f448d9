-- What a row is read off by, after some calls of a log.
use Rattle.std.specs.Prelude.{◌≡◌, ℕ, ◌+◌, ◌*◌, ◌≤◌, List, [], ◌∷◌, ◌++◌, length}
use Rattle.calls.specs.declared.Answer.{Answer}
use Rattle.calls.specs.declared.Call.{Call}
use Rattle.calls.specs.declared.Got.{Got}
use Rattle.calls.specs.Events.{Event, let_in_part}
use Rattle.timeline.specs.Rows.{added, given, passed}

-- the tick that comes next has this number
pub record Numbered (log : List Event) (next : ℕ) : Type 0 where
  pub after : next ≡ passed log + 1
  pub few : next ≤ length log + 1

-- so many units were let in for part k, and so many it got, at most 2 ^ 64 - 1 a call
pub record Counted (k : ℕ) (log : List Event) (units got : ℕ) : Type 0 where
  pub let_in : units ≡ let_in_part k log
  pub given : got ≡ given k log
  pub few : units ≤ length log * 18446744073709551615
  pub fewer : got ≤ length log * 18446744073709551615

-- what a track went along, it went along with one call more: went says that a track went from a start along a log
abbrev pub GoesOn : {T : Type 0} → (T → List Event → T → Type 0) → T → Call → Answer → T → Type 0
GoesOn {T} went track call answer track' =
    (start : T) (log : List Event) → went start log track → went start (log ++ (record { call = call; answer = answer } ∷ [])) track'

-- A row grows by what a call with that answer adds to it, whichever start and log have brought the track to where it is: cell gives
-- the cells of a track that began so, and went says that a track went from a start along a log.
abbrev pub AddsCell : {T : Type 0} → (T → List Event → Got → ℕ) → (T → List Event → T → Type 0) → T → Call → Answer → List ℕ → List ℕ → Type 0
AddsCell {T} cell went track call answer row row' =
    (start : T) (log : List Event) → went start log track → row' ≡ row ++ added (cell start log) call answer
