-- What a paced part makes of one step after another.
use Rattle.std.specs.Prelude.{ℕ, Bool, true, cond, ◌&&◌, List, [], ◌∷◌, nat_le}
use Rattle.paced.specs.Pace.{allowance, given, later}
use Rattle.paced.specs.declared.row.Row.{Row}
use Rattle.arrivals.specs.declared.Step.{Step}
use Rattle.arrivals.specs.declared.Step.TheVariants.{Tick, Offer}

-- an offer of u units is taken exactly when u is from 1 to the allowance for one tick
abbrev pub takes : Row → ℕ → Bool
takes r u = nat_le 1 u && nat_le u (allowance r 1)

-- whether the step is taken; a tick always is
abbrev pub answer : Row → Step → Bool
answer r Tick = true
answer r (Offer u) = takes r u

-- the row after the step; an offer that is not taken changes nothing
abbrev pub after : Row → Step → Row
after r Tick = later r
after r (Offer u) = cond (takes r u) (given r) r

-- the answers to the steps, one after another, each in its place in a list that stands ready: steps for which there is
-- no place are not made, and places for which there is no step stay as they are
abbrev pub played : Row → List Step → List Bool → List Bool
played r [] places = places
played r (step ∷ steps) [] = []
played r (step ∷ steps) (place ∷ places) = answer r step ∷ played (after r step) steps places

-- the row after the steps for which there is a place
abbrev pub moved : Row → List Step → List Bool → Row
moved r [] places = r
moved r (step ∷ steps) [] = r
moved r (step ∷ steps) (place ∷ places) = moved (after r step) steps places
