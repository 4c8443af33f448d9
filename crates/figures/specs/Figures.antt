-- The worked figures of docs/TIMING.md, but for its two longer examples, in nine groups.
use Rattle.figures.specs.Plans.{FirstBound, SecondBound, TooLate, Loads}
use Rattle.figures.specs.Worked.{EarlyPairs, LatePairs, WithJitter, CostsInTurn, Offers}

pub record Figures : Type 0 where
  pub early_pairs : EarlyPairs
  pub late_pairs : LatePairs
  pub with_jitter : WithJitter
  pub costs_in_turn : CostsInTurn
  pub first_bound : FirstBound
  pub second_bound : SecondBound
  pub too_late : TooLate
  pub loads : Loads
  pub offers : Offers
