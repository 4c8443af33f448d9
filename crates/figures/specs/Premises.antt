-- What the promises begin with can hold: for each that says "if" or "for every", a case in which that holds. The other cases stand
-- among the worked figures, and in the example of crate guarantee.
use Rattle.std.specs.Prelude.{◌≡◌, [], ◌∷◌, codes}
use Rattle.loads.specs.Share.{RoundedUp}
use Rattle.arrivals.specs.Times.{Explained}
use Rattle.plan.specs.Judged.{Judged, Raised}
use Rattle.plan.specs.declared.verdict.Verdict.TheVariants.{NotJudgeable}
use Rattle.words.specs.Numbers.{Writes}
use Rattle.words.specs.Split.{Cut}
use Rattle.lines.specs.Rows.{at, written, Sayable}
use Rattle.calls.specs.declared.Call.TheVariants.{Offer}
use Rattle.transcript.specs.Calls as calls
use Rattle.figures.specs.Plans.{bank, tasks}

pub record Premises : Type 0 where
  -- deadlines raised, as in the law that an accepted plan stays accepted
  pub raised : Raised (tasks 15) (tasks 20)
  -- a plan that cannot be judged: one with no task, and one over 17 parts
  pub no_task : Judged bank [] NotJudgeable []
  pub many_parts : Judged (record bank { parts = 17 }) (tasks 15) NotJudgeable []
  -- period 10 and jitter 2: offers 8 ticks apart have arrival times, offers 7 ticks apart have none
  pub explained : Explained 10 2 (2 ∷ 10 ∷ [])
  pub unexplained : Explained 10 2 (2 ∷ 9 ∷ []) → ⊥
  -- a number, a line and a call with what they write
  pub number : Writes (codes "1000000") 1000000
  pub line : codes "at 5 2" ≡ written (at 5 2)
  pub sayable : Sayable (at 5 2)
  pub call : codes "offer 1 2" ≡ calls.written (Offer 1 2)
  pub small : calls.Small (Offer 1 2)
  -- the words of a line, and the lines of a sheet
  pub words : Cut 32 (codes "at 5 2") (codes "at" ∷ codes "5" ∷ codes "2" ∷ [])
  pub lines : Cut 10 (97 ∷ 10 ∷ 98 ∷ 10 ∷ []) ((97 ∷ []) ∷ (98 ∷ []) ∷ [] ∷ [])
  -- five units in twelve ticks, in ten-thousandths and rounded up
  pub rounded : RoundedUp 50000 12 4167
