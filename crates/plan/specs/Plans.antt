-- A plan, as it takes tasks and after it was judged.
use Rattle.std.specs.Prelude.{◌≡◌, ℕ, List, length}
use Rattle.source.specs.Facts.{Work}
use Rattle.plan.specs.Judged.{Judged, Filled}
use Rattle.plan.specs.Tasks.{Task, Fitting}
use Rattle.plan.specs.declared.verdict.Verdict.{Verdict}

-- a bank, and the tasks below it
pub record Plan (S : Type 0) : Type 0 where
  pub bank : S
  pub tasks : List Task

-- a plan with the verdict on it, and the list of 16 that goes with the verdict: the bounds of the tasks, or of those above the late one,
-- and 0 behind them
pub record Judgement (S : Type 0) : Type 0 where
  pub plan : Plan S
  pub verdict : Verdict
  pub bounds : List ℕ

-- a judged plan by its parts
abbrev pub judgement : {S : Type 0} → S → List Task → Verdict → List ℕ → Judgement S
judgement bank tasks v bounds = record { plan = record { bank = bank; tasks = tasks }; verdict = v; bounds = bounds }

-- the verdict and the bounds are those of the judge, on tasks as a plan takes them; `work` tells what a bank brings
pub record ByJudge {S : Type 0} (work : S → Work) (j : Judgement S) : Type 0 where
  pub fitting : Fitting j.plan.tasks
  pub judged : Judged (work j.plan.bank) j.plan.tasks j.verdict j.bounds
  pub filled : Filled (work j.plan.bank) j.plan.tasks j.verdict j.bounds
  pub places : length j.bounds ≡ 16
