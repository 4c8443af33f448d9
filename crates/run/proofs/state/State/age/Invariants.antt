use Rattle.std.proofs.Common.{◌≡◌, ◌++◌, map, take, drop}
use Rattle.run.specs.Steps.{older}
use Rattle.run.proofs.state.State.age.Given as goal

abbrev pub invariant-loop-job : goal.invariant-loop-job
invariant-loop-job l = l.job-items ≡ map older (take l.job-index l.initial.job-items) ++ drop l.job-index l.initial.job-items
