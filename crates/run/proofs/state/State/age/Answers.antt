use Rattle.std.proofs.Common.{set, ap, ◌∙◌, arith}
use Rattle.run.proofs.Ticks.{ages_on}
use Rattle.run.proofs.state.State.age.Goals as goal

pub loop-job-preserved : goal.loop-job-preserved
loop-job-preserved c =
    let jobs = c.args.self.now.jobs in
    let ys = c.loop-job.job-items in
    let i = c.loop-job.job-index in
    ap (set ys i) c.pass.ensures ∙ ages_on jobs ys i (omega arith) c.loop-job.invariant
