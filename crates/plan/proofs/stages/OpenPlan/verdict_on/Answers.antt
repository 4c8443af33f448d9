use Rattle.plan.proofs.Breaking.{judged_broken}
use Rattle.plan.proofs.Once.{once, stays_accepted}
use Rattle.plan.proofs.stages.OpenPlan.verdict_on.Goals as goal

pub returns : goal.returns
returns g c =
    let bank = g.S.Source.work c.args.self.now.bank in
    let tasks = c.args.self.now.tasks in
    let found = c.find.result in
    record {
      judged = c.find.ensures.judged;
      filled = c.find.ensures.filled;
      only = once bank tasks found.verdict found.bounds c.find.ensures.judged;
      stays = stays_accepted bank tasks found.verdict found.bounds c.find.ensures.judged;
      first = judged_broken bank tasks found.verdict found.bounds c.find.ensures.judged;
      fitting = c.find.ensures.fitting;
    }
