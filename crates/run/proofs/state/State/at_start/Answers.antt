use Rattle.std.proofs.Common.{◌≡◌, replicate}
use Rattle.run.specs.States.{no_job}
use Rattle.run.proofs.Blanks.{all_alike}
use Rattle.run.proofs.state.State.at_start.Goals as goal

pub returns : goal.returns
returns c =
    let backlogs = c.default.ensures.0 in
    let jobs = c.default.ensures.1.0 in
    let none = c.default.ensures.1.1 in
    let all : c.default.result.backlogs ≡ replicate 16 0 = all_alike 0 16 _ backlogs.long (λ i h. backlogs.at i 0 h) in
    let idle : c.default.result.jobs ≡ replicate 16 no_job = all_alike no_job 16 _ jobs.long (λ i h. (let job = jobs.at i no_job h in λ k. record { left = job.0 k; age = job.1 k })) in
    λ k. record { backlogs = all k; jobs = idle k; hold = none k }
