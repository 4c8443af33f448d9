use Rattle.std.proofs.Common.{ap, ◌∙◌}
use Rattle.timeline.specs.Steps.{left_after}
use Rattle.timeline.proofs.Cells.{left_more}
use Rattle.timeline.proofs.tracks.PendingTrack.pass.Goals as goal

pub returns : goal.returns
returns c = λ start log is.
    let call = c.args.call in
    let answer = c.args.answer in
    let left = c.args.self.now.left in
    (is.0, left_more start.task log (record { call = call; answer = answer }) left c.left_after-self.result is.1 (c.left_after-self.ensures ∙ ap (λ i. left_after i left call answer) is.0))
