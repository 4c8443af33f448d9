use Rattle.std.proofs.Common.{ap, ◌∙◌, arith}
use Rattle.calls.specs.Events.{part_units}
use Rattle.timeline.specs.Rows.{given_in}
use Rattle.timeline.proofs.Cells.{counted_more}
use Rattle.timeline.proofs.tracks.BacklogTrack.pass.Goals as goal

pub returns : goal.returns
returns c = λ start log is.
    let call = c.args.call in
    let answer = c.args.answer in
    let units = c.from.ensures ∙ c.let_in.ensures ∙ ap (λ k. part_units k call answer) is.0 in
    let got = c.from-2.ensures ∙ c.given.ensures ∙ ap (λ k. given_in k call answer) is.0 in
    (is.0, counted_more start.part log (record { call = call; answer = answer }) c.args.self.now.units c.args.self.now.got c.from.result c.from-2.result is.1 units got (omega arith) (omega arith))
