use Rattle.std.proofs.Common.{cond, sym, ap, ◌∙◌}
use Rattle.timeline.proofs.Cells.{numbered_more, numbered_same}
use Rattle.timeline.proofs.tracks.RulerTrack.pass.Goals as goal

pub returns-then-passed : goal.returns-then-passed
returns-then-passed c = λ start log is. numbered_more log (record { call = c.args.call; answer = c.args.answer }) c.args.self.now.next 1 is (ap (λ b. cond b 1 0) (sym c.if-passed.true) ∙ c.passed.ensures)

pub returns-else-passed : goal.returns-else-passed
returns-else-passed c = λ start log is. numbered_same log (record { call = c.args.call; answer = c.args.answer }) c.args.self.now.next is (ap (λ b. cond b 1 0) (sym c.if-passed.false) ∙ c.passed.ensures)
