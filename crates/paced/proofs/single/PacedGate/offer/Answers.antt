use Rattle.std.proofs.Common.{rules}
use Rattle.source.proofs.Gates.{one_taken}
use Rattle.source.specs.Rows.{GivesOne}
use Rattle.paced.specs.Pace.{paced}
use Rattle.paced.specs.Rows.{paced_owes}
use Rattle.paced.proofs.single.PacedGate.offer.Goals as goal

pub returns-clause-taken : goal.returns-clause-taken
returns-clause-taken c e =
    let s = c.args.self.now in
    let gives : GivesOne paced s.row c.args.part c.args.units c.give.new.self = search rules in
    (one_taken paced paced_owes s.row c.give.new.self c.args.part c.args.units s.fit gives).1
