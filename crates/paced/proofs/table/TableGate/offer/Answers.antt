use Rattle.std.proofs.Common.{rules}
use Rattle.source.proofs.Gates.{list_taken}
use Rattle.source.specs.Rows.{Gives}
use Rattle.paced.specs.Pace.{paced}
use Rattle.paced.specs.Rows.{paced_owes}
use Rattle.paced.proofs.table.TableGate.offer.Goals as goal

pub returns-clause-taken : goal.returns-clause-taken
returns-clause-taken g c e =
    let s = c.args.self.now in
    let t = c.put.new.self in
    let gives : Gives paced s.list c.args.part c.args.units t.list = search rules in
    (list_taken paced paced_owes s.list c.args.part c.args.units t.list s.fit gives).1

pub returns-clause-kept : goal.returns-clause-kept
returns-clause-kept g c =
    let s = c.args.self.now in
    let t = c.put.new.self in
    let gives : Gives paced s.list c.args.part c.args.units t.list = search rules in
    (list_taken paced paced_owes s.list c.args.part c.args.units t.list s.fit gives).0
