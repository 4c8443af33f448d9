use Rattle.std.proofs.Common.{◌≡◌, ◌<◌, length, take, set, sym, ap, ◌∙◌, subst, All, arith, length-set}
use Rattle.std.proofs.Math.Seq.{take-set-lt}
use Rattle.std.proofs.lemmas.List.{length-take-le}
use Rattle.std.proofs.lemmas.List.Elements.{All-set}
use Rattle.paced.specs.Pace.{Fit}
use Rattle.paced.proofs.table.Table.put.Goals as goal

pub invariant_of-self-inside : goal.invariant_of-self-inside
invariant_of-self-inside g c =
    let s = c.self.inside in
    let k = c.args.place in
    let r = c.args.row in
    let within : k < s.count = omega (arith, c.requires.place, ap (λ v. length v.list) c.self.view_is, length-take-le s.count s.rows (omega (arith, s.room, s.held))) in
    let e : take s.count (set s.rows k r) ≡ set (take s.count s.rows) k r = take-set-lt s.count s.rows k r within in (
      length-set s.rows k r ∙ s.held,
      (s.room, (omega (arith, s.few, ap length e, length-set (take s.count s.rows) k r), (subst (All Fit) (sym e) (All-set Fit (take s.count s.rows) k r c.requires.fit s.fit), tt))),
    )

pub returns : goal.returns
returns g c =
    let s = c.self.inside in
    let k = c.args.place in
    let r = c.args.row in
    let within : k < s.count = omega (arith, c.requires.place, ap (λ v. length v.list) c.self.view_is, length-take-le s.count s.rows (omega (arith, s.room, s.held))) in
    take-set-lt s.count s.rows k r within ∙ ap (λ v. set v.list k r) c.self.view_is
