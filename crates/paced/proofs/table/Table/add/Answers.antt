use Rattle.std.proofs.Common.{◌≡◌, ◌+◌, ◌<◌, min, All, length, take, set, [], ◌∷◌, ◌++◌, sym, ap, ◌∙◌, subst, arith, rules, length-set, length-append}
use Rattle.std.proofs.lemmas.List.{length-take-le, take_more_set}
use Rattle.std.proofs.lemmas.List.Elements.{All-push}
use Rattle.paced.specs.Makes.{asked}
use Rattle.paced.specs.Pace.{Fit}
use Rattle.paced.proofs.Makings.{clean_pace}
use Rattle.paced.proofs.table.Table.add.Goals as goal

pub invariant_of-self-inside : goal.invariant_of-self-inside
invariant_of-self-inside g c =
    let s = c.self.inside in
    let n = s.count in
    let r = c.fresh_row-row.result in
    let list = take n s.rows in
    let long : length list ≡ n = length-take-le n s.rows (omega (arith, s.room, s.held)) in
    let seen : length c.args.self.now.list ≡ length list = ap (λ v. length v.list) (sym c.self.view_is) in
    let clean = clean_pace (min g.row.ROOM 1000) (length c.args.self.now.list) (asked c.args.pace) c.fault.result c.fault.ensures.answer (search rules) in
    let room : length c.args.self.now.list < min g.row.ROOM 1000 = clean.0 in
    let grown : take (n + 1) (set s.rows n r) ≡ list ++ r ∷ [] = take_more_set s.rows n r (omega (arith, s.held, seen, long, room)) in
    let fit : Fit r = subst Fit (sym c.fresh_row-row.ensures) clean.2 in (
      length-set s.rows n r ∙ s.held,
      (
        omega (arith, seen, long, room),
        (
          omega (arith, ap length grown, length-append list (r ∷ []), long, seen, room),
          (subst (All Fit) (sym grown) (All-push Fit list r s.fit fit), tt),
        ),
      ),
    )
