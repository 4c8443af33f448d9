use Rattle.std.proofs.Common.{◌≡◌, map, length, take, ap, ◌∙◌, arith}
use Rattle.std.proofs.lemmas.List.{length-map, take-map}
use Rattle.source.proofs.Gates.{list_ticked, list_later_fit}
use Rattle.source.specs.Rows.{Passes}
use Rattle.paced.specs.Pace.{later, paced}
use Rattle.paced.specs.Rows.{paced_owes}
use Rattle.paced.proofs.Ticks.{ticks_all}
use Rattle.paced.proofs.table.TableGate.tick.Goals as goal

pub invariant_of-self-inside : goal.invariant_of-self-inside
invariant_of-self-inside g c =
    let s = c.self.inside in
    let n = s.count in
    let rows' = c.loop-row.row-items in
    let all : rows' ≡ map later s.rows = ticks_all s.rows rows' c.loop-row.row-index (omega (arith, s.held)) c.loop-row.invariant in
    let passes : Passes paced (take n s.rows) (take n rows') = ap (take n) all ∙ take-map later n s.rows in (
      ap length all ∙ length-map s.rows later ∙ s.held,
      (s.room, (omega (arith, s.few, ap length passes, length-map (take n s.rows) later), (list_later_fit paced paced_owes (take n s.rows) (take n rows') s.fit passes, tt))),
    )

pub returns : goal.returns
returns g c =
    let s = c.self.inside in
    let n = s.count in
    let now = c.args.self.now in
    let rows' = c.loop-row.row-items in
    let all : rows' ≡ map later s.rows = ticks_all s.rows rows' c.loop-row.row-index (omega (arith, s.held)) c.loop-row.invariant in
    let passes : Passes paced now.list (take n rows') = ap (take n) all ∙ take-map later n s.rows ∙ ap (λ v. map later v.list) c.self.view_is in
    let facts = list_ticked paced paced_owes now.list (take n rows') now.fit passes in
    record { ticks = passes; ticked = facts.1; kept = facts.0 }
