use Rattle.std.proofs.Common.{length, sym, ap, ◌∙◌}
use Rattle.std.proofs.lemmas.Result.{err_from_is_err_and}
use Rattle.sheet.specs.Drafts.{plan_view}
use Rattle.sheet.specs.Reading.{Sheet}
use Rattle.sheet.proofs.Telling.{accepted, placed_same, refused}
use Rattle.sheet.proofs.marking.told.Goals as goal

pub marks_of-requires : goal.marks_of-requires
marks_of-requires c =
    let j = c.args.judged.now in
    let s : Sheet = record { plan = plan_view j.plan; lines = c.args.lines } in
    let count = c.count.ensures.count ∙ ap length c.tasks.ensures in
    let here = placed_same s.lines (length j.plan.tasks) c.count.result j.verdict c.verdict.result (sym count) (sym c.verdict.ensures.verdict) in
    accepted s j.verdict j.bounds c.in_ok-outcome_on_line.field-0 (here ∙ sym c.outcome_on_line.ensures ∙ c.in_ok-outcome_on_line.was) c.verdict.ensures.by_judge.judged

pub returns-in_err-outcome_on_line : goal.returns-in_err-outcome_on_line
returns-in_err-outcome_on_line c =
    let j = c.args.judged.now in
    let s : Sheet = record { plan = plan_view j.plan; lines = c.args.lines } in
    let count = c.count.ensures.count ∙ ap length c.tasks.ensures in
    let here = placed_same s.lines (length j.plan.tasks) c.count.result j.verdict c.verdict.result (sym count) (sym c.verdict.ensures.verdict) in
    let p = err_from_is_err_and c.from_residual.result c.from_residual.ensures.1 in
    rw (p.1, p.2) (refused s j.verdict j.bounds _ (here ∙ sym c.outcome_on_line.ensures ∙ c.in_err-outcome_on_line.was))
