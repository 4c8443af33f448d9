use Rattle.std.proofs.Common.{◌+◌, ◌≤◌, length, Some, Err, sym, ap, ◌∙◌, arith}
use Rattle.std.proofs.lemmas.Result.{err_from_is_err_and}
use Rattle.std.proofs.lemmas.Bool.{eqb-false}
use Rattle.words.specs.Split.{pieces}
use Rattle.sheet.specs.Reading.{and_then, read_on}
use Rattle.sheet.proofs.Lining.{line_first, line_open}
use Rattle.sheet.proofs.reading.read_on.Goals as goal

pub returns-in_err-bytes-clause-refused : goal.returns-in_err-bytes-clause-refused
returns-in_err-bytes-clause-refused c =
    let rest = c.loop-rest.rest.now in
    let so_far = Some c.loop-rest.draft in
    let more : 1 ≤ length rest = omega (arith, eqb-false (length rest) 0 (sym c.loop-rest-test.ensures)) in
    let open_line = c.in_err-bytes.ensures in
    let p = err_from_is_err_and c.from_residual.result c.from_residual.ensures.1 in
    rw (p.1, p.2)
    (sym c.loop-rest.invariant.1 ∙ line_open c.loop-rest.lines so_far rest more open_line.unended ∙ ap Err (sym open_line.refused))

pub returns-in_err-step-clause-refused : goal.returns-in_err-step-clause-refused
returns-in_err-step-clause-refused c =
    let rest = c.loop-rest.rest.now in
    let after = c.in_ok-bytes.after.now in
    let so_far = Some c.loop-rest.draft in
    let line = c.in_ok-bytes.ensures in
    let p = err_from_is_err_and c.from_residual-in_err-step.result c.from_residual-in_err-step.ensures.1 in
    rw (p.1, p.2)
    (
    sym c.loop-rest.invariant.1
    ∙ line_first c.loop-rest.lines so_far rest c.in_ok-bytes.bytes.now after line.line line.after
    ∙ ap (λ r. and_then r (λ q. read_on (c.loop-rest.lines + 1) (Some q) (pieces 10 after))) c.in_err-step.ensures.refused
    )

pub loop-rest-preserved : goal.loop-rest-preserved
loop-rest-preserved c =
    let rest = c.loop-rest.rest.now in
    let after = c.in_ok-bytes.after.now in
    let line = c.in_ok-bytes.ensures in (
      omega (arith, line.shorter, c.loop-rest.invariant.0),
      sym (ap (λ r. and_then r (λ q. read_on (c.loop-rest.lines + 1) (Some q) (pieces 10 after))) c.in_ok-step.ensures.read)
          ∙ sym (line_first c.loop-rest.lines (Some c.loop-rest.draft) rest c.in_ok-bytes.bytes.now after line.line line.after)
          ∙ c.loop-rest.invariant.1,
    )
