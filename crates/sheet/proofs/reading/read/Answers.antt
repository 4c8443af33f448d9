use Rattle.std.proofs.Common.{◌≤◌, length, None, Err, sym, ap, ◌∙◌, arith}
use Rattle.std.proofs.lemmas.Result.{err_from_is_err_and}
use Rattle.std.proofs.lemmas.Bool.{eqb-false}
use Rattle.sheet.proofs.Lining.{short_enough, line_open, first_makes}
use Rattle.sheet.proofs.reading.read.Goals as goal

pub returns-in_err-bytes : goal.returns-in_err-bytes
returns-in_err-bytes c =
    let sheet = c.args.sheet.now in
    let short : length sheet ≤ 16384 = omega arith in
    let more : 1 ≤ length sheet = omega (arith, eqb-false (length sheet) 0 (sym c.if-is_empty.ensures)) in
    let open_line = c.in_err-bytes.ensures in
    let p = err_from_is_err_and c.from_residual.result c.from_residual.ensures.1 in
    rw (p.1, p.2) (sym (short_enough sheet short ∙ line_open 0 None sheet more open_line.unended ∙ ap Err (sym open_line.refused)))

pub returns-in_err-draft : goal.returns-in_err-draft
returns-in_err-draft c =
    let line = c.in_ok-bytes.ensures in
    let short : length c.args.sheet.now ≤ 16384 = omega arith in
    let p = err_from_is_err_and c.from_residual-in_err-draft.result c.from_residual-in_err-draft.ensures.1 in
    rw (p.1, p.2) (sym (first_makes c.args.sheet.now c.in_ok-bytes.bytes.now c.in_ok-bytes.rest.now _ short line.line line.after (sym c.in_err-draft.ensures)))

pub returns-in_err-lines : goal.returns-in_err-lines
returns-in_err-lines c =
    let line = c.in_ok-bytes.ensures in
    let short : length c.args.sheet.now ≤ 16384 = omega arith in
    let p = err_from_is_err_and c.from_residual-in_err-lines.result c.from_residual-in_err-lines.ensures.1 in
    rw (p.1, p.2) (sym (first_makes c.args.sheet.now c.in_ok-bytes.bytes.now c.in_ok-bytes.rest.now _ short line.line line.after (sym c.in_ok-draft.ensures) ∙ c.in_err-lines.ensures.refused))

pub returns : goal.returns
returns c =
    let line = c.in_ok-bytes.ensures in
    let short : length c.args.sheet.now ≤ 16384 = omega arith in
    sym (first_makes c.args.sheet.now c.in_ok-bytes.bytes.now c.in_ok-bytes.rest.now _ short line.line line.after (sym c.in_ok-draft.ensures) ∙ c.in_ok-lines.ensures.read)
