use Rattle.std.proofs.Common.{Some, sym, ap, ◌∙◌}
use Rattle.std.proofs.lemmas.Result.{err_from_is_err_and}
use Rattle.words.specs.Tokens.{told}
use Rattle.words.proofs.Breaking.{words_broken}
use Rattle.words.proofs.Cutting.{only_cut}
use Rattle.words.proofs.Lines.{foreign_line, bad_line, good_line, next_words, next_shorter}
use Rattle.words.proofs.token.check_line.Goals as goal

pub returns-then-not-is_clean : goal.returns-then-not-is_clean
returns-then-not-is_clean c =
    let line = c.args.line.bytes.now in
    let wrong = foreign_line line (sym c.if-not-is_clean.ensures) in
    record { fault = sym wrong; words = only_cut 32 line; first = words_broken line _ wrong }

pub returns-in_err-after : goal.returns-in_err-after
returns-in_err-after c =
    let line = c.args.line.bytes.now in
    let bad = c.in_err-after.ensures in
    let p = err_from_is_err_and c.from_residual.result c.from_residual.ensures.1 in
    let wrong = bad_line line c.loop-after.rest.now (sym c.if-not-is_clean.ensures) c.loop-after.invariant bad.no_word ∙ ap Some (sym bad.fault) in
    rw (p.1, p.2) (record { fault = sym wrong; words = only_cut 32 line; first = words_broken line _ wrong })

pub returns-in_default : goal.returns-in_default
returns-in_default c =
    let line = c.args.line.bytes.now in
    let next = c.in_ok-after.ensures.token in
    let right = good_line line c.loop-after.rest.now (sym c.if-not-is_clean.ensures) c.loop-after.invariant (told c.in_ok-after.field-0-0).word c.in_ok-after.after.now next.word next.after c.in_default.ensures.cases in
    record { fault = sym right; words = only_cut 32 line; first = words_broken line _ right }

pub loop-after-smaller : goal.loop-after-smaller
loop-after-smaller c = next_shorter c.loop-after.rest.now _ c.in-Some.words.now (sym c.in-Some.ensures.cases.0 ∙ c.in_ok-after.ensures.token.after)

pub loop-after-preserved : goal.loop-after-preserved
loop-after-preserved c = next_words c.args.line.bytes.now c.loop-after.rest.now (told c.in_ok-after.field-0-0).word _ c.in-Some.words.now (sym c.if-not-is_clean.ensures) c.loop-after.invariant c.in_ok-after.ensures.token.word (sym c.in-Some.ensures.cases.0 ∙ c.in_ok-after.ensures.token.after)
