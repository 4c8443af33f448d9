use Rattle.std.proofs.Common.{sym, ap, ◌∙◌}
use Rattle.words.specs.Split.{onward}
use Rattle.lines.specs.Numbers.{numbers_after}
use Rattle.lines.specs.Rows.{kind_of, said, row_said}
use Rattle.lines.proofs.Ruling.{said_first, no_keyword}
use Rattle.lines.proofs.reading.said_by.Goals as goal

pub returns-in_err-kind : goal.returns-in_err-kind
returns-in_err-kind c =
    let line = c.args.line.bytes.now in
    let kind = c.in_err-kind.ensures ∙ ap kind_of c.first_word.ensures.word in
    c.from_residual.ensures ∙ sym (ap row_said (said_first line ∙ ap (λ k. said k (numbers_after (onward 32 line))) (sym kind) ∙ no_keyword (numbers_after (onward 32 line))))

pub returns : goal.returns
returns c =
    let line = c.args.line.bytes.now in
    let kind = c.in_ok-kind.ensures ∙ ap kind_of c.first_word.ensures.word in
    c.row.ensures ∙ (λ i. row_said (said (kind i) (numbers_after (c.first_word.ensures.rest i)))) ∙ sym (ap row_said (said_first line))
