use Rattle.std.proofs.Common.{sym, ap, ◌∙◌}
use Rattle.words.specs.Split.{onward}
use Rattle.words.proofs.Cutting.{pieces_first}
use Rattle.lines.specs.Numbers.{numbers_after}
use Rattle.transcript.specs.Calls.{verb_of, call_by, call_with}
use Rattle.transcript.proofs.Written.{call_rule}
use Rattle.transcript.proofs.reading.call_of.Goals as goal

pub returns-in_err-verb : goal.returns-in_err-verb
returns-in_err-verb c =
    let line = c.args.line.now in
    let verb = c.in_err-verb.ensures ∙ ap verb_of c.first_word.ensures.word in
    record {
      call = c.from_residual.ensures ∙ sym (ap call_by (pieces_first 32 line) ∙ ap (λ v. call_with v (numbers_after (onward 32 line))) (sym verb));
      rule = call_rule line;
    }

pub returns : goal.returns
returns c =
    let line = c.args.line.now in
    let verb = c.in_ok-verb.ensures ∙ ap verb_of c.first_word.ensures.word in
    record {
      call = c.call_with.ensures ∙ (λ i. call_with (verb i) (numbers_after (c.first_word.ensures.rest i))) ∙ sym (ap call_by (pieces_first 32 line));
      rule = call_rule line;
    }
