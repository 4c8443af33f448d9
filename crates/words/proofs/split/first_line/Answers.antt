use Rattle.std.proofs.Common.{◌+◌, ◌∷◌, length, Some, None, refl, sym, ap, ◌∙◌, arith}
use Rattle.std.proofs.lemmas.List.{take_rest, length-drop, length-take-le}
use Rattle.words.proofs.Cutting.{IsNowhere, IsFirstAt, found}
use Rattle.words.proofs.split.first_line.Goals as goal

pub returns-in_err-end : goal.returns-in_err-end
returns-in_err-end c =
    let none : IsNowhere 10 c.args.sheet.now = found 10 c.args.sheet.now None c.in_err-end.ensures in
    rw c.from_residual.ensures (record { line = tt; after = tt; line_at = tt; after_at = tt; shorter = tt; unended = none.back })

pub returns : goal.returns
returns c =
    let sheet = c.args.sheet.now in
    let end = c.in_ok-end.end in
    let first : IsFirstAt 10 sheet end = found 10 sheet (Some end) c.in_ok-end.ensures in
    let rest = take_rest sheet (end + 1) in
    record {
      line = sym first.front;
      after = ap (λ ys. 10 ∷ ys) rest ∙ sym first.behind;
      line_at = refl;
      after_at = ap (λ n. (c.args.sheet.ref_ptr.0, n)) (omega (arith, length-take-le end sheet (omega (arith, first.within))));
      shorter = omega (arith, first.within, ap length rest, length-drop (end + 1) sheet);
      unended = tt;
    }
