use Rattle.std.proofs.Common.{◌≡◌, ◌+◌, ◌-◌, ◌*◌, min, get_or, sym, refl, ◌∙◌, arith, rules}
use Rattle.words.specs.declared.bytes.Class.TheVariants.{Digit}
use Rattle.words.specs.Bytes.{is_digit}
use Rattle.words.specs.Numbers.{all_digits}
use Rattle.words.proofs.Classes.{digit_if, all_on}
use Rattle.words.proofs.Numbering.{value_on}
use Rattle.words.proofs.number.digits_value.Goals as goal

pub loop-digit-preserved : goal.loop-digit-preserved
loop-digit-preserved c =
    let w = c.args.digits.now in
    let i = c.loop-digit.digit-index in
    let same : c.class_of.result ≡ Digit = search rules in
    let next : c.min-value.result ≡ min (10 * c.loop-digit.value + (get_or w i 0 - 48)) 1000001 = omega arith in (
      omega arith,
      all_on is_digit all_digits (λ _ _. refl) w i c.loop-digit-test.true c.loop-digit.invariant.1 (digit_if (get_or w i 0) (sym c.class_of.ensures ∙ same)),
      value_on w i c.loop-digit.value c.min-value.result c.loop-digit-test.true c.loop-digit.invariant.2 next,
    )
