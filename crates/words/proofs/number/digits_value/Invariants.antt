use Rattle.std.proofs.Common.{◌≡◌, ◌≤◌, min, drop}
use Rattle.words.specs.Numbers.{read_on, all_digits}
use Rattle.words.proofs.number.digits_value.Given as goal

-- the bytes passed are digits, and those that are left go on from the value so far
abbrev pub invariant-loop-digit : goal.invariant-loop-digit
invariant-loop-digit l =
    (l.value ≤ 1000001)
    × (all_digits l.digits ≡ all_digits (drop l.digit-index l.digits))
    × (min (read_on 0 l.digits) 1000001 ≡ min (read_on l.value (drop l.digit-index l.digits)) 1000001)
