-- Division and rounding up.
use Prim.Native.Nat.{ℕ, ◌+◌, ◌-◌, ◌≤◌, ◌<◌}
use native.Mathlib.Omega.{arith}
use native.Mathlib.Nat.{lt-div-mul-add, div-lt_iff_lt-mul, add-mul, one-mul}
use Rattle.loads.specs.Share.{rounded_up, RoundedUp}

pub rounds_up : (a b : ℕ) → 1 ≤ b → RoundedUp a b (rounded_up a b)
rounds_up a b some = record {
  enough = omega (arith, lt-div-mul-add {a = a + (b - 1)} {b = b} some);
  least = λ m h. let low : rounded_up a b < m + 1 = (div-lt_iff_lt-mul {k = b} {x = a + (b - 1)} {y = m + 1} some).1 (omega (arith, add-mul m 1 b, one-mul b)) in omega arith;
}
