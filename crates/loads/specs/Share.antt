-- Load: units in a number of ticks, in ten-thousandths of the processor's time, rounded up.
use Rattle.std.specs.Prelude.{ℕ, ◌+◌, ◌-◌, ◌*◌, ◌/◌, ◌≤◌}

-- a divided by b and rounded up; 0 if b is 0
abbrev pub rounded_up : ℕ → ℕ → ℕ
rounded_up a b = (a + (b - 1)) / b

abbrev pub load_of : ℕ → ℕ → ℕ
load_of units ticks = rounded_up (10000 * units) ticks

-- n is the smallest number that, b times, is at least a
pub record RoundedUp (a b n : ℕ) : Type 0 where
  pub enough : a ≤ n * b
  pub least : (m : ℕ) → a ≤ m * b → n ≤ m
