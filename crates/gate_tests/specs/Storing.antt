-- Stores, and parts that are all alike, owe what a source and a gate owe.
-- Lemmas only, which laws of traits cite; a reader of the definitions can pass over them.
use Rattle.std.specs.Prelude.{ℕ, ◌≤◌, refl}
use Rattle.std.proofs.Common.{arith}
use Rattle.std.proofs.lemmas.Bool.Decides.{nat_tests}
use Rattle.source.specs.Facts.{Sound}
use Rattle.source.specs.Rows.{Owes}
use Rattle.gate_tests.specs.Stores.{stores, Fit, alike}

pub stores_owe : Owes stores Fit
stores_owe = record {
  none = λ s fit. refl;
  rises = λ s l m fit h. grind (arith, nat_tests);
  small = λ s l fit h. (let small = fit.size in grind (arith, nat_tests));
  within = λ s l fit. (let within = fit.left in grind (arith, nat_tests));
  given_demand = λ s u l. refl;
  given_within = λ s u l fit some within h. grind (arith, nat_tests);
  given_fit = λ s u fit some within. record { size = fit.size; left = omega (arith, fit.left) };
  later_demand = λ s l. refl;
  later_shorter = λ s l fit. grind (arith, nat_tests);
  later_fit = λ s fit. fit;
}

pub alike_sound : (n : ℕ) → n ≤ 1000 → Sound (record { parts = n; demand = alike n }) (alike n)
alike_sound n few = record {
  few = few;
  none = λ k. grind (arith, nat_tests);
  outside = λ k l e. grind (arith, nat_tests);
  rises = λ k l m h. grind (arith, nat_tests);
  small = λ k l h. grind (arith, nat_tests);
  within = λ k l. omega arith;
}
