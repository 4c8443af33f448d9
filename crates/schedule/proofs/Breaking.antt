-- What is wrong with a cycle, or with one more pair, keeps to the law of refusals.
use Rattle.std.proofs.Common.{◌≡◌, ◌↔◌, ℕ, ◌&&◌, Bool, true, leb, ltb, List, [], ◌∷◌, length, Option, refl, sym, subst, arith}
use Rattle.std.proofs.lemmas.Bool.Decides.{nat_tests}
use Rattle.refusal.specs.Laws.{FirstBroken}
use Rattle.refusal.specs.declared.Fault.{Fault}
use Rattle.refusal.specs.declared.Fault.TheVariants.{TooMany, OutOfRange, Misfit}
use Rattle.refusal.proofs.Firsts.{tests_broken, fails}
use Rattle.schedule.specs.Makes.{in_range, cycle_fault, follows, pair_fault, CycleBreaks, PairBreaks}
use Rattle.schedule.specs.Phases.{Timetable}

cycle_fails : (cycle : ℕ) (f : Fault) → (fails ((OutOfRange, in_range cycle) ∷ []) f ≡ true) ↔ CycleBreaks cycle f
unfolding CycleBreaks
cycle_fails cycle OutOfRange = (λ h. grind (arith, nat_tests), λ h. grind (arith, nat_tests))
cycle_fails cycle other = (λ h. cc, λ h. absurd h)

pub cycle_broken : (cycle : ℕ) (x : Option Fault) → x ≡ cycle_fault cycle → FirstBroken (CycleBreaks cycle) x
cycle_broken cycle x e = subst (FirstBroken (CycleBreaks cycle)) (sym e) (tests_broken (CycleBreaks cycle) ((OutOfRange, in_range cycle) ∷ []) refl (cycle_fails cycle))

-- the tests of one more pair in their order
abbrev tests : Timetable → ℕ → ℕ → List (Fault × Bool)
tests t offset units = (TooMany, ltb (length t.pairs) 64) ∷ (OutOfRange, leb offset 1000000 && in_range units) ∷ (Misfit, follows t.cycle t.pairs offset) ∷ []

pair_fails : (t : Timetable) (offset units : ℕ) (f : Fault) → (fails (tests t offset units) f ≡ true) ↔ PairBreaks t offset units f
unfolding PairBreaks
pair_fails t offset units TooMany = (λ h. grind (arith, nat_tests), λ h. grind (arith, nat_tests))
pair_fails t offset units OutOfRange = (λ h. grind (arith, nat_tests), λ h. grind (arith, nat_tests))
pair_fails t offset units Misfit = (λ h. grind (arith, nat_tests), λ h. grind (arith, nat_tests))
pair_fails t offset units other = (λ h. cc, λ h. absurd h)

pub pair_broken : (t : Timetable) (offset units : ℕ) (x : Option Fault) → x ≡ pair_fault t offset units → FirstBroken (PairBreaks t offset units) x
pair_broken t offset units x e = subst (FirstBroken (PairBreaks t offset units)) (sym e) (tests_broken (PairBreaks t offset units) (tests t offset units) refl (pair_fails t offset units))
