-- What is wrong with a buffer keeps to the law of refusals.
use Rattle.std.proofs.Common.{◌≡◌, ℕ, ◌<◌, ◌≤◌, Bool, true, false, nat_lt, if◌then◌else◌, Some, None, Option, refl, sym, subst, arith}
use Rattle.std.proofs.lemmas.Bool.{ltb-true, ltb-false}
use Rattle.refusal.specs.Laws.{FirstBroken}
use Rattle.refusal.specs.Table.{row}
use Rattle.refusal.specs.Refusals.{fault_in}
use Rattle.refusal.specs.declared.Refusal.{Refusal}
use Rattle.refusal.specs.declared.Fault.{Fault}
use Rattle.refusal.specs.declared.Fault.TheVariants.{BufferTooShort}
use Rattle.refusal.proofs.Firsts.{none_broken, some_broken}
use Rattle.listing.specs.Listings.{BufferBreaks, too_short, room_refusal}

module _ (bytes : ℕ) where
  long : 2048 ≤ bytes → (f : Fault) → BufferBreaks bytes f → ⊥
  unfolding BufferBreaks
  long h BufferTooShort b = omega arith
  long h other b = b

  short : bytes < 2048 → BufferBreaks bytes BufferTooShort
  unfolding BufferBreaks
  short h = h

  least : (f : Fault) → BufferBreaks bytes f → 18 ≤ (row f).number
  unfolding BufferBreaks
  least BufferTooShort b = omega arith
  least other b = absurd b

  buffer_long : 2048 ≤ bytes → FirstBroken (BufferBreaks bytes) None
  buffer_long h = none_broken (BufferBreaks bytes) (long h)

  buffer_short : bytes < 2048 → FirstBroken (BufferBreaks bytes) (Some BufferTooShort)
  buffer_short h = some_broken (BufferBreaks bytes) BufferTooShort (short h) least

  tested : (b : Bool) → nat_lt bytes 2048 ≡ b → FirstBroken (BufferBreaks bytes) (fault_in (if b then Some too_short else None))
  tested true e = buffer_short (ltb-true bytes 2048 e)
  tested false e = buffer_long (ltb-false bytes 2048 e)

  pub buffer_broken : (o : Option Refusal) → o ≡ room_refusal bytes → FirstBroken (BufferBreaks bytes) (fault_in o)
  buffer_broken o e = subst (λ x. FirstBroken (BufferBreaks bytes) (fault_in x)) (sym e) (tested (nat_lt bytes 2048) refl)
