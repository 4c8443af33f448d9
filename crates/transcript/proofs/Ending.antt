-- Where a number more would be too many, something is given only if the rest of the line is empty.
use Rattle.std.proofs.Common.{◌≡◌, ℕ, Bool, true, false, cond, eqb, List, ◌∷◌, ◌++◌, length, Some, None, Option, refl, ◌∙◌}
use Rattle.std.specs.Bool.{then_some}
use Rattle.lines.specs.Numbers.{numbers_after}
use Rattle.lines.proofs.Begun.{Begun, ended}

then_some_cond : {T : Type 0} (b : Bool) (x : T) → then_some b x ≡ cond b (Some x) None
then_some_cond true x = refl
then_some_cond false x = refl

pub given_at_end : {T : Type 0} (F : Option (List ℕ) → Option T) (none : F None ≡ None) {all ns rest : List ℕ} (x : T) → Begun all ns rest → F (Some ns) ≡ Some x → ((n : ℕ) (ms : List ℕ) → F (Some (ns ++ n ∷ ms)) ≡ None) → then_some (eqb (length rest) 0) x ≡ F (numbers_after all)
given_at_end F none {rest = rest} x b given more = then_some_cond (eqb (length rest) 0) x ∙ ended F none x b given more
