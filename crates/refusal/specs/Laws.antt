-- The law of refusals: whatever is refused, it breaks the rule of the fault that is given, and no rule with a smaller number.
use Rattle.std.specs.Prelude.{◌≡◌, ◌↔◌, ◌≤◌, Option, Some, None}
use Rattle.refusal.specs.Table.{row}
use Rattle.refusal.specs.declared.Fault.{Fault}

-- What is given for something that breaks rules, each told by its fault: `breaks f` says that the rule of fault f is broken. None is
-- given exactly if no rule is broken, and else the fault of a broken rule, the one with the smallest number.
pub record FirstBroken (breaks : Fault → Type 0) (given : Option Fault) : Type 0 where
  pub none : (given ≡ None) ↔ ((f : Fault) → breaks f → ⊥)
  pub broken : (f : Fault) → given ≡ Some f → breaks f
  pub smallest : (f g : Fault) → given ≡ Some f → breaks g → (row f).number ≤ (row g).number
