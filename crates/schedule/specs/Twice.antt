-- The pairs of a schedule over two cycles in a row.
use Rattle.std.specs.Prelude.{ℕ, ◌+◌, ◌-◌, ◌<◌, ◌≤◌, cond, List, length, nat_lt}
use Rattle.schedule.specs.Phases.{offset_of, length_of, lengths_met}
use Rattle.schedule.specs.declared.slot.Slot.{Slot}

abbrev pub offset_twice : ℕ → List Slot → ℕ → ℕ
offset_twice cycle pairs j = cond (nat_lt j (length pairs)) (offset_of pairs j) (offset_of pairs (j - length pairs) + cycle)

abbrev pub length_twice : List Slot → ℕ → ℕ
length_twice pairs j = cond (nat_lt j (length pairs)) (length_of pairs j) (length_of pairs (j - length pairs))

-- the lengths met in so many ticks from pair i on
abbrev pub met_from : ℕ → List Slot → ℕ → ℕ → ℕ
met_from cycle pairs ticks i = lengths_met cycle pairs ticks (offset_of pairs i)

-- all pairs before place e lie before `until`
abbrev pub LieBefore : ℕ → List Slot → ℕ → ℕ → Type 0
LieBefore cycle pairs e until = (j : ℕ) → j < e → offset_twice cycle pairs j < until

-- where a window ends: all before place e lies before `until`, and what is at e, if that is not the limit, does not
pub record Ends (cycle : ℕ) (pairs : List Slot) (until limit e : ℕ) : Type 0 where
  pub within : e ≤ limit
  pub before : LieBefore cycle pairs e until
  pub after : e < limit → until ≤ offset_twice cycle pairs e
