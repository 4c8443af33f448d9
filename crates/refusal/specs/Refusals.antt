-- Refusals as calls give them that have no line of a sheet at hand.
use Rattle.std.specs.Prelude.{ℕ, Option, Some, None}
use Rattle.refusal.specs.Table.{told}
use Rattle.refusal.specs.declared.Fault.{Fault}
use Rattle.refusal.specs.declared.Refusal.{Refusal}

-- a refusal that is about no line, and about task i (0 for none)
abbrev pub about : ℕ → Fault → Refusal
about i f = record { fault = f; line = 0; task = i }

-- a refusal that is about no line and no task
abbrev pub plain : Fault → Refusal
plain f = about 0 f

-- the refusal for a fault that may be there, about task i
abbrev pub refusal_of : Option Fault → ℕ → Option Refusal
refusal_of None i = None
refusal_of (Some f) i = Some (about i f)

-- the fault of a refusal that may be there
abbrev pub fault_in : Option Refusal → Option Fault
fault_in None = None
fault_in (Some r) = Some r.fault

-- the refusal of a call that names task i: it tells the task if the fault is one that has a task
abbrev pub named_refusal : Option Fault → ℕ → Option Refusal
named_refusal None i = None
named_refusal (Some f) i = Some (about (told f 0 i).task f)
