-- Which rules a sheet breaks, and which of them decides: the first faulty line does and, on it, the smallest number.
use Rattle.std.specs.Prelude.{◌≡◌, ℕ, ◌+◌, ◌<◌, ◌≤◌, ◌⊎◌, List, [], ◌∷◌, ◌++◌, length, Some, None, Ok, Option, IfSome}
use Rattle.std.specs.Bool.{⊤}
use Rattle.refusal.specs.Laws.{FirstBroken}
use Rattle.refusal.specs.Refusals.{plain, fault_in}
use Rattle.refusal.specs.declared.Fault.{Fault}
use Rattle.refusal.specs.declared.Fault.TheVariants.{SheetTooLong, ForeignByte, BadLine}
use Rattle.refusal.specs.declared.Refusal.{Refusal}
use Rattle.paced.specs.Makes.{PartBreaks}
use Rattle.schedule.specs.Makes.{CycleBreaks, PairBreaks}
use Rattle.plan.specs.Limits.{TaskBreaks}
use Rattle.words.specs.Split.{pieces}
use Rattle.lines.specs.Rows.{Said, cycle, at, irq, task, written, Sayable, read_line, LineBreaks}
use Rattle.sheet.specs.Drafts.{Plan}
use Rattle.sheet.specs.Reading.{next}

-- what a line says does not stand where it may, behind lines that made this of a plan: a cycle line is the first line and no other, pairs
-- come before interrupts, and these before tasks
abbrev pub Misplaced : Option Plan → Said → Type 0
Misplaced None (cycle c) = ⊥
Misplaced None (at o z) = ⊤
Misplaced None (irq t j cs) = ⊤
Misplaced None (task t j b d h cs) = ⊤
Misplaced (Some p) (cycle c) = ⊤
Misplaced (Some p) (at o z) = (1 ≤ length p.irqs) ⊎ (1 ≤ length p.tasks)
Misplaced (Some p) (irq t j cs) = 1 ≤ length p.tasks
Misplaced (Some p) (task t j b d h cs) = ⊥

-- which rules of schedules, parts and tasks it breaks there
abbrev pub AddingBreaks : Option Plan → Said → Fault → Type 0
AddingBreaks None (cycle c) f = CycleBreaks c f
AddingBreaks None (at o z) f = ⊥
AddingBreaks None (irq t j cs) f = ⊥
AddingBreaks None (task t j b d h cs) f = ⊥
AddingBreaks (Some p) (cycle c) f = CycleBreaks c f
AddingBreaks (Some p) (at o z) f = PairBreaks p.timetable o z f
AddingBreaks (Some p) (irq t j cs) f = PartBreaks 8 (length p.irqs) (record { period = t; jitter = j; costs = cs }) f
AddingBreaks (Some p) (task t j b d h cs) f =
    TaskBreaks p.tasks (record { period = t; jitter = j; costs = cs }) (record { blocking = b; deadline = d; hold = h }) f

-- the rule of a bad line is broken where it is misplaced
unfoldable pub RowBreaks : Option Plan → Said → Fault → Type 0
RowBreaks o s BadLine = Misplaced o s
RowBreaks o s other = AddingBreaks o s other

-- which rules a line breaks where it stands: its own, or those for what it says
abbrev pub PlacedBreaks : Option Plan → List ℕ → Fault → Type 0
PlacedBreaks o line f = LineBreaks line f ⊎ ((s : Said) × (line ≡ written s) × Sayable s × RowBreaks o s f)

-- lines that break no rule, one after another, and what they make of a plan
abbrev pub Passed : Option Plan → List (List ℕ) → Option Plan → Type 0
Passed o [] so_far = so_far ≡ o
Passed o (line ∷ lines) so_far =
    ((f : Fault) → PlacedBreaks o line f → ⊥) × ((p : Plan) × (next o (read_line line) ≡ Ok p) × Passed (Some p) lines so_far)

-- which rules the last piece of a sheet breaks: behind the last line feed there is nothing, and a sheet has a first line
unfoldable pub LastBreaks : Option Plan → List ℕ → Fault → Type 0
LastBreaks o last ForeignByte = 1 ≤ length last
LastBreaks o last BadLine = (o ≡ None) × (length last ≡ 0)
LastBreaks o last other = ⊥

-- which rules a piece of a sheet breaks, with these pieces behind it
abbrev pub PieceBreaks : Option Plan → List ℕ → List (List ℕ) → Fault → Type 0
PieceBreaks o piece [] f = LastBreaks o piece f
PieceBreaks o piece (more ∷ pieces) f = PlacedBreaks o piece f

-- The piece that decides: those before it break no rule. What is given has its number, and the fault with the smallest number of the
-- rules that it breaks. If nothing is given, it is the last one, and breaks none.
pub record Decided (sheet : List (List ℕ)) (given : Option Refusal) : Type 0 where
  pub before : List (List ℕ)
  pub piece : List ℕ
  pub after : List (List ℕ)
  pub so_far : Option Plan
  pub cut : sheet ≡ before ++ piece ∷ after
  pub passed : Passed None before so_far
  pub first : FirstBroken (PieceBreaks so_far piece after) (fault_in given)
  pub line : IfSome given (λ e. e.line ≡ length before + 1)
  pub all : given ≡ None → after ≡ []

-- what is given for a sheet: that it is too long goes before all, and then the first faulty line decides
pub record FirstFaulty (sheet : List ℕ) (given : Option Refusal) : Type 0 where
  pub long : 16384 < length sheet → given ≡ Some (plain SheetTooLong)
  pub short : length sheet ≤ 16384 → Decided (pieces 10 sheet) given
