-- The table of refusals: for each fault its number, its layer, and whether it has a line of the sheet and a task.
use Rattle.std.specs.Prelude.{ℕ, Bool, true, false, cond, Some, None, Option, nat_le}
use Rattle.refusal.specs.declared.Fault.{Fault}
use Rattle.refusal.specs.declared.Fault.TheVariants.{SheetTooLong, ForeignByte, BadWord, BadLine, TooMany, OutOfRange, Misfit, HoldAboveBlocking, NotJudgeable, NoWindow, NotAccepted, NoSuchNumber, UnitsNotAllowed, BacklogFull, HoldNotGranted, NothingToEnd, JobPending, BufferTooShort}
use Rattle.refusal.specs.declared.Layer.{Layer}
use Rattle.refusal.specs.declared.Layer.TheVariants.{Words, Lines, Plan, Judge, Run, List}

-- one row of the table; a fault without a line is given with line 0, one without a task with task 0
pub record Row : Type 0 where
  pub number : ℕ
  pub layer : Layer
  pub lined : Bool
  pub tasked : Bool

abbrev pub row : Fault → Row
row SheetTooLong = record { number = 1; layer = Words; lined = false; tasked = false }
row ForeignByte = record { number = 2; layer = Words; lined = true; tasked = false }
row BadWord = record { number = 3; layer = Words; lined = true; tasked = false }
row BadLine = record { number = 4; layer = Lines; lined = true; tasked = false }
row TooMany = record { number = 5; layer = Plan; lined = true; tasked = true }
row OutOfRange = record { number = 6; layer = Plan; lined = true; tasked = true }
row Misfit = record { number = 7; layer = Plan; lined = true; tasked = true }
row HoldAboveBlocking = record { number = 8; layer = Plan; lined = true; tasked = true }
row NotJudgeable = record { number = 9; layer = Judge; lined = false; tasked = false }
row NoWindow = record { number = 10; layer = Judge; lined = true; tasked = true }
row NotAccepted = record { number = 11; layer = Run; lined = false; tasked = false }
row NoSuchNumber = record { number = 12; layer = Run; lined = false; tasked = false }
row UnitsNotAllowed = record { number = 13; layer = Run; lined = false; tasked = true }
row BacklogFull = record { number = 14; layer = Run; lined = false; tasked = false }
row HoldNotGranted = record { number = 15; layer = Run; lined = false; tasked = true }
row NothingToEnd = record { number = 16; layer = Run; lined = false; tasked = true }
row JobPending = record { number = 17; layer = Run; lined = false; tasked = true }
row BufferTooShort = record { number = 18; layer = List; lined = false; tasked = false }

-- what a refusal tells: for a fault found at a line of a sheet (0 without one) and for a task (0 without one)
pub record Told : Type 0 where
  pub number : ℕ
  pub layer : Layer
  pub line : ℕ
  pub task : ℕ

abbrev pub told : Fault → ℕ → ℕ → Told
told f line task = record { number = (row f).number; layer = (row f).layer; line = cond (row f).lined line 0; task = cond (row f).tasked task 0 }

-- of two faults that may be there, the one with the smaller number
abbrev pub first_of : Option Fault → Option Fault → Option Fault
first_of None b = b
first_of (Some f) None = Some f
first_of (Some f) (Some g) = cond (nat_le (row f).number (row g).number) (Some f) (Some g)
