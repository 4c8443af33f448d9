-- The meaning of a sheet: the plan that its lines make, or the refusal of the first faulty line.
use Rattle.std.specs.Prelude.{ℕ, ◌+◌, cond, List, [], ◌∷◌, length, Some, None, Ok, Err, Option, Result, ◌==◌, nat_le}
use Rattle.refusal.specs.Refusals.{plain}
use Rattle.refusal.specs.Table.{told}
use Rattle.refusal.specs.declared.Fault.{Fault}
use Rattle.refusal.specs.declared.Fault.TheVariants.{SheetTooLong, ForeignByte, BadLine}
use Rattle.refusal.specs.declared.Refusal.{Refusal}
use Rattle.words.specs.Split.{pieces}
use Rattle.lines.specs.Rows.{Said, read_line}
use Rattle.sheet.specs.Drafts.{Plan, begin_with, go_on_with}

-- the refusal, now with its line
abbrev pub on_line : ℕ → Refusal → Refusal
on_line k e = record { fault = e.fault; line = (told e.fault k e.task).line; task = (told e.fault k e.task).task }

abbrev pub at_line : ℕ → Result Plan Refusal → Result Plan Refusal
at_line k (Ok p) = Ok p
at_line k (Err e) = Err (on_line k e)

-- what a line says makes a plan of what was read before, which is nothing before the first line
abbrev pub next : Option Plan → Result Said Fault → Result Plan Refusal
next o (Err f) = Err (plain f)
next None (Ok s) = begin_with s
next (Some p) (Ok s) = go_on_with p s

-- what line k makes of it
abbrev pub step : ℕ → Option Plan → List ℕ → Result Plan Refusal
step k o line = at_line k (next o (read_line line))

-- a plan, and how many lines its sheet has
pub record Sheet : Type 0 where
  pub plan : Plan
  pub lines : ℕ

-- at the end of a sheet; one of no bytes has not even its first line
abbrev pub ended : ℕ → Option Plan → Result Sheet Refusal
ended n None = Err (on_line 1 (plain BadLine))
ended n (Some p) = Ok (record { plan = p; lines = n })

abbrev pub and_then : Result Plan Refusal → (Plan → Result Sheet Refusal) → Result Sheet Refusal
and_then (Ok p) more = more p
and_then (Err e) more = Err e

-- the rest of a sheet after n lines, as its pieces between line feeds: behind the last line feed there is nothing
abbrev pub read_on : ℕ → Option Plan → List (List ℕ) → Result Sheet Refusal
read_on n o [] = ended n o
read_on n o (last ∷ []) = cond (length last == 0) (ended n o) (Err (on_line (n + 1) (plain ForeignByte)))
read_on n o (line ∷ more ∷ lines) = and_then (step (n + 1) o line) (λ p. read_on (n + 1) (Some p) (more ∷ lines))

-- a sheet has at most 16,384 bytes
abbrev pub read : List ℕ → Result Sheet Refusal
read sheet = cond (nat_le (length sheet) 16384) (read_on 0 None (pieces 10 sheet)) (Err (plain SheetTooLong))
