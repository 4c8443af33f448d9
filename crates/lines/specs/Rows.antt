-- What a line says: a keyword and its numbers. A line is good if it is what such a row writes.
use Rattle.std.specs.Prelude.{◌≡◌, ℕ, ◌+◌, ◌-◌, min, Bool, true, cond, ◌&&◌, List, [], ◌∷◌, ◌++◌, map, length, take, replicate, Some, None, Ok, Err, codes, decimal, Option, Result, ◌==◌, nat_le, nat_lt, slice_index, slice_set}
use Rattle.refusal.specs.declared.Fault.{Fault}
use Rattle.refusal.specs.declared.Fault.TheVariants.{BadLine}
use Rattle.words.specs.Split.{pieces, joined}
use Rattle.words.specs.Tokens.{line_fault, WordsBreak}
use Rattle.lines.specs.Numbers.{numbers_of}
use Rattle.lines.specs.declared.row.Costs.{Costs}
use Rattle.lines.specs.declared.row.Kind.{Kind}
use Rattle.lines.specs.declared.row.Kind.TheVariants.{Cycle, At, Irq, Task}
use Rattle.lines.specs.declared.row.Row.{Row}
use Rattle.lines.specs.declared.row.Row.TheVariants as rows

abbrev pub spelling : Kind → List ℕ
spelling Cycle = codes "cycle"
spelling At = codes "at"
spelling Irq = codes "irq"
spelling Task = codes "task"

-- from place k on, w has the bytes of p
abbrev pub reads : List ℕ → ℕ → List ℕ → Bool
reads w k [] = true
reads w k (x ∷ p) = slice_index w k == x && reads w (k + 1) p

-- w is as long as p and has the same bytes
abbrev pub same : List ℕ → List ℕ → Bool
same w p = length w == length p && reads w 0 p

-- the keyword that a word is
abbrev pub kind_of : List ℕ → Option Kind
kind_of w = cond (same w (spelling Cycle)) (Some Cycle) (cond (same w (spelling At)) (Some At) (cond (same w (spelling Irq)) (Some Irq) (cond (same w (spelling Task)) (Some Task) None)))

-- what a line says: the length of the cycle; offset and length of a pair; period, jitter and costs of an interrupt; period,
-- jitter, blocking, deadline, longest hold and costs of a task
pub data Said : Type 0 where
  cycle : ℕ → Said
  at : ℕ → ℕ → Said
  irq : ℕ → ℕ → List ℕ → Said
  task : ℕ → ℕ → ℕ → ℕ → ℕ → List ℕ → Said

abbrev pub kind : Said → Kind
kind (cycle c) = Cycle
kind (at o z) = At
kind (irq t j cs) = Irq
kind (task t j b d h cs) = Task

abbrev pub numbers : Said → List ℕ
numbers (cycle c) = c ∷ []
numbers (at o z) = o ∷ z ∷ []
numbers (irq t j cs) = t ∷ j ∷ cs
numbers (task t j b d h cs) = t ∷ j ∷ b ∷ d ∷ h ∷ cs

-- the line that says it: the keyword and the numbers in decimal, one space between two words
abbrev pub written : Said → List ℕ
written s = joined 32 (spelling (kind s) ∷ map decimal (numbers s))

abbrev pub all_small : List ℕ → Bool
all_small [] = true
all_small (n ∷ ns) = nat_le n 1000000 && all_small ns

-- an interrupt and a task have at least one cost
abbrev pub some_cost : Said → Bool
some_cost (cycle c) = true
some_cost (at o z) = true
some_cost (irq t j cs) = nat_le 1 (length cs)
some_cost (task t j b d h cs) = nat_le 1 (length cs)

-- what a line can say: every number is at most 1,000,000, and costs are not left out
abbrev pub Sayable : Said → Type 0
Sayable s = (all_small (numbers s) ≡ true) × (some_cost s ≡ true)

-- what a keyword says with its numbers, if they are as many as it takes
abbrev pub with_numbers : Kind → List ℕ → Option Said
with_numbers Cycle [] = None
with_numbers Cycle (c ∷ []) = Some (cycle c)
with_numbers Cycle (c ∷ n ∷ ns) = None
with_numbers At [] = None
with_numbers At (o ∷ []) = None
with_numbers At (o ∷ z ∷ []) = Some (at o z)
with_numbers At (o ∷ z ∷ n ∷ ns) = None
with_numbers Irq [] = None
with_numbers Irq (t ∷ []) = None
with_numbers Irq (t ∷ j ∷ []) = None
with_numbers Irq (t ∷ j ∷ c ∷ cs) = Some (irq t j (c ∷ cs))
with_numbers Task [] = None
with_numbers Task (t ∷ []) = None
with_numbers Task (t ∷ j ∷ []) = None
with_numbers Task (t ∷ j ∷ b ∷ []) = None
with_numbers Task (t ∷ j ∷ b ∷ d ∷ []) = None
with_numbers Task (t ∷ j ∷ b ∷ d ∷ h ∷ []) = None
with_numbers Task (t ∷ j ∷ b ∷ d ∷ h ∷ c ∷ cs) = Some (task t j b d h (c ∷ cs))

-- the same where either may be missing
abbrev pub said : Option Kind → Option (List ℕ) → Option Said
said (Some k) (Some ns) = with_numbers k ns
said (Some k) None = None
said None (Some ns) = None
said None None = None

abbrev pub said_by : List (List ℕ) → Option Said
said_by [] = None
said_by (w ∷ ws) = said (kind_of w) (numbers_of ws)

-- the fault of the words comes before that of the line
abbrev pub told_of : Option Fault → Option Said → Result Said Fault
told_of (Some f) s = Err f
told_of None None = Err BadLine
told_of None (Some s) = Ok s

-- what a line says, or what is wrong with it: the smallest number first
abbrev pub read_line : List ℕ → Result Said Fault
read_line line = told_of (line_fault line) (said_by (pieces 32 line))

-- a line says s exactly if it is what s writes
abbrev pub LineRule : List ℕ → Type 0
LineRule line = ((s : Said) → read_line line ≡ Ok s → (line ≡ written s) × Sayable s) × ((s : Said) → line ≡ written s → Sayable s → read_line line ≡ Ok s)

-- which rules a line breaks, each on its own: those of its words, and that some row writes it
unfoldable pub LineBreaks : List ℕ → Fault → Type 0
LineBreaks line BadLine = (s : Said) → line ≡ written s → Sayable s → ⊥
LineBreaks line other = WordsBreak line other

-- costs in a table of nine, one more than any part may have: what lies beyond is cut off, what is missing is 0
abbrev pub costs_of : List ℕ → Costs
costs_of ns = record { numbers = take 9 ns ++ replicate (9 - length ns) 0; count = min 9 (length ns) }

-- the same with one cost more, if there is a place for it
abbrev pub with_cost : Costs → ℕ → Costs
with_cost costs cost =
    cond (nat_lt costs.count 9)
    (record { numbers = slice_set costs.numbers costs.count cost; count = costs.count + 1 })
    costs

-- at least one cost
abbrev pub costs_said : Option (List ℕ) → Option Costs
costs_said None = None
costs_said (Some []) = None
costs_said (Some (c ∷ cs)) = Some (costs_of (c ∷ cs))

-- the row that the reader makes of it
abbrev pub row_of : Said → Row
row_of (cycle c) = rows.Cycle c
row_of (at o z) = rows.At o z
row_of (irq t j cs) = rows.Irq t j (costs_of cs)
row_of (task t j b d h cs) = rows.Task t j b d h (costs_of cs)

abbrev pub row_said : Option Said → Option Row
row_said None = None
row_said (Some s) = Some (row_of s)

abbrev pub row_told : Result Said Fault → Result Row Fault
row_told (Ok s) = Ok (row_of s)
row_told (Err f) = Err f
