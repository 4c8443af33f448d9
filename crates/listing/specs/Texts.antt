-- The text of a listing.
use Rattle.std.specs.Prelude.{ℕ, List, [], ◌∷◌, ◌++◌, codes, decimal}
use Rattle.std.specs.List.{enumerate_from, flat_map}
use Rattle.refusal.specs.Table.{row}
use Rattle.refusal.specs.declared.Layer.{Layer}
use Rattle.refusal.specs.declared.Layer.TheVariants.{Words, Lines, Plan, Judge, Run, List as Listed}
use Rattle.refusal.specs.declared.Refusal.{Refusal}
use Rattle.listing.specs.declared.marks.TaskMark.{TaskMark}

-- what ends a line: a line feed
abbrev pub line_end : List ℕ
line_end = 10 ∷ []

-- the first line of an accepted plan: how many tasks it has
abbrev pub accepted_line : ℕ → List ℕ
accepted_line tasks = codes "accepted " ++ (decimal tasks ++ line_end)

-- the line of a part: its number and its load
abbrev pub part_line : ℕ → ℕ → List ℕ
part_line number load = codes "part " ++ (decimal number ++ (codes " load " ++ (decimal load ++ line_end)))

-- the line of a task: its number, and what is told of it
abbrev pub task_line : ℕ → TaskMark → List ℕ
task_line number mark = codes "task " ++ (decimal number ++ (codes " bound " ++ (decimal mark.bound ++ (codes " deadline " ++ (decimal mark.deadline ++ (codes " load " ++ (decimal mark.load ++ line_end)))))))

-- a line for each item, one after another, with their numbers from 1 on
abbrev pub numbered : {X : Type 0} → (ℕ → X → List ℕ) → List X → List ℕ
numbered line items = flat_map (λ p. line p.0 p.1) (enumerate_from 1 items)

abbrev pub part_lines : List ℕ → List ℕ
part_lines loads = numbered part_line loads

abbrev pub task_lines : List TaskMark → List ℕ
task_lines tasks = numbered task_line tasks

-- the name of a layer
abbrev pub layer_name : Layer → List ℕ
layer_name Words = codes "words"
layer_name Lines = codes "lines"
layer_name Plan = codes "plan"
layer_name Judge = codes "judge"
layer_name Run = codes "run"
layer_name Listed = codes "list"

-- the line of a refusal: its number, the name of its layer, and the line of the sheet
abbrev pub refusal_line : ℕ → List ℕ → ℕ → List ℕ
refusal_line number layer line = codes "refused " ++ (decimal number ++ (codes " " ++ (layer ++ (codes " " ++ (decimal line ++ line_end)))))

abbrev pub refusal_text : Refusal → List ℕ
refusal_text refusal = refusal_line (row refusal.fault).number (layer_name (row refusal.fault).layer) refusal.line
