-- The timeline of a run: the ruler, then a line for each part and each task.
use Rattle.std.specs.Prelude.{ℕ, zero, suc, ◌-◌, List, [], ◌∷◌, ◌++◌, length, replicate, codes, decimal}
use Rattle.calls.specs.Events.{Event}
use Rattle.timeline.specs.Rows.{ruler, part_row, task_row}

-- a line: its label in 8 columns, its row and a line feed
abbrev pub line : List ℕ → List ℕ → List ℕ
line label row = label ++ (replicate (8 - length label) 32 ++ (row ++ (10 ∷ [])))

abbrev pub ruler_line : List Event → List ℕ
ruler_line log = line (codes "tick") (ruler log)

abbrev pub part_line : List Event → ℕ → List ℕ
part_line log k = line (codes "part " ++ decimal k) (part_row k log)

abbrev pub task_line : List Event → ℕ → List ℕ
task_line log i = line (codes "task " ++ decimal i) (task_row i log)

-- the lines of the numbers 1 to n, one after another
abbrev pub lines : (ℕ → List ℕ) → ℕ → List ℕ
lines line zero = []
lines line (suc n) = lines line n ++ line (suc n)

-- the timeline of a log, for so many parts and tasks
abbrev pub timeline : ℕ → ℕ → List Event → List ℕ
timeline parts tasks log = ruler_line log ++ (lines (part_line log) parts ++ lines (task_line log) tasks)
