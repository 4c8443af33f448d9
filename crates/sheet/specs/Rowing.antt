-- The same for the rows that the program makes of lines, which keep nine costs of a line at most.
use Rattle.std.specs.Prelude.{ℕ, min, List, take, Some, None, Ok, Err, Option, Result}
use Rattle.refusal.specs.Refusals.{plain}
use Rattle.refusal.specs.declared.Fault.{Fault}
use Rattle.refusal.specs.declared.Fault.TheVariants.{BadLine}
use Rattle.refusal.specs.declared.Refusal.{Refusal}
use Rattle.lines.specs.declared.row.Costs.{Costs}
use Rattle.lines.specs.declared.row.Row.{Row}
use Rattle.lines.specs.declared.row.Row.TheVariants.{Cycle, At, Irq, Task}
use Rattle.sheet.specs.Drafts.{Plan, cycle_line, pair_line, irq_line, task_line}

abbrev pub kept : Costs → List ℕ
kept costs = take (min 9 costs.count) costs.numbers

abbrev pub begun : Row → Result Plan Refusal
begun (Cycle c) = cycle_line c
begun (At o z) = Err (plain BadLine)
begun (Irq t j costs) = Err (plain BadLine)
begun (Task t j b d h costs) = Err (plain BadLine)

abbrev pub gone_on : Plan → Row → Result Plan Refusal
gone_on p (Cycle c) = Err (plain BadLine)
gone_on p (At o z) = pair_line p o z
gone_on p (Irq t j costs) = irq_line p (record { period = t; jitter = j; costs = kept costs })
gone_on p (Task t j b d h costs) =
    task_line p (record { period = t; jitter = j; costs = kept costs }) (record { blocking = b; deadline = d; hold = h })

abbrev pub next_row : Option Plan → Result Row Fault → Result Plan Refusal
next_row o (Err f) = Err (plain f)
next_row None (Ok r) = begun r
next_row (Some p) (Ok r) = gone_on p r
