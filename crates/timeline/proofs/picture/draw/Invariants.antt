use Rattle.std.proofs.Common.{◌≡◌, ◌+◌, ◌-◌, ◌≤◌, ◌++◌}
use Rattle.timeline.specs.Pictures.{ruler_line, part_line, task_line, lines}
use Rattle.timeline.proofs.picture.draw.Given as goal

-- the text has the ruler and the lines of the parts so far
abbrev pub invariant-loop-part : goal.invariant-loop-part
invariant-loop-part l = record {
  lines : l.text.items ≡ ruler_line l.log ++ lines (part_line l.log) (l.part - 1);
  few : l.part ≤ l.parts + 1;
}

-- and those of the tasks so far
abbrev pub invariant-loop-task : goal.invariant-loop-task
invariant-loop-task l = record {
  lines : l.text.items ≡ l.initial.text.items ++ lines (task_line l.log) (l.task - 1);
  few : l.task ≤ l.tasks + 1;
}
