use Rattle.std.proofs.Common.{rules, ◌≡◌, ◌+◌, ◌-◌, ◌++◌, ap, ◌∙◌, arith, append_assoc}
use Rattle.timeline.specs.Pictures.{ruler_line, part_line, task_line, lines}
use Rattle.timeline.proofs.Lines.{lines_more, lines_to}
use Rattle.timeline.proofs.picture.draw.Goals as goal
use Rattle.timeline.proofs.picture.draw.Goals.{else-loop-part-test, then-loop-part-test+in_ok-add_part+else-part-parts}
use Rattle.timeline.proofs.picture.draw.Goals.{else-loop-task-test, then-loop-task-test+in_ok-add_task+else-task-tasks}

pub loop-part-preserved : goal.loop-part-preserved
loop-part-preserved c =
    let f = part_line c.args.log.now in
    let k = c.loop-part.part in
    let more : c.add_part.new.text.items ≡ c.loop-part.text.items ++ part_line c.args.log.now k = search rules in
    record {
      lines = lines_to f k (k + 1 - 1) (ruler_line c.args.log.now) _ (omega arith) (lines_more f k (ruler_line c.args.log.now) _ _ c.loop-part.auto.part c.loop-part.invariant.lines more);
      few = omega arith;
    }

pub loop-task-preserved : goal.loop-task-preserved
loop-task-preserved c =
    let f = task_line c.args.log.now in
    let i = c.loop-task.task in
    let more : c.add_task.new.text.items ≡ c.loop-task.text.items ++ task_line c.args.log.now i = search rules in
    record {
      lines = lines_to f i (i + 1 - 1) c.loop-part-test.text.items _ (omega arith) (lines_more f i c.loop-part-test.text.items _ _ c.loop-task.auto.task c.loop-task.invariant.lines more);
      few = omega arith;
    }

pub returns : goal.returns
returns c =
    let log = c.args.log.now in
    let f = part_line log in
    let g = task_line log in
    let parts : c.loop-part-test.text.items ≡ ruler_line log ++ lines (part_line log) c.args.parts =
    elim c.loop-part-test.branch [
      | else-loop-part-test w ↦ ap (λ t. t.items) w.text-is ∙ lines_to f (c.loop-part.part - 1) c.args.parts (ruler_line log) _ (omega arith) c.loop-part.invariant.lines
      | then-loop-part-test+in_ok-add_part+else-part-parts w ↦
          let more : w.add_part.new.text.items ≡ c.loop-part.text.items ++ part_line log c.loop-part.part = search rules in
          ap (λ t. t.items) w.text-is ∙ lines_to f c.loop-part.part c.args.parts (ruler_line log) _ (omega arith) (lines_more f c.loop-part.part (ruler_line log) _ _ c.loop-part.auto.part c.loop-part.invariant.lines more)
    ] in
    let tasks : c.loop-task-test.text.items ≡ c.loop-part-test.text.items ++ lines (task_line log) c.args.tasks =
    elim c.loop-task-test.branch [
      | else-loop-task-test w ↦ ap (λ t. t.items) w.text-is ∙ lines_to g (c.loop-task.task - 1) c.args.tasks c.loop-part-test.text.items _ (omega arith) c.loop-task.invariant.lines
      | then-loop-task-test+in_ok-add_task+else-task-tasks w ↦
          let more : w.add_task.new.text.items ≡ c.loop-task.text.items ++ task_line log c.loop-task.task = search rules in
          ap (λ t. t.items) w.text-is ∙ lines_to g c.loop-task.task c.args.tasks c.loop-part-test.text.items _ (omega arith) (lines_more g c.loop-task.task c.loop-part-test.text.items _ _ c.loop-task.auto.task c.loop-task.invariant.lines more)
    ] in
    tasks ∙ ap (λ t. t ++ lines (task_line log) c.args.tasks) parts ∙ append_assoc (ruler_line log) (lines (part_line log) c.args.parts) (lines (task_line log) c.args.tasks)
