use Rattle.std.proofs.Common.{ap, length, arith}
use Rattle.std.proofs.lemmas.Grind.{common_steps}
use Rattle.listing.specs.Texts.{task_line}
use Rattle.listing.proofs.Placing.{room_within, puts_within}
use Rattle.listing.proofs.Sizes.{line_more}
use Rattle.listing.proofs.pieces.Text.put_tasks.Goals as goal

pub put_task-requires : goal.put_task-requires
put_task-requires c =
    let l = c.loop-place in
    room_within c.args.self.now l.self _ l.invariant.0 79 l.place 16 (grind (arith, common_steps)) (omega arith) l.invariant.1

pub loop-place-preserved : goal.loop-place-preserved
loop-place-preserved c =
    let l = c.loop-place in
    let more = line_more task_line c.args.marks.now.tasks l.place (record { bound = 0; deadline = 0; load = 0 }) in
    puts_within c.args.self.now l.self _ l.invariant.0 79 l.place 16 (grind (arith, common_steps)) (omega arith) l.invariant.1 c.put_task.new.self _ _ (more _ (grind (arith, common_steps, ap length c.tasks-tasks.ensures.tasks)) (grind (arith, common_steps))) c.put_task.ensures.text c.put_task.ensures.short
