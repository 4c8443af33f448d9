use Rattle.std.proofs.Common.{◌++◌, length, ap, subst, arith}
use Rattle.listing.specs.Put.{HasRoom, Puts}
use Rattle.listing.specs.Texts.{accepted_line, part_lines, task_lines}
use Rattle.listing.proofs.Placing.{same_length, puts_next}
use Rattle.listing.proofs.pieces.Text.put_marks.Goals as goal

pub returns-clause-text : goal.returns-clause-text
returns-clause-text c =
    let marks = c.args.marks.now in
    let line = accepted_line (length c.tasks.result.now) in
    let parts = part_lines marks.parts in
    let a = c.put_accepted in
    let p = c.put_parts in
    let t = c.put_tasks in
    let first : HasRoom c.args.self.now line = record { room = omega (arith, a.ensures.text.ends, a.ensures.short) } in
    let held = same_length c.args.self.now a.new.self line first a.ensures.text in
    let second : HasRoom a.new.self parts = record { room = omega (arith, a.ensures.short, p.ensures.text.ends, p.ensures.short, held) } in
    let all = puts_next c.args.self.now a.new.self line first a.ensures.text _ t.new.self (puts_next a.new.self p.new.self parts second p.ensures.text _ t.new.self t.ensures.text) in
    subst (λ n. Puts c.args.self.now t.new.self (accepted_line n ++ (parts ++ task_lines marks.tasks))) (ap length c.tasks.ensures.tasks) all
