use Rattle.std.proofs.Common.{ap, length, arith}
use Rattle.std.proofs.lemmas.Grind.{common_steps}
use Rattle.listing.specs.Texts.{part_line}
use Rattle.listing.proofs.Placing.{room_within, puts_within}
use Rattle.listing.proofs.Sizes.{line_more}
use Rattle.listing.proofs.pieces.Text.put_parts.Goals as goal

pub put_part-requires : goal.put_part-requires
put_part-requires c =
    let l = c.loop-place in
    room_within c.args.self.now l.self _ l.invariant.0 42 l.place 9 (grind (arith, common_steps)) (omega arith) l.invariant.1

pub loop-place-preserved : goal.loop-place-preserved
loop-place-preserved c =
    let l = c.loop-place in
    let more = line_more part_line c.args.marks.now.parts l.place 0 in
    puts_within c.args.self.now l.self _ l.invariant.0 42 l.place 9 (grind (arith, common_steps)) (omega arith) l.invariant.1 c.put_part.new.self _ _ (more _ (grind (arith, common_steps, ap length c.parts-loads.ensures.loads)) (grind (arith, common_steps))) c.put_part.ensures.text c.put_part.ensures.short
