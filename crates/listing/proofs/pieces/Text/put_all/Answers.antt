use Rattle.std.proofs.Common.{◌+◌, arith}
use Rattle.listing.specs.Put.{piece_text, pieces_text}
use Rattle.listing.proofs.Placing.{joined_push, joined_front, room_more, puts_more}
use Rattle.listing.proofs.pieces.Text.put_all.Goals as goal

pub put_piece-requires : goal.put_piece-requires
put_piece-requires c =
    let l = c.loop-piece in
    let ps = c.args.pieces.now in
    room_more c.args.self.now l.self _ l.invariant _ _ (pieces_text ps) (joined_push piece_text ps l.piece-index _ (omega arith)) (joined_front piece_text ps (l.piece-index + 1)) c.requires

pub loop-piece-preserved : goal.loop-piece-preserved
loop-piece-preserved c =
    let l = c.loop-piece in
    let ps = c.args.pieces.now in
    puts_more c.args.self.now l.self _ l.invariant _ _ (pieces_text ps) (joined_push piece_text ps l.piece-index _ (omega arith)) (joined_front piece_text ps (l.piece-index + 1)) c.requires c.put_piece.new.self c.put_piece.ensures
