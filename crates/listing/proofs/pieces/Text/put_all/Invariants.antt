use Rattle.std.proofs.Common.{take}
use Rattle.listing.specs.Put.{pieces_text, Puts}
use Rattle.listing.proofs.pieces.Text.put_all.Given as goal

abbrev pub invariant-loop-piece : goal.invariant-loop-piece
invariant-loop-piece l = Puts l.initial.self l.self (pieces_text (take l.piece-index l.pieces))
