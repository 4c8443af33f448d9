-- What a text written into a buffer leaves there, and the pieces that a text is made of.
use Rattle.std.specs.Prelude.{◌≡◌, ℕ, ◌+◌, ◌≤◌, List, ◌++◌, length, take, drop, decimal}
use Rattle.std.specs.List.{flat_map}
use Rattle.listing.specs.declared.pieces.Piece.{Piece}
use Rattle.listing.specs.declared.pieces.Text.{Text}
use Rattle.listing.specs.declared.pieces.Piece.TheVariants.{Fixed, Number}

-- the buffer with the text at a place, and all else as it was
abbrev pub put : List ℕ → ℕ → List ℕ → List ℕ
put buffer at text = take at buffer ++ (text ++ drop (at + length text) buffer)

abbrev pub piece_text : Piece → List ℕ
piece_text (Fixed bytes) = bytes.now
piece_text (Number n) = decimal n

abbrev pub pieces_text : List Piece → List ℕ
pieces_text pieces = flat_map piece_text pieces

-- the buffer has room for one text more
pub record HasRoom (before : Text) (text : List ℕ) : Type 0 where
  pub room : before.end + length text ≤ length before.buffer.now

-- one text more stands behind what was written before, and all else is as it was
pub record Puts (before after : Text) (text : List ℕ) : Type 0 where
  pub same : after.buffer.ghost_name ≡ before.buffer.ghost_name
  pub bytes : after.buffer.now ≡ put before.buffer.now before.end text
  pub ends : after.end ≡ before.end + length text
