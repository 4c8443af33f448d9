-- What a line says, by its first word and the rest.
use Rattle.std.proofs.Common.{◌≡◌, ℕ, List, Some, None, Option, refl, ap}
use Rattle.std.specs.Option.{ok_or}
use Rattle.refusal.specs.declared.Fault.TheVariants.{BadLine}
use Rattle.words.specs.Split.{before, onward, pieces}
use Rattle.words.proofs.Cutting.{pieces_first}
use Rattle.lines.specs.Numbers.{numbers_after}
use Rattle.lines.specs.Rows.{kind_of, Said, said, said_by, told_of, row_said, row_told}

pub said_first : (line : List ℕ) → said_by (pieces 32 line) ≡ said (kind_of (before 32 line)) (numbers_after (onward 32 line))
said_first line = ap said_by (pieces_first 32 line)

pub no_keyword : (o : Option (List ℕ)) → said None o ≡ None
no_keyword None = refl
no_keyword (Some ns) = refl

pub told_row : (o : Option Said) → ok_or (row_said o) BadLine ≡ row_told (told_of None o)
told_row None = refl
told_row (Some s) = refl
