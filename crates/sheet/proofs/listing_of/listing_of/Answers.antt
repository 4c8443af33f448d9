use Rattle.words.proofs.Cutting.{only_cut}
use Rattle.sheet.proofs.listing_of.listing_of.Goals as goal

pub returns-clause-lines : goal.returns-clause-lines
returns-clause-lines c = only_cut 10 c.args.sheet.now
