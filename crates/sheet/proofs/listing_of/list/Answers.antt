use Rattle.std.proofs.Common.{length, rules}
use Rattle.listing.proofs.Breaking.{buffer_broken}
use Rattle.sheet.proofs.listing_of.list.Goals as goal

pub returns-in_err-check_room-clause-first : goal.returns-in_err-check_room-clause-first
returns-in_err-check_room-clause-first c = buffer_broken (length c.args.buffer.now) _ (search rules)
