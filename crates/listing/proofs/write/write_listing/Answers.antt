use Rattle.std.proofs.Common.{None, length, rules}
use Rattle.listing.proofs.Breaking.{buffer_broken}
use Rattle.listing.proofs.write.write_listing.Goals as goal

pub returns-in_err-check_room-clause-first : goal.returns-in_err-check_room-clause-first
returns-in_err-check_room-clause-first c = buffer_broken (length c.args.buffer.now) _ (search rules)

pub returns-clause-first : goal.returns-clause-first
returns-clause-first c = buffer_broken (length c.args.buffer.now) None c.in_ok-check_room.ensures
