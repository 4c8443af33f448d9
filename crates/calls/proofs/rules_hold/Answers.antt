use Rattle.calls.proofs.Guaranteeing.{guaranteed}
use Rattle.calls.proofs.rules_hold.Goals as goal

pub returns : goal.returns
returns c = guaranteed
