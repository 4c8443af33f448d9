-- The guarantee, put together.
use Rattle.calls.specs.Guarantee.{Guaranteed}
use Rattle.calls.proofs.Leading.{never_late}
use Rattle.calls.proofs.Limiting.{never_more}

pub guaranteed : Guaranteed
guaranteed p ok s t log fresh fits leads = (never_late p s t log ok fresh fits leads, never_more p s t log ok fresh fits leads)
