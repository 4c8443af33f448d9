use Rattle.std.proofs.Common.{◌≡◌}
use Rattle.arrivals.specs.Steps.{played, moved}
use Rattle.arrivals.proofs.Playing.{answers_at, end_at}
use Rattle.arrivals.proofs.play.Given as goal

abbrev pub invariant-loop-place : goal.invariant-loop-place
invariant-loop-place l =
    (played l.initial.part.row l.steps l.initial.taken ≡ answers_at l.part.row l.steps l.taken l.place)
    × (moved l.initial.part.row l.steps l.initial.taken ≡ end_at l.part.row l.steps l.taken l.place)
