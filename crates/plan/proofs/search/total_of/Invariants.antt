use Rattle.std.proofs.Common.{◌≡◌}
use Rattle.plan.specs.Needs.{total}
use Rattle.plan.proofs.search.total_of.Given as goal

abbrev pub invariant-loop-place : goal.invariant-loop-place
invariant-loop-place g l = l.all ≡ total (g.S.Source.work l.source) l.place l.ticks
