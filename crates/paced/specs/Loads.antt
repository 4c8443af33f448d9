-- The load of a paced part.
use Rattle.std.specs.Prelude.{ℕ, ◌*◌}
use Rattle.cycles.specs.Round.{sum}
use Rattle.loads.specs.Share.{load_of}
use Rattle.paced.specs.Runs.{at}
use Rattle.paced.specs.declared.row.Row.{Row}

-- all its costs come once in as many periods as there are costs
abbrev pub row_load : Row → ℕ
row_load r = load_of (sum (at r.costs) r.count) (r.period * r.count)
