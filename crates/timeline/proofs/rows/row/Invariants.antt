use Rattle.std.proofs.Common.{◌≡◌, [], length}
use Rattle.std.specs.Iterator.Adapters.{zip_first, zip_second}
use Rattle.std.specs.Slice.Iter.{iter_rest}
use Rattle.timeline.specs.Rows.{cells}
use Rattle.timeline.proofs.Cells.{log_to}
use Rattle.timeline.proofs.rows.row.Given as goal

-- the row has the cells of the calls so far, and the track went along them
abbrev pub invariant-loop-call : goal.invariant-loop-call
invariant-loop-call g l = record {
  can_next : (goal.iterator-loop-call g).can_next l.call-iterator;
  is_finite : (goal.iterator-loop-call g).is_finite l.call-iterator;
  row : l.row.items ≡ cells (g.T.Track.cell l.initial.track) [] (log_to (iter_rest (zip_first l.initial.call-iterator)) (iter_rest (zip_second l.initial.call-iterator)) (length l.yielded));
  went : g.T.Track.Went l.initial.track (log_to (iter_rest (zip_first l.initial.call-iterator)) (iter_rest (zip_second l.initial.call-iterator)) (length l.yielded)) l.track;
}
