use Rattle.std.proofs.Common.{rules, ◌≡◌, [], ◌∷◌, ◌++◌, length, sym, refl, ap, subst, ◌∙◌, arith, length-append}
use Rattle.std.specs.Iterator.Adapters.{zip_first, zip_second}
use Rattle.std.specs.Slice.Iter.{iter_rest}
use Rattle.std.proofs.lemmas.Slice.Zip.{zip_turn, zip_end}
use Rattle.calls.specs.declared.Call.TheVariants.{Offer}
use Rattle.calls.specs.declared.Answer.TheVariants.{Done}
use Rattle.calls.specs.Events.{log_of, Event}
use Rattle.timeline.specs.Rows.{added, cells}
use Rattle.timeline.proofs.Cells.{log_of_whole, log_to_more, cells_more, log_to, length-log_to}
use Rattle.timeline.proofs.rows.row.Goals as goal

pub pass-requires : goal.pass-requires
pass-requires g c =
    let zip = c.into_iter-call-iterator.result in
    let calls = iter_rest (zip_first zip) in
    let answers = iter_rest (zip_second zip) in
    let turn = zip_turn calls answers c.loop-call.yielded zip c.loop-call.call-iterator c.next.new.self c.next.result refl refl c.loop-call.yielded_by (c.in-Some.field-0-0, c.in-Some.field-0-1) c.in-Some.is c.next.ensures.steps in
    let here = ap (λ z. length (iter_rest (zip_first z))) c.into_iter-call-iterator.ensures.into_iter_gives ∙ ap (λ s. length (iter_rest s)) c.zip-call-items.ensures.first in
    (c.args.track, log_to calls answers (length c.loop-call.yielded), c.loop-call.invariant.went, omega (arith, turn.0, length-log_to calls answers (length c.loop-call.yielded), here, c.iter.ensures.bound))

pub loop-call-preserved : goal.loop-call-preserved
loop-call-preserved g c =
    let zip = c.into_iter-call-iterator.result in
    let calls = iter_rest (zip_first zip) in
    let answers = iter_rest (zip_second zip) in
    let n = length c.loop-call.yielded in
    let turn = zip_turn calls answers c.loop-call.yielded zip c.loop-call.call-iterator c.next.new.self c.next.result refl refl c.loop-call.yielded_by (c.in-Some.field-0-0, c.in-Some.field-0-1) c.in-Some.is c.next.ensures.steps in
    let inv = c.loop-call.invariant in
    let track = c.args.track in
    let e : Event = record { call = c.in-Some.field-0-0.now; answer = c.in-Some.field-0-1.now } in
    let more = log_to_more calls answers n e turn.0 turn.1 (turn.2 (Offer 0 0)) (turn.3 Done) ∙ ap (log_to calls answers) (sym (length-append c.loop-call.yielded ((c.in-Some.field-0-0, c.in-Some.field-0-1) ∷ []))) in
    record {
      can_next = search rules;
      is_finite = search rules;
      row = c.in_ok-add_cell.ensures.cell track (log_to calls answers n) inv.went ∙ (λ j. inv.row j ++ added (g.T.Track.cell track (log_to calls answers n)) e.call e.answer) ∙ sym (cells_more (g.T.Track.cell track) [] (log_to calls answers n) e) ∙ ap (cells (g.T.Track.cell track) []) more;
      went = subst (λ log. g.T.Track.Went track log c.pass.new.self) more (c.pass.ensures track (log_to calls answers n) inv.went);
    }

pub returns : goal.returns
returns g c =
    let zip = c.into_iter-call-iterator.result in
    let calls = iter_rest (zip_first zip) in
    let answers = iter_rest (zip_second zip) in
    let end = zip_end calls answers c.loop-call.yielded zip c.loop-call.call-iterator c.next.new.self c.next.result refl refl c.loop-call.yielded_by c.in-None.is c.next.ensures.steps in
    let first = ap (λ z. iter_rest (zip_first z)) c.into_iter-call-iterator.ensures.into_iter_gives ∙ ap iter_rest c.zip-call-items.ensures.first ∙ c.iter.ensures.rest in
    let two : iter_rest (zip_second c.zip-call-items.result) ≡ c.log.inside.answers.now = c.zip-call-items.ensures.second.0 in
    let second = ap (λ z. iter_rest (zip_second z)) c.into_iter-call-iterator.ensures.into_iter_gives ∙ two in
    c.loop-call.invariant.row ∙ ap (cells (g.T.Track.cell c.args.track) []) (log_of_whole calls answers (length c.loop-call.yielded) (omega arith) ∙ (λ j. log_of (first j) (second j)) ∙ c.log.view_is)
