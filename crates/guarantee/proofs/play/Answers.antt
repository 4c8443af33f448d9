use Rattle.std.proofs.Common.{◌≡◌, ◌≤◌, length, take, ◌∙◌, subst, arith}
use Rattle.std.proofs.lemmas.List.{drop-set-lt, get_or-take, length-take-le}
use Rattle.calls.specs.declared.Call.TheVariants.{Offer}
use Rattle.guarantee.specs.Playing.{Did}
use Rattle.guarantee.proofs.Played.{played_more, played_whole}
use Rattle.guarantee.proofs.play.Goals as goal

pub loop-place-preserved : goal.loop-place-preserved
loop-place-preserved g c =
    let inv = c.loop-place.invariant in
    let i = c.loop-place.place in
    let calls = c.args.calls.now in
    let n = c.min-count.result in
    let within : n ≤ length calls = omega arith in
    let cut : length (take n calls) ≡ n = length-take-le n calls within in
    let did = subst (λ x. Did g.G.Source.allowed g.G.Gate.moves x c.make.result c.loop-place.run c.make.new.run) (get_or-take n calls i (Offer 0 0) (omega (arith, cut))) c.make.ensures in
    record {
      played = played_more g.G.Source.allowed g.G.Gate.moves calls c.loop-place.answers i (Offer 0 0) c.make.result c.args.run.now c.loop-place.run c.make.new.run (omega (arith, cut)) (omega (arith, cut)) inv.played did;
      rest = λ k h. drop-set-lt k c.loop-place.answers i c.make.result (omega (arith, cut)) ∙ inv.rest k (omega arith);
    }

pub returns-clause-played : goal.returns-clause-played
returns-clause-played g c =
    let n = c.min-count.result in
    let within : n ≤ length c.args.calls.now = omega arith in
    played_whole g.G.Source.allowed g.G.Gate.moves c.args.calls.now c.loop-place.answers c.loop-place.place c.args.run.now c.loop-place.run (omega (arith, length-take-le n c.args.calls.now within)) c.loop-place.invariant.played
