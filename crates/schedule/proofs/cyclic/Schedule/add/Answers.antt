use Rattle.std.proofs.Common.{rules, None, refl, ◌≡◌, ◌+◌, ◌<◌, sym, ap, ◌∙◌, true, take, length, arith}
use Rattle.std.proofs.lemmas.List.{length-take-le}
use Rattle.refusal.proofs.Firsts.{refused_broken}
use Rattle.schedule.specs.Makes.{follows, pair_fault, PairBreaks}
use Rattle.schedule.specs.Phases.{total_length}
use Rattle.schedule.specs.declared.slot.Slot.{Slot}
use Rattle.schedule.proofs.Breaking.{pair_broken}
use Rattle.schedule.proofs.Slots.{pushed_fit, grown_fit, grown_kept}
use Rattle.schedule.proofs.cyclic.Schedule.add.Goals as goal

pub invariant_of-self-inside : goal.invariant_of-self-inside
invariant_of-self-inside c =
    let s = c.self.inside in
    let used = take s.count s.slots in
    let pair : Slot = record { offset = c.args.offset; length = c.args.length } in
    let count : length used ≡ s.count = length-take-le s.count s.slots (omega arith) in
    let room : length used < 64 = omega (arith, c.in_ok-check.ensures.room, ap (λ v. length v.timetable.pairs) c.self.view_is) in
    let behind : follows s.cycle used pair.offset ≡ true = search rules in
    let fit = pushed_fit s.cycle used s.fit.pairs pair (omega arith) c.in_ok-check.ensures.small behind in
    (record { pairs = grown_fit s.slots s.count pair (omega arith) s.cycle _ fit (omega arith); phase = s.fit.phase }, tt)

pub invariant_of-self : goal.invariant_of-self
invariant_of-self c =
    let s = c.self.inside in
    let used = take s.count s.slots in
    let count : length used ≡ s.count = length-take-le s.count s.slots (omega arith) in
    let room : length used < 64 = omega (arith, c.in_ok-check.ensures.room, ap (λ v. length v.timetable.pairs) c.self.view_is) in
    grown_kept s.slots s.count (record { offset = c.args.offset; length = c.args.length }) (omega arith) _ (omega arith) (omega arith) (c.whole_with-whole.ensures ∙ ap (λ v. total_length v.timetable.pairs + c.args.length) (sym c.self.view_is))

pub returns-in_err-check-clause-first : goal.returns-in_err-check-clause-first
returns-in_err-check-clause-first c =
    let t = c.args.self.now.timetable in
    let o = c.args.offset in
    let z = c.args.length in
    refused_broken (PairBreaks t o z) (pair_fault t o z) 0 _ (search rules) (pair_broken t o z _ refl)

pub returns-clause-first : goal.returns-clause-first
returns-clause-first c = pair_broken c.args.self.now.timetable c.args.offset c.args.length None c.in_ok-check.ensures.answer
