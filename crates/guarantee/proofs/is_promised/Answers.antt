use Rattle.std.proofs.Common.{◌↔◌, IsTrue, sym, ap, ◌∙◌, subst}
use Rattle.run.specs.Runs.{is_accepted}
use Rattle.guarantee.specs.Promise.{Acceptable}
use Rattle.guarantee.proofs.Promising.{promised, told_acceptable}
use Rattle.guarantee.proofs.is_promised.Goals as goal

pub returns-clause-answer : goal.returns-clause-answer
returns-clause-answer g c =
    let work = g.G.Source.work in
    let j = c.args.judged.now in
    subst (λ b. IsTrue b ↔ Acceptable work j.plan) (sym (c.accepts.ensures ∙ ap is_accepted c.verdict.ensures.verdict)) (told_acceptable work j c.verdict.ensures.by_judge)

pub returns-clause-promised : goal.returns-clause-promised
returns-clause-promised g c = promised g.G.Source.work g.G.Source.allowed g.G.Gate.moves g.met.G.Source.sound g.met.G.Gate.driven
