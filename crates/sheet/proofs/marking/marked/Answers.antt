use Rattle.std.proofs.Common.{◌≡◌, ap, ◌∙◌, subst}
use Rattle.listing.specs.Listings.{listing_text}
use Rattle.plan.specs.Judged.{Judged}
use Rattle.sheet.specs.Drafts.{Plan, plan_view}
use Rattle.sheet.specs.Marking.{bank_work, verdict_text}
use Rattle.sheet.specs.Reading.{read}
use Rattle.sheet.proofs.Telling.{listed_judged}
use Rattle.sheet.proofs.marking.marked.Goals as goal

pub returns : goal.returns
returns c =
    let s = c.in_ok-draft.field-0 in
    let j = c.judge.result in
    let v = j.verdict in
    let of_draft : plan_view c.into_plan.result ≡ s.plan = c.into_plan.ensures ∙ ap (λ x. x.plan) c.draft.view_is in
    let of_plan : plan_view j.plan ≡ s.plan = ap plan_view c.judge.ensures.plan ∙ of_draft in
    let lines : c.draft.inside.lines ≡ s.lines = ap (λ x. x.lines) c.draft.view_is in
    listed_judged (read c.args.sheet.now) s v j.bounds (listing_text c.told.result) c.in_ok-draft.ensures
    (subst (λ (p : Plan). Judged (bank_work p) p.tasks v j.bounds) of_draft c.judge.ensures.judged)
    (c.told.ensures ∙ (λ i. verdict_text (of_plan i) (lines i) v j.bounds))
