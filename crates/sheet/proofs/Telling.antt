-- What is told of parts and tasks, one after another.
use Rattle.std.proofs.Common.{◌≡◌, ℕ, ◌<◌, List, length, get_or, Ok, Err, Result, sym, refl, ap, ◌∙◌, subst, arith}
use Rattle.std.proofs.lemmas.List.FromFn.{fill_by_all, get_or-map-range_with_len, length-map-range_with_len}
use Rattle.refusal.specs.Refusals.{plain}
use Rattle.refusal.specs.declared.Fault.TheVariants as faults
use Rattle.refusal.specs.declared.Refusal.{Refusal}
use Rattle.plan.proofs.Once.{once}
use Rattle.plan.specs.Judged.{Judged, outcome_of, bounds_told}
use Rattle.plan.specs.Tasks.{Task, task_at}
use Rattle.plan.specs.declared.verdict.Verdict.{Verdict}
use Rattle.plan.specs.declared.verdict.Verdict.TheVariants.{Accepted, NotJudgeable, Late}
use Rattle.listing.specs.Listings.{marks_text}
use Rattle.listing.specs.Texts.{refusal_text}
use Rattle.listing.specs.declared.marks.TaskMark.{TaskMark}
use Rattle.sheet.specs.Drafts.{Plan}
use Rattle.sheet.specs.Marking.{bank_work, part_loads, task_mark, mark_at, task_marks, accepted_plan, placed, late, verdict_text, ListedAs}
use Rattle.sheet.specs.Reading.{Sheet}

abbrev pub unmarked : TaskMark
unmarked = record { bound = 0; deadline = 0; load = 0 }

-- marks that say of each task what is told of it
pub marks_same : (tasks : List Task) (bounds : List ℕ) (marks : List TaskMark) → length marks ≡ length tasks → ((i : ℕ) → i < length tasks → get_or marks i unmarked ≡ mark_at tasks bounds i) → marks ≡ task_marks tasks bounds
marks_same tasks bounds marks count each = fill_by_all (mark_at tasks bounds) marks (length tasks) unmarked count each

-- the same bounds give the same text
same_bounds : (p : Plan) (list bounds : List ℕ) → ((i : ℕ) → i < length p.tasks → get_or list i 0 ≡ get_or bounds i 0) → accepted_plan p list ≡ accepted_plan p bounds
same_bounds p list bounds e =
    let at = mark_at p.tasks list in
    let told : task_marks p.tasks list ≡ task_marks p.tasks bounds =
    marks_same p.tasks bounds (task_marks p.tasks list) (length-map-range_with_len at 0 (length p.tasks))
    (λ i h. get_or-map-range_with_len at 0 (length p.tasks) i i unmarked h (omega arith) ∙ ap (task_mark (task_at p.tasks i)) (e i h)) in
    ap (λ tasks. marks_text (record { parts = part_loads p.irqs p.timetable; tasks = tasks })) told

-- the same verdict on as many tasks comes to the same
pub placed_same : (lines n m : ℕ) (v w : Verdict) → n ≡ m → v ≡ w → placed lines n (outcome_of v) ≡ placed lines m (outcome_of w)
placed_same lines n m v w e f = λ i. placed lines (e i) (outcome_of (f i))

-- a verdict that comes to no refusal is that of an accepted plan, whose tasks are all counted
pub accepted : (s : Sheet) (v : Verdict) (bounds : List ℕ) (n : ℕ) → placed s.lines (length s.plan.tasks) (outcome_of v) ≡ Ok n → Judged (bank_work s.plan) s.plan.tasks v bounds → v ≡ Accepted (length s.plan.tasks)
accepted s (Accepted m) bounds n e judged = ap Accepted judged.0
accepted s NotJudgeable bounds n e judged = let z : ◌≡◌ {A = ℕ} 0 1 = cc in absurd (omega arith)
accepted s (Late i) bounds n e judged = let z : ◌≡◌ {A = ℕ} 0 1 = cc in absurd (omega arith)

-- a verdict that comes to a refusal is told as that refusal
pub refused : (s : Sheet) (v : Verdict) (bounds : List ℕ) (e : Refusal) → placed s.lines (length s.plan.tasks) (outcome_of v) ≡ Err e → refusal_text e ≡ verdict_text s.plan s.lines v bounds
refused s (Accepted m) bounds e is = let z : ◌≡◌ {A = ℕ} 0 1 = cc in absurd (omega arith)
refused s NotJudgeable bounds e is = let same : plain faults.NotJudgeable ≡ e = cc in ap refusal_text (sym same)
refused s (Late i) bounds e is = let same : late s.lines (length s.plan.tasks) i ≡ e = cc in ap refusal_text (sym same)

-- the text of what was read and judged
pub listed_judged : (r : Result Sheet Refusal) (s : Sheet) (v : Verdict) (bounds text : List ℕ) → Ok s ≡ r → Judged (bank_work s.plan) s.plan.tasks v bounds → text ≡ verdict_text s.plan s.lines v bounds → ListedAs r text
listed_judged r s v bounds text e judged is = subst (λ x. ListedAs x text) e (v, bounds, judged, is)

-- what is read has only one listing
pub only_listed : (r : Result Sheet Refusal) (text other : List ℕ) → ListedAs r text → ListedAs r other → text ≡ other
only_listed (Err e) text other a b = a ∙ sym b
only_listed (Ok s) text other a b =
    let p = s.plan in
    let same = once (bank_work p) p.tasks a.0 a.1 a.2 b.0 b.1 b.2 in
    a.3 ∙ sym (by a.0 a.2 same.1) ∙ ap (λ v. verdict_text s.plan s.lines v b.1) (sym same.0) ∙ sym b.3
  where
    by : (v : Verdict) → Judged (bank_work s.plan) s.plan.tasks v a.1 → ((i : ℕ) → i < bounds_told v → get_or b.1 i 0 ≡ get_or a.1 i 0) → verdict_text s.plan s.lines v b.1 ≡ verdict_text s.plan s.lines v a.1
    by (Accepted n) j e = same_bounds s.plan b.1 a.1 (λ i h. e i (omega (arith, j.0)))
    by NotJudgeable j e = refl
    by (Late i) j e = refl
