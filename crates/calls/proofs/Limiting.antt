-- What a stretch lets in is within the allowance at its start.
use Rattle.std.proofs.Common.{◌≡◌, ℕ, ◌+◌, ◌≤◌, cond, List, [], ◌∷◌, ◌++◌, ◌⊎◌, ◌≢◌, inl, inr, ap, subst, zero-add, arith}
use Rattle.std.specs.Prelude.{◌==◌}
use Rattle.std.proofs.lemmas.Bool.Decides.{nat_tests}
use Rattle.std.proofs.lemmas.Bool.{cases_eq}
use Rattle.source.specs.Facts.{Taken, Ticked}
use Rattle.calls.specs.declared.Call.{Call}
use Rattle.calls.specs.declared.Call.TheVariants.{Offer, Release, Hold, LetGo, End, Tick}
use Rattle.calls.specs.declared.Answer.{Answer}
use Rattle.calls.specs.declared.Answer.TheVariants as answers
use Rattle.calls.specs.Events.{Event, tick_in, ticks, part_units, task_units, let_in, let_in_part, let_in_task, then_tick}
use Rattle.calls.specs.Rules.{NeverMore}
use Rattle.calls.specs.States.{Plan, Accepted, State, Fits, Fresh}
use Rattle.calls.specs.Steps.{Step, Leads}
use Rattle.calls.proofs.Staying.{safe_start}
use Rattle.calls.proofs.Leading.{parted, safe_along}

some_tick : (front : List Event) (a : Answer) → 1 ≤ ticks (then_tick front a)
some_tick [] a = omega arith
some_tick (e ∷ front) a = omega (arith, some_tick front a)

-- an allowance v, of one part or task, of which each call takes the units that it lets in, and each tick one tick
module _ (p : Plan) (v : State → ℕ → ℕ) (units : Call → Answer → ℕ) (moves : (s t : State) (c : Call) (a : Answer) → Step p s c a t → (l : ℕ) → 1 ≤ tick_in c + l → units c a + v t l ≤ v s (tick_in c + l)) where
  pub limited : (s t : State) (front : List Event) (a : Answer) → Leads p s (then_tick front a) t → let_in units (then_tick front a) ≤ v s (ticks (then_tick front a))
  limited s t [] a h = omega (arith, moves s h.0 Tick a h.1 0 (omega arith))
  limited s t (e ∷ front) a h =
      let more : 1 ≤ ticks (then_tick front a) = some_tick front a in
      let later : let_in units (then_tick front a) ≤ v h.0 (ticks (then_tick front a)) = limited h.0 t front a h.3 in
      omega (arith, moves s h.0 e.call e.answer h.1 (ticks (then_tick front a)) (omega arith))

taken_view : (f g : ℕ → ℕ → ℕ) (j u k l : ℕ) → Taken f j u g → 1 ≤ l → cond (j == k) u 0 + g k l ≤ f k (0 + l)
taken_view f g j u k l taken some = go (cases_eq k j)
  where
    same : f k (0 + l) ≡ f k l
    same = ap (f k) (zero-add l)

    go : (k ≡ j) ⊎ (k ≢ j) → cond (j == k) u 0 + g k l ≤ f k (0 + l)
    go (inl e) =
        let w : u + g j l ≤ f j l = taken.within l some in
        let here : f k l ≡ f j l = ap (λ x. f x l) e in
        let here' : g k l ≡ g j l = ap (λ x. g x l) e in
        let back = same in
        grind (arith, nat_tests)
    go (inr ne) =
        let w : g k l ≡ f k l = taken.others k l ne in
        let back = same in
        grind (arith, nat_tests)

ticked_view : (f g : ℕ → ℕ → ℕ) (k l : ℕ) → Ticked f g → 0 + g k l ≤ f k (1 + l)
ticked_view f g k l ticked =
    let e : l + 1 ≡ 1 + l = omega arith in
    let same : f k (l + 1) ≡ f k (1 + l) = ap (f k) e in
    omega (arith, ticked.shorter k l)

kept_view : (f g : ℕ → ℕ → ℕ) (k l : ℕ) → g ≡ f → 0 + g k l ≤ f k (0 + l)
kept_view f g k l e =
    let same : f k (0 + l) ≡ f k l = ap (f k) (zero-add l) in
    let here : g k l ≡ f k l = (λ x. e x k l) in
    omega arith

part_moves : (p : Plan) (k : ℕ) (s t : State) (c : Call) (a : Answer) → Step p s c a t → (l : ℕ) → 1 ≤ tick_in c + l → part_units k c a + t.bank k l ≤ s.bank k (tick_in c + l)
part_moves p k s t (Offer j u) answers.Done h l some = taken_view s.bank t.bank j u k l h.taken (omega arith)
part_moves p k s t (Release j u) answers.Done h l some = kept_view s.bank t.bank k l (ap (λ x. x.bank) h.rest)
part_moves p k s t (Hold j u) answers.Done h l some = kept_view s.bank t.bank k l (ap (λ x. x.bank) h.rest)
part_moves p k s t (LetGo j) answers.Done h l some = kept_view s.bank t.bank k l (ap (λ x. x.bank) h.rest)
part_moves p k s t (End j) answers.Done h l some = kept_view s.bank t.bank k l (ap (λ x. x.bank) h.rest)
part_moves p k s t Tick (answers.Ticked got) h l some = ticked_view s.bank t.bank k l h.bank
part_moves p k s t (Offer j u) (answers.Refused e) h l some = kept_view s.bank t.bank k l (ap (λ x. x.bank) h)
part_moves p k s t (Release j u) (answers.Refused e) h l some = kept_view s.bank t.bank k l (ap (λ x. x.bank) h)
part_moves p k s t (Hold j u) (answers.Refused e) h l some = kept_view s.bank t.bank k l (ap (λ x. x.bank) h)
part_moves p k s t (LetGo j) (answers.Refused e) h l some = kept_view s.bank t.bank k l (ap (λ x. x.bank) h)
part_moves p k s t (End j) (answers.Refused e) h l some = kept_view s.bank t.bank k l (ap (λ x. x.bank) h)
part_moves p k s t c a h l some = absurd h

task_moves : (p : Plan) (i : ℕ) (s t : State) (c : Call) (a : Answer) → Step p s c a t → (l : ℕ) → 1 ≤ tick_in c + l → task_units i c a + t.tasks i l ≤ s.tasks i (tick_in c + l)
task_moves p i s t (Offer j u) answers.Done h l some = kept_view s.tasks t.tasks i l (ap (λ x. x.tasks) h.rest)
task_moves p i s t (Release j u) answers.Done h l some = taken_view s.tasks t.tasks j u i l h.taken (omega arith)
task_moves p i s t (Hold j u) answers.Done h l some = kept_view s.tasks t.tasks i l (ap (λ x. x.tasks) h.rest)
task_moves p i s t (LetGo j) answers.Done h l some = kept_view s.tasks t.tasks i l (ap (λ x. x.tasks) h.rest)
task_moves p i s t (End j) answers.Done h l some = kept_view s.tasks t.tasks i l (ap (λ x. x.tasks) h.rest)
task_moves p i s t Tick (answers.Ticked got) h l some = ticked_view s.tasks t.tasks i l h.tasks
task_moves p i s t (Offer j u) (answers.Refused e) h l some = kept_view s.tasks t.tasks i l (ap (λ x. x.tasks) h)
task_moves p i s t (Release j u) (answers.Refused e) h l some = kept_view s.tasks t.tasks i l (ap (λ x. x.tasks) h)
task_moves p i s t (Hold j u) (answers.Refused e) h l some = kept_view s.tasks t.tasks i l (ap (λ x. x.tasks) h)
task_moves p i s t (LetGo j) (answers.Refused e) h l some = kept_view s.tasks t.tasks i l (ap (λ x. x.tasks) h)
task_moves p i s t (End j) (answers.Refused e) h l some = kept_view s.tasks t.tasks i l (ap (λ x. x.tasks) h)
task_moves p i s t c a h l some = absurd h

pub never_more : (p : Plan) (s t : State) (log : List Event) → Accepted p → Fresh s → Fits p s → Leads p s log t → NeverMore p.bank.demand p.tasks.demand log
never_more p s t log ok fresh fits leads = record { parts = parts; tasks = tasks }
  where
    -- the state at the start of a stretch, and the one at its end
    between : (before stretch rest : List Event) → log ≡ before ++ stretch ++ rest → (m : State) × (n : State) × Fits p m × Leads p m stretch n
    between before stretch rest e =
        let outer = parted p s t (before ++ stretch) rest (subst (λ x. Leads p s x t) e leads) in
        let inner = parted p s outer.0 before stretch outer.1 in
        (inner.0, outer.0, (safe_along p s inner.0 before ok (safe_start p s ok fits fresh) inner.1).fits, inner.2)

    parts : (before stretch rest : List Event) (a : Answer) (k : ℕ) → log ≡ before ++ then_tick stretch a ++ rest → let_in_part k (then_tick stretch a) ≤ p.bank.demand k (ticks (then_tick stretch a))
    parts before stretch rest a k e =
        let q = between before (then_tick stretch a) rest e in
        omega (arith, limited p (λ x. x.bank k) (part_units k) (part_moves p k) q.0 q.1 stretch a q.3, q.2.bank.within k (ticks (then_tick stretch a)))

    tasks : (before stretch rest : List Event) (a : Answer) (i : ℕ) → log ≡ before ++ then_tick stretch a ++ rest → let_in_task i (then_tick stretch a) ≤ p.tasks.demand i (ticks (then_tick stretch a))
    tasks before stretch rest a i e =
        let q = between before (then_tick stretch a) rest e in
        omega (arith, limited p (λ x. x.tasks i) (task_units i) (task_moves p i) q.0 q.1 stretch a q.3, q.2.tasks.within i (ticks (then_tick stretch a)))
