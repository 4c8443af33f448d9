-- A log that grows by one call.
use Rattle.std.proofs.Common.{◌≡◌, ℕ, zero, suc, ◌+◌, ◌-◌, ◌^◌, ◌<◌, ◌≤◌, min, Bool, List, [], ◌∷◌, ◌++◌, Option, Some, None, true, false, cond, ◌==◌, nat_le, length, length-append, get_or, take, sym, ap, ◌∙◌, refl, append_assoc, append-nil, add-one, arith}
use Rattle.calls.specs.declared.Call.{Call}
use Rattle.calls.specs.declared.Call.TheVariants.{Offer, Release, Hold, LetGo, End, Tick}
use Rattle.calls.specs.declared.Got.{Got}
use Rattle.calls.specs.declared.Got.TheVariants.{Nobody, Part, Task}
use Rattle.calls.specs.declared.Answer.{Answer}
use Rattle.calls.specs.declared.Answer.TheVariants.{Done, Refused, Ticked}
use Rattle.calls.specs.Events.{Event, log_of, let_in, part_units}
use Rattle.calls.specs.Jobs.{Job, job_of, after, carried, ticked, served, older}
use Rattle.timeline.specs.Rows.{given, given_in, passed, passed_in, added, cells, left_of}
use Rattle.timeline.specs.Tracks.{Numbered, Counted}
use Rattle.timeline.specs.Steps.{left_after, left_ticked, less_one}

log_more : (calls : List Call) (answers : List Answer) (i : ℕ) (d : Call) (a : Answer) → i < length calls → i < length answers → log_of (take (suc i) calls) (take (suc i) answers) ≡ log_of (take i calls) (take i answers) ++ (record { call = get_or calls i d; answer = get_or answers i a } ∷ [])
log_more [] answers i d a h k = absurd (omega arith)
log_more (c ∷ calls) [] i d a h k = absurd (omega arith)
log_more (c ∷ calls) (b ∷ answers) zero d a h k = refl
log_more (c ∷ calls) (b ∷ answers) (suc i) d a h k = ap (λ log. record { call = c; answer = b } ∷ log) (log_more calls answers i d a (omega arith) (omega arith))

-- one call more
pub log_of_more : (calls : List Call) (answers : List Answer) (i : ℕ) (d : Call) (a : Answer) → i < length calls → i < length answers → log_of (take (i + 1) calls) (take (i + 1) answers) ≡ log_of (take i calls) (take i answers) ++ (record { call = get_or calls i d; answer = get_or answers i a } ∷ [])
log_of_more calls answers i d a h k = ap (λ n. log_of (take n calls) (take n answers)) (add-one i) ∙ log_more calls answers i d a h k

-- all of them, as many as there are answers for
pub log_of_whole : (calls : List Call) (answers : List Answer) (k : ℕ) → min (length calls) (length answers) ≤ k → log_of (take k calls) (take k answers) ≡ log_of calls answers
log_of_whole [] answers zero h = refl
log_of_whole [] answers (suc k) h = refl
log_of_whole (c ∷ calls) [] zero h = refl
log_of_whole (c ∷ calls) [] (suc k) h = refl
log_of_whole (c ∷ calls) (a ∷ answers) zero h = absurd (omega arith)
log_of_whole (c ∷ calls) (a ∷ answers) (suc k) h = ap (λ log. record { call = c; answer = a } ∷ log) (log_of_whole calls answers k (omega arith))

-- what was let in
pub let_in_more : (units : Call → Answer → ℕ) (log : List Event) (e : Event) → let_in units (log ++ (e ∷ [])) ≡ let_in units log + units e.call e.answer
let_in_more units [] e = omega arith
let_in_more units (b ∷ log) e = omega (arith, let_in_more units log e)

-- and what was given
pub given_more : (k : ℕ) (log : List Event) (e : Event) → given k (log ++ (e ∷ [])) ≡ given k log + given_in k e.call e.answer
given_more k [] e = omega arith
given_more k (b ∷ log) e = omega (arith, given_more k log e)

-- how many ticks passed
pub passed_more : (log : List Event) (e : Event) → passed (log ++ (e ∷ [])) ≡ passed log + passed_in e.call e.answer
passed_more [] e = omega arith
passed_more (b ∷ log) e = omega (arith, passed_more log e)

-- what becomes of a job
pub carried_more : (i : ℕ) (job : Option Job) (log : List Event) (e : Event) → carried i job (log ++ (e ∷ [])) ≡ after i (carried i job log) e.call e.answer
carried_more i job [] e = refl
carried_more i job (b ∷ log) e = carried_more i (after i job b.call b.answer) log e

-- the cells of a row
pub cells_split : (cell : List Event → Got → ℕ) (before log rest : List Event) → cells cell before (log ++ rest) ≡ cells cell before log ++ cells cell (before ++ log) rest
cells_split cell before [] rest = ap (λ b. cells cell b rest) (sym (append-nil before))
cells_split cell before (b ∷ log) rest =
    let first = added (cell before) b.call b.answer in
    let next = cells cell (before ++ (b ∷ [])) log in
    ap (λ t. first ++ t) (cells_split cell (before ++ (b ∷ [])) log rest) ∙ sym (append_assoc first next (cells cell (before ++ (b ∷ []) ++ log) rest)) ∙ ap (λ x. first ++ next ++ cells cell x rest) (append_assoc before (b ∷ []) log)

pub cells_more : (cell : List Event → Got → ℕ) (before log : List Event) (e : Event) → cells cell before (log ++ (e ∷ [])) ≡ cells cell before log ++ added (cell (before ++ log)) e.call e.answer
cells_more cell before log e = cells_split cell before log (e ∷ []) ∙ ap (λ t. cells cell before log ++ t) (append-nil (added (cell (before ++ log)) e.call e.answer))

left_cond : (b : Bool) (x y : Option Job) → left_of (cond b x y) ≡ cond b (left_of x) (left_of y)
left_cond b x y = elim b as (λ v. left_of (cond v x y) ≡ cond v (left_of x) (left_of y)) [ true ↦ refl | false ↦ refl ]

left_older : (job : Option Job) → left_of (older job) ≡ left_of job
left_older None = refl
left_older (Some j) = refl

left_served : (job : Option Job) → left_of (served job) ≡ less_one (left_of job)
left_served None = refl
left_served (Some j) = left_cond (nat_le j.left 1) None (Some (record { left = j.left - 1; age = j.age }))

left_of_ticked : (i : ℕ) (job : Option Job) (got : Got) → left_of (ticked i job got) ≡ left_ticked i (left_of job) got
left_of_ticked i job Nobody = left_older job
left_of_ticked i job (Part k) = left_older job
left_of_ticked i job (Task j a) =
    let same = left_served (older job) ∙ ap less_one (left_older job) in
    left_cond (j == i) (served (older job)) (older job) ∙ (λ k. cond (j == i) (same k) (left_older job k))

-- the units left of a job
pub left_of_after : (i : ℕ) (job : Option Job) (call : Call) (answer : Answer) → left_of (after i job call answer) ≡ left_after i (left_of job) call answer
left_of_after i job (Offer k u) answer = refl
left_of_after i job (Release j u) Done = left_cond (j == i) (Some (record { left = u; age = 0 })) job
left_of_after i job (Release j u) (Refused e) = refl
left_of_after i job (Release j u) (Ticked got) = refl
left_of_after i job (Hold j u) answer = refl
left_of_after i job (LetGo j) answer = refl
left_of_after i job (End j) Done = left_cond (j == i) None job
left_of_after i job (End j) (Refused e) = refl
left_of_after i job (End j) (Ticked got) = refl
left_of_after i job Tick Done = left_older job
left_of_after i job Tick (Refused e) = left_older job
left_of_after i job Tick (Ticked got) = left_of_ticked i job got

-- the log of the first few calls and answers
abbrev pub log_to : List Call → List Answer → ℕ → List Event
log_to calls answers n = log_of (take n calls) (take n answers)

-- it has at most as many calls
pub length-log_to : (calls : List Call) (answers : List Answer) (n : ℕ) → length (log_to calls answers n) ≤ n
length-log_to [] answers zero = omega arith
length-log_to [] answers (suc n) = omega arith
length-log_to (c ∷ calls) answers zero = omega arith
length-log_to (c ∷ calls) [] (suc n) = omega arith
length-log_to (c ∷ calls) (a ∷ answers) (suc n) = omega (arith, length-log_to calls answers n)

-- and one call more
pub log_to_more : (calls : List Call) (answers : List Answer) (n : ℕ) (e : Event) → n < length calls → n < length answers → e.call ≡ get_or calls n (Offer 0 0) → e.answer ≡ get_or answers n Done → log_to calls answers n ++ (e ∷ []) ≡ log_to calls answers (n + 1)
log_to_more calls answers n e h k call answer = (λ i. log_to calls answers n ++ (record { call = call i; answer = answer i } ∷ [])) ∙ sym (log_of_more calls answers n (Offer 0 0) Done h k)

-- a call is one tick at the most
pub passed_one : (call : Call) (answer : Answer) → passed_in call answer ≤ 1
passed_one (Offer k u) answer = omega arith
passed_one (Release i u) answer = omega arith
passed_one (Hold i u) answer = omega arith
passed_one (LetGo i) answer = omega arith
passed_one (End i) answer = omega arith
passed_one Tick Done = omega arith
passed_one Tick (Refused e) = omega arith
passed_one Tick (Ticked got) = omega arith

-- a call more for the ruler, for a part and for a task
pub numbered_more : (log : List Event) (e : Event) (next more : ℕ) → Numbered log next → more ≡ passed_in e.call e.answer → Numbered (log ++ (e ∷ [])) (next + more)
numbered_more log e next more is m = record {
  after = omega (arith, is.after, m, passed_more log e);
  few = omega (arith, is.few, m, passed_one e.call e.answer, length-append log (e ∷ []));
}

pub numbered_same : (log : List Event) (e : Event) (next : ℕ) → Numbered log next → 0 ≡ passed_in e.call e.answer → Numbered (log ++ (e ∷ [])) next
numbered_same log e next is m = record {
  after = omega (arith, is.after, m, passed_more log e);
  few = omega (arith, is.few, length-append log (e ∷ []));
}

pub counted_more : (k : ℕ) (log : List Event) (e : Event) (units got u g : ℕ) → Counted k log units got → u ≡ part_units k e.call e.answer → g ≡ given_in k e.call e.answer → u < 2 ^ 64 → g < 2 ^ 64 → Counted k (log ++ (e ∷ [])) (units + u) (got + g)
counted_more k log e units got u g is us gs a b = record {
  let_in = omega (arith, is.let_in, us, let_in_more (part_units k) log e);
  given = omega (arith, is.given, gs, given_more k log e);
  few = omega (arith, is.few, length-append log (e ∷ []));
  fewer = omega (arith, is.fewer, length-append log (e ∷ []));
}

pub left_more : (i : ℕ) (log : List Event) (e : Event) (left next : Option ℕ) → left ≡ left_of (job_of i log) → next ≡ left_after i left e.call e.answer → next ≡ left_of (job_of i (log ++ (e ∷ [])))
left_more i log e left next is more = more ∙ ap (λ l. left_after i l e.call e.answer) is ∙ sym (left_of_after i (job_of i log) e.call e.answer) ∙ ap left_of (sym (carried_more i None log e))
