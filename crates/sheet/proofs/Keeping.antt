-- Nine costs are enough to see that there are too many: the rows make the same plan as the lines.
use Rattle.std.proofs.Common.{◌≡◌, ℕ, ◌+◌, ◌-◌, ◌<◌, ◌≤◌, min, Bool, true, false, cond, eqb, ltb, leb, List, ◌++◌, length, take, replicate, Some, None, Ok, Err, Option, Result, sym, refl, ap, ◌∙◌, inl, inr, arith}
use Rattle.std.proofs.lemmas.List.{take_all, take_at, length-take-le}
use Rattle.std.proofs.lemmas.Bool.{cases_lt, lt-leb, cond-false}
use Rattle.refusal.specs.Refusals.{plain, refusal_of}
use Rattle.refusal.specs.Table.{row, first_of}
use Rattle.refusal.specs.declared.Fault.{Fault}
use Rattle.refusal.specs.declared.Fault.TheVariants.{BadLine, TooMany, OutOfRange, Misfit}
use Rattle.paced.specs.Makes.{Asked, given_right, fault_of, adding}
use Rattle.plan.specs.Limits.{limit_fault}
use Rattle.plan.specs.declared.tasks.Limit.{Limit}
use Rattle.lines.specs.Rows.{Said, cycle, at, irq, task, costs_of, row_told}
use Rattle.sheet.specs.Drafts.{Plan, with_irq, with_task, unless, irq_line, task_line}
use Rattle.sheet.specs.Reading.{next}
use Rattle.sheet.specs.Rowing.{kept, next_row}

kept_is : (cs : List ℕ) → kept (costs_of cs) ≡ take 9 cs
kept_is cs =
    elim (cases_lt (length cs) 9) [
      | inl short ↦
          let all : take 9 cs ≡ cs = take_all 9 cs (omega arith) in
          let count : min 9 (min 9 (length cs)) ≡ length (take 9 cs) = omega (arith, ap length all) in
          ap (λ k. take k (take 9 cs ++ replicate (9 - length cs) 0)) count ∙ take_at (take 9 cs) (replicate (9 - length cs) 0) (length (take 9 cs)) refl
      | inr long ↦
          let nine : length (take 9 cs) ≡ 9 = length-take-le 9 cs long in
          let count : min 9 (min 9 (length cs)) ≡ length (take 9 cs) = omega (arith, nine) in
          ap (λ k. take k (take 9 cs ++ replicate (9 - length cs) 0)) count ∙ take_at (take 9 cs) (replicate (9 - length cs) 0) (length (take 9 cs)) refl
    ]

either_way : (b : Bool) (f : Option Fault) → f ≡ Some TooMany → cond b f (Some TooMany) ≡ Some TooMany
either_way true f e = e
either_way false f e = refl

-- more than eight costs are too many, whatever they are
too_many : (most n : ℕ) (a : Asked) → 8 < length a.costs → adding most n a ≡ Some TooMany
too_many most n a h = either_way (ltb n most) (fault_of a) (cond-false (leb (length a.costs) 8) (cond (given_right a) (cond (ltb a.jitter a.period) None (Some Misfit)) (Some OutOfRange)) (Some TooMany) (lt-leb (length a.costs) 8 h))

-- what is asked, with at most nine of its costs
abbrev nine_of : Asked → Asked
nine_of a = record { period = a.period; jitter = a.jitter; costs = take 9 a.costs }

nine_all : (a : Asked) → length a.costs < 9 → nine_of a ≡ a
nine_all a h = ap (λ cs. record { period = a.period; jitter = a.jitter; costs = cs }) (take_all 9 a.costs (omega arith))

nine_many : (a : Asked) → 9 ≤ length a.costs → 8 < length (take 9 a.costs)
nine_many a h = omega (arith, length-take-le 9 a.costs h)

same_irq : (p : Plan) (a : Asked) → irq_line p (nine_of a) ≡ irq_line p a
same_irq p a =
    elim (cases_lt (length a.costs) 9) [
      | inl short ↦ ap (irq_line p) (nine_all a short)
      | inr long ↦
          ap (λ f. cond (eqb (length p.tasks) 0) (unless (refusal_of f 0) (with_irq p (nine_of a))) (Err (plain BadLine))) (too_many 8 (length p.irqs) (nine_of a) (nine_many a long))
          ∙ sym (ap (λ f. cond (eqb (length p.tasks) 0) (unless (refusal_of f 0) (with_irq p a)) (Err (plain BadLine))) (too_many 8 (length p.irqs) a (omega arith)))
    ]

-- a fault is found where the costs are too many, whatever the limits are
some_fault : (f : Option Fault) (n : ℕ) (p q : Plan) → unless (refusal_of (first_of (Some TooMany) f) n) p ≡ unless (refusal_of (first_of (Some TooMany) f) n) q
some_fault None n p q = refl
some_fault (Some g) n p q = go (leb 5 (row_number g))
  where
    row_number : Fault → ℕ
    row_number x = (row x).number

    go : (b : Bool) → unless (refusal_of (cond b (Some TooMany) (Some g)) n) p ≡ unless (refusal_of (cond b (Some TooMany) (Some g)) n) q
    go true = refl
    go false = refl

same_task : (p : Plan) (a : Asked) (l : Limit) → task_line p (nine_of a) l ≡ task_line p a l
same_task p a l =
    let limits = limit_fault p.tasks a l in
    let n = length p.tasks + 1 in
    elim (cases_lt (length a.costs) 9) [
      | inl short ↦ ap (λ b. task_line p b l) (nine_all a short)
      | inr long ↦
          ap (λ f. unless (refusal_of (first_of f limits) n) (with_task p (nine_of a) l)) (too_many 16 (length p.tasks) (nine_of a) (nine_many a long))
          ∙ some_fault limits n (with_task p (nine_of a) l) (with_task p a l)
          ∙ sym (ap (λ f. unless (refusal_of (first_of f limits) n) (with_task p a l)) (too_many 16 (length p.tasks) a (omega arith)))
    ]

pub same_next : (o : Option Plan) (r : Result Said Fault) → next_row o (row_told r) ≡ next o r
same_next o (Err f) = refl
same_next None (Ok (cycle c)) = refl
same_next None (Ok (at u z)) = refl
same_next None (Ok (irq t j cs)) = refl
same_next None (Ok (task t j b d h cs)) = refl
same_next (Some p) (Ok (cycle c)) = refl
same_next (Some p) (Ok (at u z)) = refl
same_next (Some p) (Ok (irq t j cs)) = ap (λ cs. irq_line p (record { period = t; jitter = j; costs = cs })) (kept_is cs) ∙ same_irq p (record { period = t; jitter = j; costs = cs })
same_next (Some p) (Ok (task t j b d h cs)) =
    let l : Limit = record { blocking = b; deadline = d; hold = h } in
    ap (λ cs. task_line p (record { period = t; jitter = j; costs = cs }) l) (kept_is cs) ∙ same_task p (record { period = t; jitter = j; costs = cs }) l
