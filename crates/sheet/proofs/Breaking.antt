-- What is wrong with a sheet keeps to the law of refusals.
use Rattle.std.proofs.Common.{◌≡◌, ◌↔◌, ℕ, ◌+◌, ◌≤◌, ◌⊎◌, Bool, true, false, cond, ◌&&◌, eqb, leb, List, [], ◌∷◌, ◌++◌, length, Some, None, Ok, Err, Option, Result, refl, sym, ap, ◌∙◌, subst, inl, inr, append_assoc, arith}
use Rattle.std.specs.Option.{option_or}
use Rattle.std.specs.Result.{result_err}
use Rattle.std.proofs.lemmas.Bool.{cases_Bool, cond-true, cond-false, lt-leb}
use Rattle.std.proofs.lemmas.Bool.Decides.{nat_tests}
use Rattle.std.proofs.lemmas.List.{length_push}
use Rattle.refusal.specs.Laws.{FirstBroken}
use Rattle.refusal.specs.Refusals.{plain, refusal_of, fault_in}
use Rattle.refusal.specs.Table.{row}
use Rattle.refusal.specs.declared.Fault.{Fault}
use Rattle.refusal.specs.declared.Fault.TheVariants.{SheetTooLong, ForeignByte, BadLine, TooMany, OutOfRange, Misfit, HoldAboveBlocking}
use Rattle.refusal.specs.declared.Refusal.{Refusal}
use Rattle.refusal.proofs.Firsts.{none_broken, some_broken, same_broken, either_broken}
use Rattle.paced.specs.Makes.{Asked, adding, PaceBreaks, PartBreaks}
use Rattle.paced.proofs.Breaking.{part_broken}
use Rattle.schedule.specs.Makes.{cycle_fault, pair_fault, CycleBreaks, PairBreaks}
use Rattle.schedule.specs.Phases.{Timetable}
use Rattle.schedule.proofs.Breaking.{cycle_broken, pair_broken}
use Rattle.plan.specs.Limits.{task_fault, TaskBreaks}
use Rattle.plan.specs.Tasks.{Task}
use Rattle.plan.specs.declared.tasks.Limit.{Limit}
use Rattle.plan.proofs.Breaking.{task_broken}
use Rattle.words.specs.Split.{pieces}
use Rattle.words.proofs.Cutting.{pieces_some}
use Rattle.lines.specs.Rows.{Said, cycle, at, irq, task, written, Sayable, read_line, LineBreaks}
use Rattle.lines.proofs.Breaking.{line_broken, line_lined}
use Rattle.lines.proofs.Written.{line_rule}
use Rattle.sheet.specs.Drafts.{Plan, opened, with_pair, with_irq, with_task, unless, begin_with, go_on_with}
use Rattle.sheet.specs.Faulty.{Misplaced, AddingBreaks, RowBreaks, PlacedBreaks, Passed, LastBreaks, Decided, FirstFaulty}
use Rattle.sheet.specs.Reading.{on_line, at_line, next, ended, and_then, read_on, read}
use Rattle.sheet.proofs.Lining.{short_enough}

-- a fault that is about a line, and whose number is no smaller than that of a bad line
record Later (f : Fault) : Type 0 where
  least : 4 ≤ (row f).number
  lined : (row f).lined ≡ true

cycle_later : (c : ℕ) (f : Fault) → CycleBreaks c f → Later f
unfolding CycleBreaks
cycle_later c OutOfRange b = record { least = omega arith; lined = refl }
cycle_later c other b = absurd b

pair_later : (t : Timetable) (o z : ℕ) (f : Fault) → PairBreaks t o z f → Later f
unfolding PairBreaks
pair_later t o z TooMany b = record { least = omega arith; lined = refl }
pair_later t o z OutOfRange b = record { least = omega arith; lined = refl }
pair_later t o z Misfit b = record { least = omega arith; lined = refl }
pair_later t o z other b = absurd b

part_later : (most n : ℕ) (a : Asked) (f : Fault) → PartBreaks most n a f → Later f
unfolding PartBreaks PaceBreaks
part_later most n a TooMany b = record { least = omega arith; lined = refl }
part_later most n a OutOfRange b = record { least = omega arith; lined = refl }
part_later most n a Misfit b = record { least = omega arith; lined = refl }
part_later most n a other b = absurd b

task_later : (tasks : List Task) (a : Asked) (l : Limit) (f : Fault) → TaskBreaks tasks a l f → Later f
unfolding TaskBreaks
task_later tasks a l TooMany b = record { least = omega arith; lined = refl }
task_later tasks a l OutOfRange b = record { least = omega arith; lined = refl }
task_later tasks a l Misfit b = record { least = omega arith; lined = refl }
task_later tasks a l HoldAboveBlocking b = record { least = omega arith; lined = refl }
task_later tasks a l other b = absurd b

adding_later : (o : Option Plan) (s : Said) (f : Fault) → AddingBreaks o s f → Later f
adding_later None (cycle c) f b = cycle_later c f b
adding_later None (at o z) f b = absurd b
adding_later None (irq t j cs) f b = absurd b
adding_later None (task t j b d h cs) f k = absurd k
adding_later (Some p) (cycle c) f b = cycle_later c f b
adding_later (Some p) (at o z) f b = pair_later p.timetable o z f b
adding_later (Some p) (irq t j cs) f b = part_later 8 (length p.irqs) (record { period = t; jitter = j; costs = cs }) f b
adding_later (Some p) (task t j b d h cs) f k = task_later p.tasks (record { period = t; jitter = j; costs = cs }) (record { blocking = b; deadline = d; hold = h }) f k

-- nothing that is added is a bad line
no_bad_line : (o : Option Plan) (s : Said) → AddingBreaks o s BadLine → ⊥
unfolding CycleBreaks PairBreaks PartBreaks PaceBreaks TaskBreaks
no_bad_line None (cycle c) b = b
no_bad_line None (at o z) b = b
no_bad_line None (irq t j cs) b = b
no_bad_line None (task t j b d h cs) k = k
no_bad_line (Some p) (cycle c) b = b
no_bad_line (Some p) (at o z) b = b
no_bad_line (Some p) (irq t j cs) b = b
no_bad_line (Some p) (task t j b d h cs) k = k

module _ (o : Option Plan) (s : Said) where
  same_adding : (Misplaced o s → ⊥) → (f : Fault) → AddingBreaks o s f ↔ RowBreaks o s f
  unfolding RowBreaks
  same_adding right BadLine = (λ b. absurd (no_bad_line o s b), λ b. absurd (right b))
  same_adding right other = (λ b. b, λ b. b)

  -- a row in its place breaks what is broken by adding it
  in_place : (x : Option Fault) → (Misplaced o s → ⊥) → FirstBroken (AddingBreaks o s) x → FirstBroken (RowBreaks o s) x
  in_place x right first = same_broken (AddingBreaks o s) (RowBreaks o s) x (same_adding right) first

  misplaced : Misplaced o s → RowBreaks o s BadLine
  unfolding RowBreaks
  misplaced b = b

  row_later : (f : Fault) → RowBreaks o s f → Later f
  unfolding RowBreaks
  row_later BadLine b = record { least = omega arith; lined = refl }
  row_later other b = adding_later o s other b

  -- and elsewhere it is a bad line
  out_of_place : Misplaced o s → FirstBroken (RowBreaks o s) (Some BadLine)
  out_of_place b = some_broken (RowBreaks o s) BadLine (misplaced b) (λ g k. (row_later g k).least)

fault_unless : (x : Option Fault) (i : ℕ) (p : Plan) → fault_in (result_err (unless (refusal_of x i) p)) ≡ x
fault_unless None i p = refl
fault_unless (Some f) i p = refl

-- what a row makes of the plan so far
abbrev made : Option Plan → Said → Result Plan Refusal
made None s = begin_with s
made (Some p) s = go_on_with p s

pair_broken_here : (p : Plan) (o z : ℕ) (b : Bool) → (eqb (length p.irqs) 0 && eqb (length p.tasks) 0) ≡ b → FirstBroken (RowBreaks (Some p) (at o z)) (fault_in (result_err (cond b (unless (refusal_of (pair_fault p.timetable o z) 0) (with_pair p o z)) (Err (plain BadLine)))))
pair_broken_here p o z true e = in_place (Some p) (at o z) _ (λ h. elim h [ inl k ↦ grind (arith, nat_tests) | inr k ↦ grind (arith, nat_tests) ]) (pair_broken p.timetable o z _ (fault_unless (pair_fault p.timetable o z) 0 (with_pair p o z)))
pair_broken_here p o z false e = out_of_place (Some p) (at o z) (some_there (length p.irqs) (length p.tasks) e)
  where
    some_there : (n m : ℕ) → (eqb n 0 && eqb m 0) ≡ false → (1 ≤ n) ⊎ (1 ≤ m)
    some_there n m e = elim (cases_Bool (eqb n 0)) [ inl t ↦ inr (grind (arith, nat_tests)) | inr f ↦ inl (grind (arith, nat_tests)) ]

irq_broken_here : (p : Plan) (t j : ℕ) (cs : List ℕ) (b : Bool) → eqb (length p.tasks) 0 ≡ b → FirstBroken (RowBreaks (Some p) (irq t j cs)) (fault_in (result_err (cond b (unless (refusal_of (adding 8 (length p.irqs) (record { period = t; jitter = j; costs = cs })) 0) (with_irq p (record { period = t; jitter = j; costs = cs }))) (Err (plain BadLine)))))
irq_broken_here p t j cs true e =
    let a : Asked = record { period = t; jitter = j; costs = cs } in
    in_place (Some p) (irq t j cs) _ (λ h. grind (arith, nat_tests)) (part_broken 8 (length p.irqs) a _ (fault_unless (adding 8 (length p.irqs) a) 0 (with_irq p a)))
irq_broken_here p t j cs false e = out_of_place (Some p) (irq t j cs) (grind (arith, nat_tests))

row_broken : (o : Option Plan) (s : Said) → FirstBroken (RowBreaks o s) (fault_in (result_err (made o s)))
row_broken None (cycle c) = in_place None (cycle c) _ (λ b. b) (cycle_broken c _ (fault_unless (cycle_fault c) 0 (opened c)))
row_broken None (at o z) = out_of_place None (at o z) tt
row_broken None (irq t j cs) = out_of_place None (irq t j cs) tt
row_broken None (task t j b d h cs) = out_of_place None (task t j b d h cs) tt
row_broken (Some p) (cycle c) = out_of_place (Some p) (cycle c) tt
row_broken (Some p) (at o z) = pair_broken_here p o z (eqb (length p.irqs) 0 && eqb (length p.tasks) 0) refl
row_broken (Some p) (irq t j cs) = irq_broken_here p t j cs (eqb (length p.tasks) 0) refl
row_broken (Some p) (task t j b d h cs) =
    let a : Asked = record { period = t; jitter = j; costs = cs } in
    let l : Limit = record { blocking = b; deadline = d; hold = h } in
    in_place (Some p) (task t j b d h cs) _ (λ b. b) (task_broken p.tasks a l _ (fault_unless (task_fault p.tasks a l) (length p.tasks + 1) (with_task p a l)))

-- which rules are broken for what a line says
abbrev SaidBreaks : Option Plan → List ℕ → Fault → Type 0
SaidBreaks o line f = (s : Said) × (line ≡ written s) × Sayable s × RowBreaks o s f

abbrev said_fault : Option Plan → Result Said Fault → Option Fault
said_fault o (Err f) = None
said_fault o (Ok s) = fault_in (result_err (made o s))

fault_either : (o : Option Plan) (r : Result Said Fault) → option_or (result_err r) (said_fault o r) ≡ fault_in (result_err (next o r))
fault_either o (Err f) = refl
fault_either None (Ok s) = refl
fault_either (Some p) (Ok s) = refl

module _ (o : Option Plan) (line : List ℕ) where
  reads_said : (s : Said) → line ≡ written s → Sayable s → read_line line ≡ Ok s
  reads_said s is fit = (line_rule line).1 s is fit

  same_said : (s t : Said) → read_line line ≡ Ok s → read_line line ≡ Ok t → t ≡ s
  same_said s t e k = cc

  not_said : (f : Fault) (s : Said) → read_line line ≡ Err f → read_line line ≡ Ok s → ⊥
  not_said f s e k = cc

  said_broken : (r : Result Said Fault) → read_line line ≡ r → FirstBroken (SaidBreaks o line) (said_fault o r)
  said_broken (Err f) e = none_broken (SaidBreaks o line) (λ g b. not_said f b.0 e (reads_said b.0 b.1 b.2))
  said_broken (Ok s) e =
      let is = (line_rule line).0 s e in
      same_broken (RowBreaks o s) (SaidBreaks o line) _
      (λ f. ((λ b. (s, is.0, is.1, b)), (λ b. subst (λ t. RowBreaks o t f) (same_said s b.0 e (reads_said b.0 b.1 b.2)) b.3)))
      (row_broken o s)

  -- what says something breaks no rule of a line alone
  line_before : (f g : Fault) → LineBreaks line f → SaidBreaks o line g → (row f).number ≤ (row g).number
  line_before f g b c = absurd ((subst (λ r. FirstBroken (LineBreaks line) (result_err r)) (reads_said c.0 c.1 c.2) (line_broken line)).none.0 refl f b)

  -- what is given for a line where it stands
  placed_broken : (r : Result Plan Refusal) → next o (read_line line) ≡ r → FirstBroken (PlacedBreaks o line) (fault_in (result_err r))
  placed_broken r e =
      subst (FirstBroken (PlacedBreaks o line)) (fault_either o (read_line line) ∙ ap (λ k. fault_in (result_err k)) e)
      (either_broken (LineBreaks line) (SaidBreaks o line) (result_err (read_line line)) (said_fault o (read_line line)) (line_broken line) (said_broken (read_line line) refl) line_before)

  placed_lined : (f : Fault) → PlacedBreaks o line f → (row f).lined ≡ true
  placed_lined f (inl b) = line_lined line f b
  placed_lined f (inr b) = (row_later o b.0 f b.3).lined

-- one line more
passed_on : (o so_far : Option Plan) (lines : List (List ℕ)) (line : List ℕ) (p : Plan) → Passed o lines so_far → ((f : Fault) → PlacedBreaks so_far line f → ⊥) → next so_far (read_line line) ≡ Ok p → Passed o (lines ++ line ∷ []) (Some p)
passed_on o so_far [] line p h none e = subst (λ k. Passed k (line ∷ []) (Some p)) h (none, (p, e, refl))
passed_on o so_far (first ∷ lines) line p (right, (q, makes, rest)) none e = (right, (q, makes, passed_on (Some q) so_far lines line p rest none e))

-- behind a line there is a plan
stays : (p : Plan) (lines : List (List ℕ)) → Passed (Some p) lines None → ⊥
stays p [] h = cc
stays p (line ∷ lines) (right, (q, makes, rest)) = stays q lines rest

-- the last piece
module _ (o : Option Plan) (last : List ℕ) where
  last_later : (f : Fault) → LastBreaks o last f → 2 ≤ (row f).number
  unfolding LastBreaks
  last_later ForeignByte b = omega arith
  last_later BadLine b = omega arith
  last_later other b = absurd b

  foreign_last : 1 ≤ length last → FirstBroken (LastBreaks o last) (Some ForeignByte)
  unfolding LastBreaks
  foreign_last h = some_broken (LastBreaks o last) ForeignByte h last_later

  bad_later : length last ≡ 0 → (f : Fault) → LastBreaks o last f → 4 ≤ (row f).number
  unfolding LastBreaks
  bad_later h ForeignByte b = absurd (omega arith)
  bad_later h BadLine b = omega arith
  bad_later h other b = absurd b

  bad_last : o ≡ None → length last ≡ 0 → FirstBroken (LastBreaks o last) (Some BadLine)
  unfolding LastBreaks
  bad_last e h = some_broken (LastBreaks o last) BadLine (e, h) (bad_later h)

  right_last : (p : Plan) → o ≡ Some p → length last ≡ 0 → (f : Fault) → LastBreaks o last f → ⊥
  unfolding LastBreaks
  right_last p e h ForeignByte b = omega arith
  right_last p e h BadLine b = let z = sym e ∙ b.0 in cc
  right_last p e h other b = b

decided_last : (done : List (List ℕ)) (last : List ℕ) (o : Option Plan) (b : Bool) → eqb (length last) 0 ≡ b → Passed None done o → Decided (done ++ last ∷ []) (result_err (cond b (ended (length done) o) (Err (on_line (length done + 1) (plain ForeignByte)))))
decided_last done last o false e h = record { before = done; piece = last; after = []; so_far = o; cut = refl; passed = h; first = foreign_last o last (grind (arith, nat_tests)); line = refl; all = λ k. refl }
decided_last [] last None true e h = record { before = []; piece = last; after = []; so_far = None; cut = refl; passed = h; first = bad_last None last refl (grind (arith, nat_tests)); line = refl; all = λ k. refl }
decided_last (line ∷ done) last None true e (right, (q, makes, rest)) = absurd (stays q done rest)
decided_last done last (Some p) true e h = record { before = done; piece = last; after = []; so_far = Some p; cut = refl; passed = h; first = none_broken (LastBreaks (Some p) last) (right_last (Some p) last p refl (grind (arith, nat_tests))); line = tt; all = λ k. refl }

decided_line : (done : List (List ℕ)) (line : List ℕ) (after : List (List ℕ)) (o : Option Plan) (r : Result Plan Refusal) → 1 ≤ length after → next o (read_line line) ≡ r → Passed None done o
    → ((p : Plan) → Passed None (done ++ line ∷ []) (Some p) → Decided ((done ++ line ∷ []) ++ after) (result_err (read_on (length (done ++ line ∷ [])) (Some p) after)))
    → Decided (done ++ line ∷ after) (result_err (and_then (at_line (length done + 1) r) (λ p. read_on (length done + 1) (Some p) after)))
decided_line done line [] o r some e h on = absurd (omega arith)
decided_line done line (more ∷ after) o (Err f) some e h on =
    let first = placed_broken o line (Err f) e in
    record { before = done; piece = line; after = more ∷ after; so_far = o; cut = refl; passed = h; first = first; line = cond-true (row f.fault).lined (length done + 1) 0 (placed_lined o line f.fault (first.broken f.fault refl)); all = λ k. cc }
decided_line done line (more ∷ after) o (Ok p) some e h on =
    let none = (placed_broken o line (Ok p) e).none.0 refl in
    let rest = on p (passed_on None o done line p h none e) in
    subst (λ n. Decided (done ++ line ∷ more ∷ after) (result_err (read_on n (Some p) (more ∷ after)))) (length_push done line)
    (subst (λ ls. Decided ls (result_err (read_on (length (done ++ line ∷ [])) (Some p) (more ∷ after)))) (append_assoc done (line ∷ []) (more ∷ after)) rest)

decided : (done rest : List (List ℕ)) (o : Option Plan) → 1 ≤ length rest → Passed None done o → Decided (done ++ rest) (result_err (read_on (length done) o rest))
decided done [] o some h = absurd (omega arith)
decided done (last ∷ []) o some h = decided_last done last o (eqb (length last) 0) refl h
decided done (line ∷ more ∷ lines) o some h = decided_line done line (more ∷ lines) o (next o (read_line line)) (omega arith) refl h (λ p k. decided (done ++ line ∷ []) (more ∷ lines) (Some p) (omega arith) k)

-- what is given for a sheet
pub sheet_broken : (sheet : List ℕ) (given : Option Refusal) → given ≡ result_err (read sheet) → FirstFaulty sheet given
sheet_broken sheet given e = record {
  long = λ h. e ∙ ap result_err (cond-false (leb (length sheet) 16384) (read_on 0 None (pieces 10 sheet)) (Err (plain SheetTooLong)) (lt-leb (length sheet) 16384 h));
  short = λ h. subst (Decided (pieces 10 sheet)) (sym (e ∙ ap result_err (short_enough sheet h))) (decided [] (pieces 10 sheet) None (pieces_some 10 sheet) refl);
}
