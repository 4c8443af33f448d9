-- How long each text of a listing can be.
use Rattle.std.proofs.Common.{◌≡◌, ℕ, suc, ◌+◌, ◌^◌, ◌<◌, ◌≤◌, List, [], ◌∷◌, ◌++◌, length, get_or, take, decimal, sym, ap, ◌∙◌, arith, lit≤, length-append}
use Rattle.std.specs.List.{enumerate_from, flat_map}
use Rattle.std.proofs.lemmas.List.{flat_map_more, length-take-le, take_more}
use Rattle.std.proofs.lemmas.Fmt.{length-decimal-le}
use Rattle.refusal.specs.Table.{row}
use Rattle.refusal.specs.declared.Fault.{Fault}
use Rattle.refusal.specs.declared.Fault.TheVariants.{SheetTooLong, ForeignByte, BadWord, BadLine, TooMany, OutOfRange, Misfit, HoldAboveBlocking, NotJudgeable, NoWindow, NotAccepted, NoSuchNumber, UnitsNotAllowed, BacklogFull, HoldNotGranted, NothingToEnd, JobPending, BufferTooShort}
use Rattle.refusal.specs.declared.Layer.{Layer}
use Rattle.refusal.specs.declared.Layer.TheVariants.{Words, Lines, Plan, Judge, Run, List as Listed}
use Rattle.refusal.specs.declared.Refusal.{Refusal}
use Rattle.listing.specs.declared.marks.TaskMark.{TaskMark}
use Rattle.listing.specs.Texts.{accepted_line, part_line, task_line, numbered, layer_name, refusal_line, refusal_text}

ten : (n : ℕ) → n < 2 ^ 32 → length (decimal n) ≤ 10
ten n h = length-decimal-le 10 n (omega arith) (omega arith) (omega arith)

twenty : (n : ℕ) → n < 2 ^ 64 → length (decimal n) ≤ 20
twenty n h = length-decimal-le 20 n (omega arith) (omega arith) h

pub accepted_short : (n : ℕ) → n < 2 ^ 32 → length (accepted_line n) ≤ 20
accepted_short n h = simp length-append (omega (arith, ten n h))

pub part_short : (n load : ℕ) → n < 2 ^ 32 → load < 2 ^ 64 → length (part_line n load) ≤ 42
part_short n load h l = simp length-append (omega (arith, ten n h, twenty load l))

pub task_short : (n : ℕ) (mark : TaskMark) → n < 2 ^ 32 → mark.bound < 2 ^ 32 → mark.deadline < 2 ^ 32 → mark.load < 2 ^ 64 → length (task_line n mark) ≤ 79
task_short n mark h b d l = simp length-append (omega (arith, ten n h, ten mark.bound b, ten mark.deadline d, twenty mark.load l))

layer_short : (layer : Layer) → length (layer_name layer) ≤ 5
layer_short Words = lit≤ tt
layer_short Lines = lit≤ tt
layer_short Plan = lit≤ tt
layer_short Judge = lit≤ tt
layer_short Run = lit≤ tt
layer_short Listed = lit≤ tt

number_small : (fault : Fault) → (row fault).number ≤ 18
number_small SheetTooLong = lit≤ tt
number_small ForeignByte = lit≤ tt
number_small BadWord = lit≤ tt
number_small BadLine = lit≤ tt
number_small TooMany = lit≤ tt
number_small OutOfRange = lit≤ tt
number_small Misfit = lit≤ tt
number_small HoldAboveBlocking = lit≤ tt
number_small NotJudgeable = lit≤ tt
number_small NoWindow = lit≤ tt
number_small NotAccepted = lit≤ tt
number_small NoSuchNumber = lit≤ tt
number_small UnitsNotAllowed = lit≤ tt
number_small BacklogFull = lit≤ tt
number_small HoldNotGranted = lit≤ tt
number_small NothingToEnd = lit≤ tt
number_small JobPending = lit≤ tt
number_small BufferTooShort = lit≤ tt

refusal_line_short : (n : ℕ) (layer : Layer) (line : ℕ) → n < 2 ^ 32 → line < 2 ^ 32 → length (refusal_line n (layer_name layer) line) ≤ 36
refusal_line_short n layer line h l = simp length-append (omega (arith, ten n h, ten line l, layer_short layer))

pub refusal_short : (refusal : Refusal) → refusal.line < 2 ^ 32 → length (refusal_text refusal) ≤ 36
refusal_short refusal l = refusal_line_short (row refusal.fault).number (row refusal.fault).layer refusal.line (omega (arith, number_small refusal.fault)) l

-- one item more has the next number
enumerate_push : {X : Type 0} (n : ℕ) (xs : List X) (y : X) → enumerate_from n (xs ++ y ∷ []) ≡ enumerate_from n xs ++ (n + length xs, y) ∷ []
enumerate_push {X} n [] y = let e : n ≡ n + 0 = omega arith in ap {B = List (ℕ × X)} (λ k. (k, y) ∷ []) e
enumerate_push {X} n (x ∷ xs) y =
    let e : n + 1 + length xs ≡ n + suc (length xs) = omega arith in
    ap (λ ps. (n, x) ∷ ps) (enumerate_push (n + 1) xs y ∙ ap {B = List (ℕ × X)} (λ k. enumerate_from (n + 1) xs ++ (k, y) ∷ []) e)

-- one line more, of the item that stands at its place
pub line_more : {X : Type 0} (line : ℕ → X → List ℕ) (items : List X) (i : ℕ) (d : X) (y : List ℕ) → i < length items → y ≡ line (i + 1) (get_or items i d) → numbered line (take i items) ++ y ≡ numbered line (take (i + 1) items)
line_more {X} line items i d y h e =
    let text = λ (p : ℕ × X). line p.0 p.1 in
    let item = get_or items i d in
    let place : i + 1 ≡ 1 + length (take i items) = omega (arith, length-take-le i items) in
    ap (λ t. numbered line (take i items) ++ t) (e ∙ ap (λ k. line k item) place)
    ∙ flat_map_more text [] (enumerate_from 1 (take i items)) (1 + length (take i items), item)
    ∙ ap (flat_map text) (sym (enumerate_push 1 (take i items) item) ∙ ap (enumerate_from 1) (sym (take_more items i d h)))
