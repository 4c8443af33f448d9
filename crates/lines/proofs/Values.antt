-- The numbers of a line, one after another.
use Rattle.std.proofs.Common.{◌≡◌, ℕ, suc, ◌+◌, ◌-◌, ◌<◌, ◌≤◌, min, true, false, cond, eqb, ltb, List, [], ◌∷◌, ◌++◌, length, take, set, replicate, sym, refl, ap, ◌∙◌, inl, inr, append_assoc, arith}
use Rattle.std.proofs.lemmas.List.{take_all, take-append-le, set_at, length_push}
use Rattle.std.proofs.lemmas.Bool.{eqb-false, cases_lt, lt-ltb, le-ltb}
use Rattle.words.specs.Split.{onward}
use Rattle.lines.specs.Rows.{costs_of, with_cost}
use Rattle.lines.specs.Numbers.{behind}

-- what follows a word is shorter
onward_short : (s : ℕ) (xs : List ℕ) → length (onward s xs) ≤ length xs
onward_short s [] = omega arith
onward_short s (x ∷ xs) = elim (eqb x s) as (λ b. length (cond b (x ∷ xs) (onward s xs)) ≤ suc (length xs)) [ true ↦ omega arith | false ↦ omega (arith, onward_short s xs) ]

pub some_left : (rest : List ℕ) → false ≡ eqb (length rest) 0 → 1 ≤ length rest
some_left rest e = omega (arith, eqb-false (length rest) 0 (sym e))

pub behind_short : (rest : List ℕ) → 1 ≤ length rest → length (behind rest) < length rest
behind_short [] h = absurd (omega arith)
behind_short (x ∷ xs) h = omega (arith, onward_short 32 xs)

-- one cost more in the table of nine
pub pushed_is : (ns : List ℕ) (n : ℕ) → with_cost (costs_of ns) n ≡ costs_of (ns ++ n ∷ [])
pushed_is ns n = elim (cases_lt (length ns) 9) [ inl room ↦ with_room room | inr full ↦ without full ]
  where
    long : length (ns ++ n ∷ []) ≡ length ns + 1
    long = length_push ns n

    with_room : length ns < 9 → with_cost (costs_of ns) n ≡ costs_of (ns ++ n ∷ [])
    with_room h =
        let place : min 9 (length ns) ≡ length ns = omega arith in
        let left : 9 - length ns ≡ suc (9 - (length ns + 1)) = omega arith in
        let test : ltb (min 9 (length ns)) 9 ≡ true = lt-ltb (min 9 (length ns)) 9 (omega arith) in
        let tail : List ℕ = replicate (9 - (length ns + 1)) 0 in
        let filled : take 9 ns ++ replicate (9 - length ns) 0 ≡ ns ++ 0 ∷ tail = (λ i. take_all 9 ns (omega arith) i ++ replicate (left i) 0) in
        let stored : set (take 9 ns ++ replicate (9 - length ns) 0) (min 9 (length ns)) n ≡ ns ++ n ∷ tail = (λ i. set (filled i) (place i) n) ∙ set_at ns 0 tail n (length ns) refl in
        let wanted : take 9 (ns ++ n ∷ []) ++ replicate (9 - length (ns ++ n ∷ [])) 0 ≡ ns ++ n ∷ tail = (λ i. take_all 9 (ns ++ n ∷ []) (omega (arith, long)) i ++ replicate (9 - long i) 0) ∙ append_assoc ns (n ∷ []) tail in
        let counted : min 9 (length ns) + 1 ≡ min 9 (length (ns ++ n ∷ [])) = omega (arith, long) in
        ap (λ b. cond b (record { numbers = set (take 9 ns ++ replicate (9 - length ns) 0) (min 9 (length ns)) n; count = min 9 (length ns) + 1 }) (costs_of ns)) test
        ∙ (λ i. record { numbers = (stored ∙ sym wanted) i; count = counted i })

    without : 9 ≤ length ns → with_cost (costs_of ns) n ≡ costs_of (ns ++ n ∷ [])
    without h =
        let test : ltb (min 9 (length ns)) 9 ≡ false = le-ltb (min 9 (length ns)) 9 (omega arith) in
        let same : take 9 ns ≡ take 9 (ns ++ n ∷ []) = sym (take-append-le 9 ns (n ∷ []) h) in
        let none : 9 - length ns ≡ 9 - length (ns ++ n ∷ []) = omega (arith, long) in
        let counted : min 9 (length ns) ≡ min 9 (length (ns ++ n ∷ [])) = omega (arith, long) in
        ap (λ b. cond b (record { numbers = set (take 9 ns ++ replicate (9 - length ns) 0) (min 9 (length ns)) n; count = min 9 (length ns) + 1 }) (costs_of ns)) test
        ∙ (λ i. record { numbers = same i ++ replicate (none i) 0; count = counted i })
