-- The lines of a picture.
use Rattle.std.proofs.Common.{◌≡◌, ℕ, zero, suc, ◌+◌, ◌-◌, ◌^◌, ◌≤◌, false, List, [], ◌∷◌, ◌++◌, length, replicate, refl, ap, ◌∙◌, arith, append_assoc}
use Rattle.std.specs.Char.{encode_utf8}
use Rattle.std.specs.Fmt.{decimal, padded_integral, format_spec, char_count}
use Rattle.std.specs.List.{repeat}
use Rattle.timeline.specs.Pictures.{lines}

lines_next : (f : ℕ → List ℕ) (n : ℕ) → 1 ≤ n → lines f (n - 1) ++ f n ≡ lines f n
lines_next f zero h = absurd (omega arith)
lines_next f (suc n) h = let same : suc n - 1 ≡ n = omega arith in ap (λ m. lines f m ++ f (suc n)) same

-- a line more: that of the number n
pub lines_more : (f : ℕ → List ℕ) (n : ℕ) (first text next : List ℕ) → 1 ≤ n → text ≡ first ++ lines f (n - 1) → next ≡ text ++ f n → next ≡ first ++ lines f n
lines_more f n first text next h before more = more ∙ ap (λ t. t ++ f n) before ∙ append_assoc first (lines f (n - 1)) (f n) ∙ ap (λ t. first ++ t) (lines_next f n h)

-- the number n of the next line, and all lines where m is the last number
pub lines_to : (f : ℕ → List ℕ) (n m : ℕ) (first text : List ℕ) → n ≡ m → text ≡ first ++ lines f n → text ≡ first ++ lines f m
lines_to f n m first text same is = is ∙ ap (λ k. first ++ lines f k) same

repeat_blank : (n : ℕ) → repeat {A = ℕ} n (32 ∷ []) ≡ replicate n 32
repeat_blank zero = refl
repeat_blank (suc n) = ap (λ bs. 32 ∷ bs) (repeat_blank n)

-- a number in three columns has its blanks behind it: a label of 8 columns has a name of five
pub in_columns : (n : ℕ) (rest : List ℕ) → padded_integral (format_spec 32 1 0 3 (2 ^ 64 - 1)) false [] (decimal n) ++ rest ≡ decimal n ++ (replicate (8 - (5 + length (decimal n))) 32 ++ rest)
unfolding padded_integral char_count encode_utf8
in_columns n rest =
    let blanks : 3 - length (decimal n) - 0 - 0 - 0 ≡ 8 - (5 + length (decimal n)) = omega arith in
    append_assoc (decimal n) _ rest ∙ ap (λ k. decimal n ++ (repeat k (32 ∷ []) ++ rest)) blanks ∙ ap (λ bs. decimal n ++ (bs ++ rest)) (repeat_blank (8 - (5 + length (decimal n))))
