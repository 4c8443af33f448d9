-- The demand of the first parts of a source.
use Rattle.std.proofs.Common.{◌≡◌, ℕ, zero, suc, ◌+◌, ◌*◌, ◌<◌, ◌≤◌, cond, ◌&&◌, leb, Some, None, Option, unwrap_or, ap, ◌∙◌, arith}
use Rattle.std.proofs.lemmas.Bool.{and_from, le-leb}
use Rattle.cycles.proofs.Rounds.{sum_least}
use Rattle.source.specs.Facts.{Work, is_part, Sound}
use Rattle.source.proofs.Parts.{part_from}
use Rattle.plan.specs.Needs.{total}

-- the answer of a source to the question for the part at place k
pub asked : (n k l x : ℕ) (o : Option ℕ) → k < n → l ≤ 1000000 → o ≡ cond (is_part n (k + 1) && leb l 1000000) (Some x) None → unwrap_or o 0 ≡ x
asked n k l x o h w e = ap (λ a. unwrap_or a 0) (e ∙ ap (λ b. cond b (Some x) None) (and_from (is_part n (k + 1)) (leb l 1000000) (part_from n (k + 1) (omega arith) (omega arith)) (le-leb l 1000000 w)))

pub total_small : (w : Work) (a : ℕ → ℕ → ℕ) → Sound w a → (k l : ℕ) → l ≤ 1000000 → total w k l ≤ k * 10000000000000
total_small w a sound k l h = sum_least (λ p. w.demand (p + 1) l) k 10000000000000 (λ p _. sound.small (p + 1) l h)

pub total_rises : (w : Work) (a : ℕ → ℕ → ℕ) → Sound w a → (k l m : ℕ) → l ≤ m → total w k l ≤ total w k m
total_rises w a sound zero l m h = omega arith
total_rises w a sound (suc k) l m h = omega (arith, total_rises w a sound k l m h, sound.rises (k + 1) l m h)
