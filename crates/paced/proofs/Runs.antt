-- Successive costs: what the loops over them keep.
use Rattle.std.proofs.Common.{◌≡◌, ℕ, ◌+◌, ◌-◌, ◌*◌, ◌<◌, ◌≤◌, nat_cmp, cond, ltb, List, length, take, sym, ap, ◌∙◌, arith}
use Rattle.std.specs.Ordering.{ord_max}
use Rattle.std.proofs.lemmas.List.{length-take-le, get_or-take}
use Rattle.std.proofs.lemmas.Bool.{lt-ltb}
use Rattle.cycles.specs.Round.{sum, top, met, onward}
use Rattle.cycles.proofs.Rounds.{larger_next, met_slides, met_least, onward_at, sum_same, met_same, top_same}
use Rattle.paced.specs.Runs.{at, largest, largest_from}

-- place i of a cycle of n, where a loop over the places stands; after the last it is the first again
abbrev pub turn : ℕ → ℕ → ℕ
turn n i = cond (ltb i n) i 0

pub turn_at : (n i : ℕ) → i < n → turn n i ≡ i
turn_at n i h = ap (λ b. cond b i 0) (lt-ltb i n h)

-- a window of m costs slides round the cycle: w is its sum as place i is looked at, and b the largest so far
module _ (xs : List ℕ) (m i w b : ℕ) (within : i < length xs) (short : m < length xs) (w_is : w ≡ met (length xs) (at xs) (turn (length xs) i) m) where
  w_here : w ≡ met (length xs) (at xs) i m
  w_here = w_is ∙ ap (λ k. met (length xs) (at xs) k m) (turn_at (length xs) i within)

  pub window_small : ((p : ℕ) → at xs p ≤ 1000000) → w ≤ m * 1000000
  window_small h = omega (arith, w_here, met_least (length xs) (at xs) 1000000 i m h)

  -- e is the place after the window
  end_is : (e : ℕ) → e ≡ cond (ltb (i + m) (length xs)) (i + m) (i + m - length xs) → e ≡ onward (length xs) i m
  end_is e p = p ∙ sym (onward_at (length xs) i m within short)

  pub window_slides : (e : ℕ) → e ≡ cond (ltb (i + m) (length xs)) (i + m) (i + m - length xs) → w + at xs e - at xs i ≡ met (length xs) (at xs) (turn (length xs) (i + 1)) m
  window_slides e p = omega (arith, w_here, ap (at xs) (end_is e p), met_slides (length xs) (at xs) i m)

  -- the larger of b and w
  pub best_grows : b ≡ largest_from (length xs) xs m i → (c : ℕ) → c ≡ ord_max nat_cmp b w → c ≡ largest_from (length xs) xs m (i + 1)
  best_grows h c e = larger_next (λ p. met (length xs) (at xs) p m) i b w c h w_here e

-- the first n of some costs, as a part `costs[..n]` has them

module _ (xs : List ℕ) (n : ℕ) (short : n ≤ length xs) where
  pub front_length : length (take n xs) ≡ n
  front_length = length-take-le n xs short

  pub front_at : (i : ℕ) → i < n → at (take n xs) i ≡ at xs i
  front_at i h = get_or-take n xs i 0 h

  pub front_sum : sum (at (take n xs)) (length (take n xs)) ≡ sum (at xs) n
  front_sum = ap (sum (at (take n xs))) front_length ∙ sum_same (at (take n xs)) (at xs) n front_at

  pub front_largest : (m : ℕ) → largest (length (take n xs)) (take n xs) m ≡ largest n xs m
  front_largest m =
      ap (λ k. largest k (take n xs) m) front_length
      ∙ top_same (λ i. met n (at (take n xs)) i m) (λ i. met n (at xs) i m) n (λ p l. met_same n (at (take n xs)) (at xs) p m front_at l)

  pub front_top : top (at (take n xs)) (length (take n xs)) ≡ top (at xs) n
  front_top = ap (top (at (take n xs))) front_length ∙ top_same (at (take n xs)) (at xs) n front_at
