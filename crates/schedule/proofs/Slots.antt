-- Lemmas on pairs in a list.
use Rattle.std.proofs.Common.{◌≡◌, ℕ, ◌+◌, ◌-◌, ◌*◌, ◌<◌, ◌≤◌, true, eqb, ltb, List, [], ◌∷◌, ◌++◌, length, get_or, take, set, min, refl, sym, subst, ap, ◌∙◌, inl, inr, arith}
use Rattle.std.specs.Prelude.{All, AllPairs}
use Rattle.std.proofs.lemmas.Bool.{cond_both, cases_eq}
use Rattle.std.proofs.lemmas.Bool.Decides.{nat_tests}
use Rattle.std.proofs.lemmas.List.{length-take, get_or-take, take-take, take_more_set, length-set, length_push, get_or_push, get_or_append_left, get_or_default}
use Rattle.std.proofs.lemmas.List.Elements.{All-push, All-take}
use Rattle.std.proofs.lemmas.List.Quantifiers.{all_pairs_push}
use Rattle.cycles.specs.Round.{sum, top}
use Rattle.cycles.proofs.Rounds.{sum_least, sum_on, sum_same}
use Rattle.schedule.specs.Windows.{from_pair, window_end, pairs_suffice}
use Rattle.schedule.specs.Makes.{follows}
use Rattle.schedule.specs.Phases.{none, offset_of, length_of, total_length, if_at, lengths_met, FitPairs}
use Rattle.schedule.specs.Timetables.{length_small, below_cycle, rising_on}
use Rattle.schedule.specs.Twice.{length_twice, met_from, LieBefore, Ends}
use Rattle.schedule.specs.declared.slot.Slot.{Slot}

module _ (pairs : List Slot) (lengths : All (λ pair. pair.length ≤ 1000000) pairs) where
  twice_small : (j : ℕ) → length_twice pairs j ≤ 1000000
  twice_small j = cond_both (ltb j (length pairs)) (length_of pairs j) (length_of pairs (j - length pairs)) (λ x. x ≤ 1000000) (λ _. length_small pairs lengths j) (λ _. length_small pairs lengths (j - length pairs))

  pub sum_twice_small : (e : ℕ) → sum (length_twice pairs) e ≤ e * 1000000
  sum_twice_small e = sum_least (length_twice pairs) e 1000000 (λ j _. twice_small j)

  pub sum_small : (e : ℕ) → sum (length_of pairs) e ≤ e * 1000000
  sum_small e = sum_least (length_of pairs) e 1000000 (λ j _. length_small pairs lengths j)

  -- the pairs at a phase, of which a loop has looked at the first i
  if_at_small : (p i : ℕ) → if_at pairs p i ≤ 1000000
  if_at_small p i = cond_both (eqb (offset_of pairs i) p) (length_of pairs i) 0 (λ x. x ≤ 1000000) (λ _. length_small pairs lengths i) (λ _. omega arith)

  pub found_small : (p i : ℕ) → sum (if_at pairs p) i ≤ i * 1000000
  found_small p i = sum_least (if_at pairs p) i 1000000 (λ j _. if_at_small p j)

module _ (c : ℕ) (pairs : List Slot) (fit : FitPairs c pairs) where
  -- from pair i on, once the end of the window is moved on to e
  pub window_is : (r i e : ℕ) → Ends c pairs (offset_of pairs i + r) (length pairs + i) e → i < length pairs → r < c → sum (length_of pairs) i + met_from c pairs r i ≡ sum (length_twice pairs) e
  window_is r i e ends h p =
      let n = length pairs in
      let o = offset_of pairs in
      let z = length_of pairs in
      let pos : 0 < c = omega arith in
      let below = below_cycle c pairs fit in
      let rising = rising_on c pairs fit in
      from_pair c n o z pos below rising i r e h (omega arith) (omega arith) ends.before (window_end c n o z pos below rising i r e h (omega arith) ends.within ends.after)

  -- the largest from a pair is the largest from any phase
  pub pairs_are_worst : (r : ℕ) → 0 < c → top (met_from c pairs r) (length pairs) ≡ top (lengths_met c pairs r) c
  pairs_are_worst r pos = pairs_suffice c (length pairs) (offset_of pairs) (length_of pairs) pos (below_cycle c pairs fit) (rising_on c pairs fit) r

  -- where a window ended lies before its end from the next pair
  pub before_next : (r i e : ℕ) → LieBefore c pairs e (offset_of pairs i + r) → i + 1 < length pairs → LieBefore c pairs e (offset_of pairs (i + 1) + r)
  before_next r i e before next j l = omega (arith, before j l, rising_on c pairs fit i (i + 1) (omega arith) next)

  -- an offset that follows the pairs is below the cycle, and above that of each of them
  follows_below : (o : ℕ) → follows c pairs o ≡ true → o < c
  follows_below o e = grind (arith, nat_tests)

  follows_last : (o : ℕ) → follows c pairs o ≡ true → 0 < length pairs → offset_of pairs (length pairs - 1) < o
  follows_last o e some = grind (arith, nat_tests)

  follows_all : (o : ℕ) → follows c pairs o ≡ true → (k : ℕ) (d : Slot) → k < length pairs → (get_or pairs k d).offset < o
  follows_all o e k d h =
      let last : offset_of pairs (length pairs - 1) < o = follows_last o e (omega arith) in
      let here : (get_or pairs k d).offset ≡ offset_of pairs k = ap (λ s. s.offset) (get_or_default pairs k d none h) in
      elim (cases_eq k (length pairs - 1)) [ inl same ↦ omega (arith, here, last, ap (offset_of pairs) same) | inr ne ↦ omega (arith, here, last, rising_on c pairs fit k (length pairs - 1) (omega arith) (omega arith)) ]

  -- one pair more behind the others
  pub pushed_fit : (s : Slot) → length pairs < 64 → s.length ≤ 1000000 → follows c pairs s.offset ≡ true → FitPairs c (pairs ++ s ∷ [])
  pushed_fit s room small e = record {
    short = fit.short;
    few = omega (arith, length_push pairs s);
    rising = all_pairs_push (λ p q. p.offset < q.offset) pairs s fit.rising (follows_all s.offset e);
    below = All-push (λ p. p.offset < c) pairs s fit.below (follows_below s.offset e);
    lengths = All-push (λ p. p.length ≤ 1000000) pairs s fit.lengths small;
  }

pub total_length_push : (pairs : List Slot) (s : Slot) → total_length (pairs ++ s ∷ []) ≡ total_length pairs + s.length
total_length_push pairs s =
    ap (sum (length_of (pairs ++ s ∷ []))) (length_push pairs s)
    ∙ omega (
      arith,
      sum_on (length_of (pairs ++ s ∷ [])) (length pairs),
      sum_same (length_of (pairs ++ s ∷ [])) (length_of pairs) (length pairs) (λ p l. ap (λ x. x.length) (get_or_append_left pairs (s ∷ []) none p l)),
      ap (λ x. x.length) (get_or_push pairs s none (length pairs) refl),
    )

-- the first m of fit pairs are fit
front_rising : (m : ℕ) (pairs : List Slot) → AllPairs (λ p q. p.offset < q.offset) pairs → AllPairs (λ p q. p.offset < q.offset) (take m pairs)
front_rising m pairs rising i j d l h =
    let within : j < min m (length pairs) = rw (← length-take m pairs) h in
    let first = ap (λ s. s.offset) (get_or-take m pairs i d (omega arith)) in
    let second = ap (λ s. s.offset) (get_or-take m pairs j d (omega arith)) in
    omega (arith, first, second, rising i j d l (omega arith))

front_fit : (c m : ℕ) (pairs : List Slot) → FitPairs c pairs → FitPairs c (take m pairs)
front_fit c m pairs fit = record {
  short = fit.short;
  few = omega (arith, length-take m pairs, fit.few);
  rising = front_rising m pairs fit.rising;
  below = All-take (λ p. p.offset < c) m pairs fit.below;
  lengths = All-take (λ p. p.length ≤ 1000000) m pairs fit.lengths;
}

-- a table of which the first n are in use, once it holds one pair more behind them
module _ (slots : List Slot) (n : ℕ) (pair : Slot) (room : n < length slots) where
  grown : take (n + 1) (set slots n pair) ≡ take n slots ++ pair ∷ []
  grown = take_more_set slots n pair room

  pub grown_fit : (c m : ℕ) → FitPairs c (take n slots ++ pair ∷ []) → m ≤ n + 1 → FitPairs c (take m (set slots n pair))
  grown_fit c m fit h = subst (FitPairs c) (take-take m (n + 1) (set slots n pair) h) (front_fit c m (take (n + 1) (set slots n pair)) (subst (FitPairs c) (sym grown) fit))

  -- and what the invariant of a schedule says beside that
  pub grown_kept : (whole : ℕ) → length slots ≡ 64 → n < 64 → whole ≡ total_length (take n slots) + pair.length → (length (set slots n pair) ≡ 64) × (n + 1 ≤ 64) × (whole ≡ total_length (take (n + 1) (set slots n pair)))
  grown_kept whole held few e = (length-set slots n pair ∙ held, omega arith, e ∙ sym (total_length_push (take n slots) pair) ∙ ap total_length (sym grown))
