-- What the loop over the steps keeps: the answers so far, and what the rest of the steps will make of the part.
use Rattle.std.proofs.Common.{◌≡◌, ℕ, suc, ◌+◌, ◌<◌, ◌≤◌, min, Bool, false, List, [], ◌∷◌, ◌++◌, length, get_or, take, drop, set, sym, refl, ap, ◌∙◌, inl, inr, append_assoc, arith}
use Rattle.std.proofs.lemmas.List.{append-nil, take_all, drop_all, drop_more, drop-set-lt, take_more_set, take-append-drop, get_or-take, length-take-le}
use Rattle.std.proofs.lemmas.Bool.{cases_lt}
use Rattle.paced.specs.declared.row.Row.{Row}
use Rattle.arrivals.specs.declared.Step.{Step}
use Rattle.arrivals.specs.Steps.{answer, after, played, moved}

pub length_played : (r : Row) (ss : List Step) (bs : List Bool) → length (played r ss bs) ≡ length bs
length_played r [] bs = refl
length_played r (s ∷ ss) [] = refl
length_played r (s ∷ ss) (b ∷ bs) = ap suc (length_played (after r s) ss bs)

-- with i steps made, the answers bs so far, and the part at r
abbrev pub answers_at : Row → List Step → List Bool → ℕ → List Bool
answers_at r ss bs i = take i bs ++ played r (drop i ss) (drop i bs)

abbrev pub end_at : Row → List Step → List Bool → ℕ → Row
end_at r ss bs i = moved r (drop i ss) (drop i bs)

-- one step more, the one at i, where the default d does not matter
module _ (r : Row) (ss : List Step) (bs : List Bool) (i : ℕ) (d : Step) (here : i < length ss) (free : i < length bs) where
  step_here : drop i ss ≡ get_or ss i d ∷ drop (i + 1) ss
  step_here = drop_more ss i d here

  place_here : drop i bs ≡ get_or bs i false ∷ drop (i + 1) bs
  place_here = drop_more bs i false free

  rest_free : (b : Bool) → drop (i + 1) (set bs i b) ≡ drop (i + 1) bs
  rest_free b = drop-set-lt (i + 1) bs i b (omega arith)

  pub answers_more : answers_at r ss bs i ≡ answers_at (after r (get_or ss i d)) ss (set bs i (answer r (get_or ss i d))) (i + 1)
  answers_more =
      (λ k. take i bs ++ played r (step_here k) (place_here k))
      ∙ sym (append_assoc (take i bs) (answer r (get_or ss i d) ∷ []) (played (after r (get_or ss i d)) (drop (i + 1) ss) (drop (i + 1) bs)))
      ∙ (λ k. sym (take_more_set bs i (answer r (get_or ss i d)) free) k ++ played (after r (get_or ss i d)) (drop (i + 1) ss) (sym (rest_free (answer r (get_or ss i d))) k))

  pub end_more : end_at r ss bs i ≡ end_at (after r (get_or ss i d)) ss (set bs i (answer r (get_or ss i d))) (i + 1)
  end_more =
      (λ k. moved r (step_here k) (place_here k))
      ∙ (λ k. moved (after r (get_or ss i d)) (drop (i + 1) ss) (sym (rest_free (answer r (get_or ss i d))) k))

-- at the end, where steps or places are used up
no_place : (r : Row) (ss : List Step) → played r ss [] ≡ []
no_place r [] = refl
no_place r (s ∷ ss) = refl

no_move : (r : Row) (ss : List Step) → moved r ss [] ≡ r
no_move r [] = refl
no_move r (s ∷ ss) = refl

module _ (r : Row) (ss : List Step) (bs : List Bool) (i : ℕ) (over : min (length ss) (length bs) ≤ i) where
  pub answers_all : answers_at r ss bs i ≡ bs
  answers_all = elim (cases_lt i (length ss)) [ inl l ↦ no_places (omega arith) | inr g ↦ no_steps g ]
    where
      no_steps : length ss ≤ i → answers_at r ss bs i ≡ bs
      no_steps h = ap (λ xs. take i bs ++ played r xs (drop i bs)) (drop_all i ss h) ∙ take-append-drop i bs

      no_places : length bs ≤ i → answers_at r ss bs i ≡ bs
      no_places h = (λ k. take_all i bs h k ++ played r (drop i ss) (drop_all i bs h k)) ∙ ap (λ xs. bs ++ xs) (no_place r (drop i ss)) ∙ append-nil bs

  pub end_all : end_at r ss bs i ≡ r
  end_all = elim (cases_lt i (length ss)) [ inl l ↦ no_places (omega arith) | inr g ↦ no_steps g ]
    where
      no_steps : length ss ≤ i → end_at r ss bs i ≡ r
      no_steps h = ap (λ xs. moved r xs (drop i bs)) (drop_all i ss h)

      no_places : length bs ≤ i → end_at r ss bs i ≡ r
      no_places h = ap (moved r (drop i ss)) (drop_all i bs h) ∙ no_move r (drop i ss)

-- a loop over the first n steps makes the one at i
module _ (r : Row) (ss : List Step) (n i : ℕ) (d : Step) (bs : List Bool) (left : i < length (take n ss)) (few : n ≤ length ss) (room : n ≤ length bs) where
  cut : length (take n ss) ≡ n
  cut = length-take-le n ss few

  same : get_or ss i d ≡ get_or (take n ss) i d
  same = sym (get_or-take n ss i d (omega (arith, cut)))

  pub answers_on : answers_at (after r (get_or (take n ss) i d)) ss (set bs i (answer r (get_or (take n ss) i d))) (i + 1) ≡ answers_at r ss bs i
  answers_on = sym (answers_more r ss bs i d (omega (arith, cut)) (omega (arith, cut)) ∙ (λ k. answers_at (after r (same k)) ss (set bs i (answer r (same k))) (i + 1)))

  pub end_on : end_at (after r (get_or (take n ss) i d)) ss (set bs i (answer r (get_or (take n ss) i d))) (i + 1) ≡ end_at r ss bs i
  end_on = sym (end_more r ss bs i d (omega (arith, cut)) (omega (arith, cut)) ∙ (λ k. end_at (after r (same k)) ss (set bs i (answer r (same k))) (i + 1)))

-- where it ends
module _ (r : Row) (ss : List Step) (bs : List Bool) (i n : ℕ) (least : n ≡ min (length ss) (length bs)) (done : length (take n ss) ≤ i) where
  over : min (length ss) (length bs) ≤ i
  over = omega (arith, length-take-le n ss (omega arith))

  pub answers_end : answers_at r ss bs i ≡ bs
  answers_end = answers_all r ss bs i over

  pub end_end : end_at r ss bs i ≡ r
  end_end = end_all r ss bs i over
