-- How the pieces of a text come from its first piece and the rest, and why no other cut is there.
use Rattle.std.proofs.Common.{◌≡◌, ℕ, suc, ◌+◌, ◌-◌, ◌<◌, ◌≤◌, Bool, true, false, cond, not, ◌&&◌, eqb, ltb, List, [], ◌∷◌, ◌++◌, length, get_or, take, drop, Some, None, Option, MatchOption, unwrap_or, sym, refl, subst, ap, ◌∙◌, arith}
use Rattle.std.proofs.lemmas.List.{drop_more, drop_all, take_all, take_rest}
use Rattle.std.proofs.lemmas.Bool.{ltb-true, ltb-false, eq-eqb, eqb-true, and_parts, not-true, cond-true, cond-false}
use Rattle.std.specs.List.{position_or_len, position}
use Rattle.words.specs.Split.{before, onward, onto, pieces, following, joined, lacks, all_lack, OnlyCut}

starts_by : (s x : ℕ) (xs zs : List ℕ) (b : Bool) → eqb x s ≡ b → ((y : ℕ) (ys : List ℕ) → zs ≡ y ∷ ys → y ≡ s) → (y : ℕ) (ys : List ℕ) → cond b (x ∷ xs) zs ≡ y ∷ ys → y ≡ s
starts_by s x xs zs true t more y ys e = let same : x ≡ y = cc in sym same ∙ eqb-true x s t
starts_by s x xs zs false t more y ys e = more y ys e

onward_starts : (s : ℕ) (xs : List ℕ) (y : ℕ) (ys : List ℕ) → onward s xs ≡ y ∷ ys → y ≡ s
onward_starts s [] y ys e = let z : ◌≡◌ {A = ℕ} 0 1 = cc in absurd (omega arith)
onward_starts s (x ∷ xs) y ys e = starts_by s x xs (onward s xs) (eqb x s) refl (onward_starts s xs) y ys e

-- there is no s: all stands before it
pub record IsNowhere (s : ℕ) (text : List ℕ) : Type 0 where
  pub front : before s text ≡ text
  pub back : onward s text ≡ []

-- the first s stands at a place
pub record IsFirstAt (s : ℕ) (text : List ℕ) (place : ℕ) : Type 0 where
  pub within : place < length text
  pub front : before s text ≡ take place text
  pub back : onward s text ≡ drop place text
  pub behind : onward s text ≡ s ∷ drop (place + 1) text

-- where the first s stands, if there is one
module _ (s : ℕ) where
  abbrev place : List ℕ → ℕ
  place xs = position_or_len (λ x. eqb x s) xs

  one_more : (xs : List ℕ) → suc (place xs) ≡ 1 + place xs
  one_more xs = omega arith

  place_front : (xs : List ℕ) → before s xs ≡ take (place xs) xs
  place_front [] = refl
  place_front (x ∷ xs) =
      elim (eqb x s) as (λ b. cond b [] (x ∷ before s xs) ≡ take (cond (not b) (1 + place xs) 0) (x ∷ xs)) [
        | true ↦ refl
        | false ↦ ap (λ ys. x ∷ ys) (place_front xs) ∙ ap (λ k. take k (x ∷ xs)) (one_more xs)
      ]

  place_back : (xs : List ℕ) → onward s xs ≡ drop (place xs) xs
  place_back [] = refl
  place_back (x ∷ xs) =
      elim (eqb x s) as (λ b. cond b (x ∷ xs) (onward s xs) ≡ drop (cond (not b) (1 + place xs) 0) (x ∷ xs)) [
        | true ↦ refl
        | false ↦ place_back xs ∙ ap (λ k. drop k (x ∷ xs)) (one_more xs)
      ]

  placed : (xs : List ℕ) (b : Bool) → ltb (place xs) (length xs) ≡ b → MatchOption (cond b (Some (place xs)) None) (IsNowhere s xs) (λ r. IsFirstAt s xs r)
  placed xs true h =
      let less : place xs < length xs = ltb-true (place xs) (length xs) h in
      let on : onward s xs ≡ get_or xs (place xs) 0 ∷ drop (place xs + 1) xs = place_back xs ∙ drop_more xs (place xs) 0 less in
      record { within = less; front = place_front xs; back = place_back xs; behind = on ∙ ap (λ y. y ∷ drop (place xs + 1) xs) (onward_starts s xs (get_or xs (place xs) 0) (drop (place xs + 1) xs) on) }
  placed xs false h =
      let all : length xs ≤ place xs = ltb-false (place xs) (length xs) h in
      record { front = place_front xs ∙ take_all (place xs) xs all; back = place_back xs ∙ drop_all (place xs) xs all }

  pub found : (xs : List ℕ) (o : Option ℕ) → o ≡ position (λ x. eqb x s) xs → MatchOption o (IsNowhere s xs) (λ r. IsFirstAt s xs r)
  found xs o e = subst (λ u. MatchOption u (IsNowhere s xs) (λ r. IsFirstAt s xs r)) (sym e) (placed xs (ltb (place xs) (length xs)) refl)

  cut_by : (xs : List ℕ) (o : Option ℕ) → MatchOption o (IsNowhere s xs) (λ r. IsFirstAt s xs r) → (take (unwrap_or o (length xs)) xs ≡ before s xs) × (drop (unwrap_or o (length xs)) xs ≡ onward s xs)
  cut_by xs None p = (take_all (length xs) xs (omega arith) ∙ sym p.front, drop_all (length xs) xs (omega arith) ∙ sym p.back)
  cut_by xs (Some r) p = (sym p.front, sym p.back)

  -- the two parts of a text that is cut there, or at its end
  cut_at : (xs : List ℕ) (o : Option ℕ) → o ≡ position (λ x. eqb x s) xs → (take (unwrap_or o (length xs)) xs ≡ before s xs) × (drop (unwrap_or o (length xs)) xs ≡ onward s xs)
  cut_at xs o e = cut_by xs o (found xs o e)

  pub front_cut : (xs : List ℕ) (o : Option ℕ) (end : ℕ) (front : List ℕ) → o ≡ position (λ x. eqb x s) xs → end ≡ unwrap_or o (length xs) → front ≡ take end xs → front ≡ before s xs
  front_cut xs o end front e f g = g ∙ ap (λ k. take k xs) f ∙ (cut_at xs o e).0

  pub rest_cut : (xs : List ℕ) (o : Option ℕ) (end : ℕ) → o ≡ position (λ x. eqb x s) xs → end ≡ unwrap_or o (length xs) → take (length xs - end) (drop end xs) ≡ onward s xs
  rest_cut xs o end e f = take_rest xs end ∙ ap (λ k. drop k xs) f ∙ (cut_at xs o e).1

pub pieces_first : (s : ℕ) (xs : List ℕ) → pieces s xs ≡ before s xs ∷ following s (onward s xs)
pieces_first s [] = refl
pieces_first s (x ∷ xs) =
    elim (eqb x s) as (λ b. cond b ([] ∷ pieces s xs) (onto x (pieces s xs)) ≡ cond b [] (x ∷ before s xs) ∷ following s (cond b (x ∷ xs) (onward s xs))) [
      | true ↦ refl
      | false ↦ ap (onto x) (pieces_first s xs)
    ]

pub pieces_some : (s : ℕ) (xs : List ℕ) → 1 ≤ length (pieces s xs)
pieces_some s xs = omega (arith, ap length (pieces_first s xs))

module _ (s : ℕ) where
  onto_lacks : (x : ℕ) (ws : List (List ℕ)) → eqb x s ≡ false → all_lack s ws ≡ true → all_lack s (onto x ws) ≡ true
  onto_lacks x [] e h = ap (λ b. (not b && true) && true) e
  onto_lacks x (w ∷ ws) e h = ap (λ b. (not b && lacks s w) && all_lack s ws) e ∙ h

  step_lacks : (x : ℕ) (ws : List (List ℕ)) (b : Bool) → eqb x s ≡ b → all_lack s ws ≡ true → all_lack s (cond b ([] ∷ ws) (onto x ws)) ≡ true
  step_lacks x ws true e h = h
  step_lacks x ws false e h = onto_lacks x ws e h

  pieces_lack : (xs : List ℕ) → all_lack s (pieces s xs) ≡ true
  pieces_lack [] = refl
  pieces_lack (x ∷ xs) = step_lacks x (pieces s xs) (eqb x s) refl (pieces_lack xs)

  joined_onto : (x : ℕ) (ws : List (List ℕ)) → joined s (onto x ws) ≡ x ∷ joined s ws
  joined_onto x [] = refl
  joined_onto x (w ∷ []) = refl
  joined_onto x (w ∷ v ∷ ws) = refl

  joined_more : (w : List ℕ) (ws : List (List ℕ)) → 1 ≤ length ws → joined s (w ∷ ws) ≡ w ++ (s ∷ joined s ws)
  joined_more w [] h = absurd (omega arith)
  joined_more w (v ∷ ws) h = refl

  step_whole : (x : ℕ) (xs : List ℕ) (ws : List (List ℕ)) (b : Bool) → eqb x s ≡ b → 1 ≤ length ws → joined s ws ≡ xs → joined s (cond b ([] ∷ ws) (onto x ws)) ≡ x ∷ xs
  step_whole x xs ws true e some h = joined_more [] ws some ∙ ap (λ ys. s ∷ ys) h ∙ ap (λ y. y ∷ xs) (sym (eqb-true x s e))
  step_whole x xs ws false e some h = joined_onto x ws ∙ ap (λ ys. x ∷ ys) h

  pieces_whole : (xs : List ℕ) → joined s (pieces s xs) ≡ xs
  pieces_whole [] = refl
  pieces_whole (x ∷ xs) = step_whole x xs (pieces s xs) (eqb x s) refl (pieces_some s xs) (pieces_whole xs)

  -- a part that lacks s is one piece
  pieces_alone : (w : List ℕ) → lacks s w ≡ true → pieces s w ≡ w ∷ []
  pieces_alone [] h = refl
  pieces_alone (x ∷ w) h =
      let parts = and_parts (not (eqb x s)) (lacks s w) h in
      cond-false (eqb x s) ([] ∷ pieces s w) (onto x (pieces s w)) (not-true (eqb x s) parts.0) ∙ ap (onto x) (pieces_alone w parts.1)

  pieces_on : (w rest : List ℕ) → lacks s w ≡ true → pieces s (w ++ (s ∷ rest)) ≡ w ∷ pieces s rest
  pieces_on [] rest h = cond-true (eqb s s) ([] ∷ pieces s rest) (onto s (pieces s rest)) (eq-eqb s s refl)
  pieces_on (x ∷ w) rest h =
      let parts = and_parts (not (eqb x s)) (lacks s w) h in
      cond-false (eqb x s) ([] ∷ pieces s (w ++ (s ∷ rest))) (onto x (pieces s (w ++ (s ∷ rest)))) (not-true (eqb x s) parts.0) ∙ ap (onto x) (pieces_on w rest parts.1)

  pieces_joined : (ws : List (List ℕ)) → 1 ≤ length ws → all_lack s ws ≡ true → pieces s (joined s ws) ≡ ws
  pieces_joined [] some h = absurd (omega arith)
  pieces_joined (w ∷ []) some h = pieces_alone w (and_parts (lacks s w) true h).0
  pieces_joined (w ∷ v ∷ ws) some h =
      let parts = and_parts (lacks s w) (all_lack s (v ∷ ws)) h in
      pieces_on w (joined s (v ∷ ws)) parts.0 ∙ ap (λ ps. w ∷ ps) (pieces_joined (v ∷ ws) (omega arith) parts.1)

pub only_cut : (s : ℕ) (text : List ℕ) → OnlyCut s text
only_cut s text = (
  record { some = pieces_some s text; apart = pieces_lack s text; whole = pieces_whole s text },
  λ ws c. sym (pieces_joined s ws c.some c.apart) ∙ ap (pieces s) c.whole,
)
