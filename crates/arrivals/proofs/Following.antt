-- A paced part along its steps: its level says when the next arrival can be, so its answers are those that arrival times
-- explain.
use Rattle.std.proofs.Common.{◌≡◌, ℕ, zero, suc, ◌+◌, ◌-◌, ◌%◌, ◌<◌, ◌≤◌, max, Bool, true, false, cond, ◌&&◌, leb, List, [], ◌∷◌, ◌++◌, length, get_or, take, replicate, None, Some, Option, Decides, sym, refl, ap, ◌∙◌, subst, inl, inr, append_assoc, mod-lt, mod-eq_of_lt, add-one, arith}
use native.Mathlib.Nat.{zero-mod, suc-mod, mod_self}
use Rattle.std.proofs.lemmas.List.{append-nil, length_push, get_or_append_left}
use Rattle.std.proofs.lemmas.Bool.{cases_lt}
use Rattle.std.proofs.lemmas.Bool.Decides.{nat_tests, Decides-like}
use Rattle.cycles.specs.Round.{next}
use Rattle.cycles.proofs.Rounds.{next_on, next_last}
use Rattle.refusal.specs.Refusals.{refusal_of}
use Rattle.refusal.specs.declared.Fault.{Fault}
use Rattle.paced.specs.Makes.{Asked, fault_of, fresh}
use Rattle.paced.specs.Pace.{allowance, given, Fit}
use Rattle.paced.specs.declared.row.Row.{Row}
use Rattle.paced.specs.Rows.{allowance_one, given_fit, later_fit}
use Rattle.paced.proofs.Makings.{fresh_fit}
use Rattle.arrivals.specs.declared.Step.{Step}
use Rattle.arrivals.specs.declared.Step.TheVariants.{Tick, Offer}
use Rattle.arrivals.specs.Steps.{takes, played}
use Rattle.arrivals.specs.Times.{time, times, due, Answered, AllAnswered}
use Rattle.arrivals.proofs.Playing.{length_played}
use Rattle.arrivals.proofs.Explaining.{Next, next_none, next_tick, next_taken, explained_from, from_explained}

-- what the test of an offer says of level v and jitter j: d is the cost that is due, and c the allowance for one tick
within_due : (u c d v j e t : ℕ) → c ≡ cond (leb v j) d 0 → v ≡ e + j - t → 1 ≤ u → u ≤ d → Decides (leb 1 u && leb u c) (e ≤ t)
within_due u c d v j e t c_is v_is one most = ((λ h. grind (arith, nat_tests)), (λ h. grind (arith, nat_tests)))

outside_due : (u c d v j : ℕ) → c ≡ cond (leb v j) d 0 → (1 ≤ u → u ≤ d → ⊥) → (leb 1 u && leb u c) ≡ false
outside_due u c d v j c_is out = grind (arith, nat_tests)

low_level : (u c d v j : ℕ) → c ≡ cond (leb v j) d 0 → (leb 1 u && leb u c) ≡ true → v ≤ j
low_level u c d v j c_is took = grind (arith, nat_tests)

-- the place after that of the m-th cost is that of the next
next_mod : (n m : ℕ) → 0 < n → next n (m % n) ≡ suc m % n
next_mod n m some =
    elim (cases_lt (suc (m % n)) n) [
      | inl l ↦ next_on n (m % n) l ∙ sym (suc-mod m n ∙ mod-eq_of_lt l)
      | inr g ↦ (let end : suc (m % n) ≡ n = omega (arith, mod-lt m some) in next_last n (m % n) g ∙ sym (suc-mod m n ∙ ap (λ k. k % n) end ∙ mod_self n))
    ]

module _ (a : Asked) where
  -- the part at level v and place f
  abbrev pub state : ℕ → ℕ → Row
  state v f = record { period = a.period; jitter = a.jitter; count = length a.costs; costs = a.costs ++ replicate (8 - length a.costs) 0; level = v; place = f }

  -- it has taken offers at the times ts, it is time t, and the next arrival can be at e
  pub record Held (ts : List ℕ) (t v f : ℕ) : Type 0 where
    pub soonest : ℕ
    pub next_at : Next a.period a.jitter ts t soonest
    pub level_is : v ≡ soonest + a.jitter - t
    pub place_is : f ≡ length ts % length a.costs
    pub fit : Fit (state v f)

  pub held_first : fault_of a ≡ None → Held [] a.jitter 0 0
  held_first right = record { soonest = 0; next_at = next_none a.period a.jitter; level_is = omega arith; place_is = sym (zero-mod (length a.costs)); fit = fresh_fit a right }

  module _ (ts : List ℕ) (t v f : ℕ) (h : Held ts t v f) where
    small : a.jitter < a.period
    small = h.fit.paces.2

    allows : allowance (state v f) 1 ≡ cond (leb v a.jitter) (due a.costs (length ts)) 0
    allows =
        allowance_one (state v f) h.fit
        ∙ ap (λ x. cond (leb v a.jitter) x 0) (get_or_append_left a.costs (replicate (8 - length a.costs) 0) 0 f h.fit.places.2 ∙ ap (λ k. get_or a.costs k 0) h.place_is)

    low : (u : ℕ) → takes (state v f) u ≡ true → v ≤ a.jitter
    low u took = low_level u (allowance (state v f) 1) (due a.costs (length ts)) v a.jitter allows took

    pub held_tick : Held ts (t + 1) (v - 1) f
    held_tick =
        record {
          soonest = h.soonest;
          next_at = next_tick a.period a.jitter ts t h.soonest small h.next_at;
          level_is = omega (arith, h.level_is);
          place_is = h.place_is;
          fit = later_fit (state v f) h.fit;
        }

    pub held_taken : (u : ℕ) → takes (state v f) u ≡ true → Held (ts ++ t ∷ []) t (v + a.period) (next (length a.costs) f)
    held_taken u took =
        record {
          soonest = max h.soonest (t - a.jitter) + a.period;
          next_at = next_taken a.period a.jitter ts t h.soonest small h.next_at (omega (arith, h.level_is, low u took));
          level_is = omega (arith, h.level_is, low u took);
          place_is = ap (next (length a.costs)) h.place_is ∙ next_mod (length a.costs) (length ts) (omega (arith, h.fit.places)) ∙ ap (λ k. k % length a.costs) (sym (length_push ts t ∙ add-one (length ts)));
          fit = given_fit (state v f) h.fit (low u took);
        }

    pub answered_now : (u : ℕ) → Answered a ts t u (takes (state v f) u)
    answered_now u =
        record {
          explained = λ one most.
              Decides-like (takes (state v f) u) (explained_from a.period a.jitter ts t h.soonest small h.next_at) (from_explained a.period a.jitter ts t h.soonest small h.next_at)
              (within_due u (allowance (state v f) 1) (due a.costs (length ts)) v a.jitter h.soonest t allows h.level_is one most);
          outside = outside_due u (allowance (state v f) 1) (due a.costs (length ts)) v a.jitter allows;
        }

  -- every offer on the way is answered rightly, by what came before it
  pub all_answered : (ts : List ℕ) (t v f : ℕ) → Held ts t v f → (ss : List Step) (bs : List Bool) (i u : ℕ) → i < length ss → i < length bs → get_or ss i Tick ≡ Offer u → Answered a (ts ++ times t (take i ss) (take i (played (state v f) ss bs))) (time t (take i ss)) u (get_or (played (state v f) ss bs) i false)
  all_answered ts t v f h [] bs i u l m e = absurd (omega arith)
  all_answered ts t v f h (s ∷ ss) [] i u l m e = absurd (omega arith)
  all_answered ts t v f h (Tick ∷ ss) (b ∷ bs) zero u l m e = let z : ◌≡◌ {A = ℕ} 0 1 = cc in absurd (omega arith)
  all_answered ts t v f h (Offer w ∷ ss) (b ∷ bs) zero u l m e =
      let same : w ≡ u = cc in
      let now : Answered a ts t w (takes (state v f) w) = answered_now ts t v f h w in
      subst (λ xs. Answered a xs t u (takes (state v f) w)) (sym (append-nil ts)) (subst (λ x. Answered a ts t x (takes (state v f) w)) same now)
  all_answered ts t v f h (Tick ∷ ss) (b ∷ bs) (suc i) u l m e = all_answered ts (t + 1) (v - 1) f (held_tick ts t v f h) ss bs i u (omega arith) (omega arith) e
  all_answered ts t v f h (Offer w ∷ ss) (b ∷ bs) (suc i) u l m e =
      elim (takes (state v f) w)
      as (λ y. takes (state v f) w ≡ y → Answered a (ts ++ times t (Offer w ∷ take i ss) (y ∷ take i (played (cond y (given (state v f)) (state v f)) ss bs))) (time t (take i ss)) u (get_or (played (cond y (given (state v f)) (state v f)) ss bs) i false)) [
        | true ↦ (λ took.
            subst (λ xs. Answered a xs (time t (take i ss)) u (get_or (played (given (state v f)) ss bs) i false)) (append_assoc ts (t ∷ []) (times t (take i ss) (take i (played (given (state v f)) ss bs))))
            (all_answered (ts ++ t ∷ []) t (v + a.period) (next (length a.costs) f) (held_taken ts t v f h w took) ss bs i u (omega arith) (omega arith) e))
        | false ↦ (λ _. all_answered ts t v f h ss bs i u (omega arith) (omega arith) e)
      ]
      refl

-- where no refusal is answered, there is no fault
no_fault : (f : Option Fault) → None ≡ refusal_of f 0 → f ≡ None
no_fault None e = refl
no_fault (Some f) e = let z : ◌≡◌ {A = ℕ} 0 1 = cc in absurd (omega arith)

-- a part that was made, from its start on; told by the three numbers, since `grind` finds them in the row of the part
module _ (period jitter : ℕ) (costs : List ℕ) where
  abbrev pub these : Asked
  these = record { period = period; jitter = jitter; costs = costs }

  pub played_answered : (ss : List Step) (bs : List Bool) → None ≡ refusal_of (fault_of these) 0 → AllAnswered these ss (played (fresh these) ss bs)
  played_answered ss bs made i u l m e =
      all_answered these [] jitter 0 0 (held_first these (no_fault (fault_of these) made)) ss bs i u l (omega (arith, length_played (fresh these) ss bs)) e
