-- Calls that are made one after another by a loop.
use Rattle.std.proofs.Common.{◌≡◌, ℕ, zero, suc, ◌+◌, ◌-◌, ◌<◌, ◌≤◌, min, List, [], ◌∷◌, length, map, get_or, take, set, Some, None, Option, MatchOption, sym, refl, ap, ◌∙◌, subst, add-one, arith}
use Rattle.refusal.specs.declared.Refusal.{Refusal}
use Rattle.calls.specs.declared.Answer.{Answer}
use Rattle.calls.specs.declared.Answer.TheVariants.{Refused}
use Rattle.calls.specs.declared.Call.{Call}
use Rattle.calls.specs.declared.Call.TheVariants.{Offer, Release, Hold, LetGo, End, Tick}
use Rattle.run.specs.Faults.{offer_refusal, release_refusal, hold_refusal, let_go_refusal, end_refusal, tick_refusal}
use Rattle.source.specs.Facts.{Moves}
use Rattle.run.specs.Runs.{Now, rested}
use Rattle.run.proofs.Held.{rested_given, rested_later}
use Rattle.guarantee.specs.Playing.{Did, Played}

module _ {S : Type 0} (allowed : S → ℕ → ℕ → ℕ) (moves : Moves S) where
  more : (calls : List Call) (as' : List Answer) (i : ℕ) (d : Call) (a : Answer) (s m t : Now S) → i < length calls → i < length as' → Played allowed moves (take i calls) (take i as') s m → Did allowed moves (get_or calls i d) a m t → Played allowed moves (take (suc i) calls) (take (suc i) (set as' i a)) s t
  more [] as' i d a s m t h k p did = absurd (omega arith)
  more (c ∷ calls) [] i d a s m t h k p did = absurd (omega arith)
  more (c ∷ calls) (b ∷ as') zero d a s m t h k p did = (t, subst (λ x. Did allowed moves c a x t) p did, refl)
  more (c ∷ calls) (b ∷ as') (suc i) d a s m t h k (m0, first, p) did = (m0, first, more calls as' i d a m0 m t (omega arith) (omega arith) p did)

  -- one call more
  pub played_more : (calls : List Call) (as' : List Answer) (i : ℕ) (d : Call) (a : Answer) (s m t : Now S) → i < length calls → i < length as' → Played allowed moves (take i calls) (take i as') s m → Did allowed moves (get_or calls i d) a m t → Played allowed moves (take (i + 1) calls) (take (i + 1) (set as' i a)) s t
  played_more calls as' i d a s m t h k p did = subst (λ n. Played allowed moves (take n calls) (take n (set as' i a)) s t) (sym (add-one i)) (more calls as' i d a s m t h k p did)

  -- all of them, as many as there are answers for
  pub played_whole : (calls : List Call) (as' : List Answer) (k : ℕ) (s t : Now S) → min (length calls) (length as') ≤ k → Played allowed moves (take k calls) (take k as') s t → Played allowed moves calls as' s t
  played_whole [] as' zero s t h p = p
  played_whole [] as' (suc k) s t h p = p
  played_whole (c ∷ calls) [] zero s t h p = p
  played_whole (c ∷ calls) [] (suc k) s t h p = p
  played_whole (c ∷ calls) (a ∷ as') zero s t h p = absurd (omega arith)
  played_whole (c ∷ calls) (a ∷ as') (suc k) s t h (m, first, p) = (m, first, played_whole calls as' k m t (omega arith) p)

  -- bounds, how many parts there are, and the tasks but for their levels and places stay as they are
  pub record Fixed (r r' : Now S) : Type 0 where
    pub bounds : r'.bounds ≡ r.bounds
    pub parts : r'.parts ≡ r.parts
    pub tasks : map rested r'.tasks ≡ map rested r.tasks

  fixed_same : (r r' : Now S) → r' ≡ r → Fixed r r'
  fixed_same r r' e = record { bounds = ap (λ x. x.bounds) e; parts = ap (λ x. x.parts) e; tasks = ap (λ x. map rested x.tasks) e }

  by_refusal : (o : Option Refusal) (a : Answer) (r r' : Now S) {P : Type 0} → MatchOption o P (λ e. (a ≡ Refused e) × (r' ≡ r)) → (P → Fixed r r') → Fixed r r'
  by_refusal None a r r' x done = done x
  by_refusal (Some e) a r r' x done = fixed_same r r' x.1

  did_fixed : (c : Call) (a : Answer) (r r' : Now S) → Did allowed moves c a r r' → Fixed r r'
  did_fixed (Offer k u) a r r' did = by_refusal (offer_refusal allowed r k u) a r r' did (λ x. record { bounds = ap (λ y. y.bounds) x.1.rest; parts = ap (λ y. y.parts) x.1.rest; tasks = ap (λ y. map rested y.tasks) x.1.rest })
  did_fixed (Release i u) a r r' did = by_refusal (release_refusal r i u) a r r' did (λ x. record { bounds = ap (λ y. y.bounds) x.1; parts = ap (λ y. y.parts) x.1; tasks = ap (λ y. map rested y.tasks) x.1 ∙ rested_given r.tasks (i - 1) })
  did_fixed (Hold i u) a r r' did = by_refusal (hold_refusal r i u) a r r' did (λ x. record { bounds = ap (λ y. y.bounds) x.1; parts = ap (λ y. y.parts) x.1; tasks = ap (λ y. map rested y.tasks) x.1 })
  did_fixed (LetGo i) a r r' did = by_refusal (let_go_refusal r i) a r r' did (λ x. record { bounds = ap (λ y. y.bounds) x.1; parts = ap (λ y. y.parts) x.1; tasks = ap (λ y. map rested y.tasks) x.1 })
  did_fixed (End i) a r r' did = by_refusal (end_refusal r i) a r r' did (λ x. record { bounds = ap (λ y. y.bounds) x.1; parts = ap (λ y. y.parts) x.1; tasks = ap (λ y. map rested y.tasks) x.1 })
  did_fixed Tick a r r' did = by_refusal (tick_refusal r) a r r' did (λ x. record { bounds = ap (λ y. y.bounds) x.1.rest; parts = ap (λ y. y.parts) x.1.rest; tasks = ap (λ y. map rested y.tasks) x.1.rest ∙ rested_later r.tasks })

  pub played_fixed : (calls : List Call) (as' : List Answer) (r r' : Now S) → Played allowed moves calls as' r r' → Fixed r r'
  played_fixed [] as' r r' p = fixed_same r r' p
  played_fixed (c ∷ calls) [] r r' p = fixed_same r r' p
  played_fixed (c ∷ calls) (a ∷ as') r r' (m, first, p) =
      let one = did_fixed c a r m first in
      let more = played_fixed calls as' m r' p in
      record { bounds = more.bounds ∙ one.bounds; parts = more.parts ∙ one.parts; tasks = more.tasks ∙ one.tasks }
