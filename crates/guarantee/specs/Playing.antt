-- A list of calls on a run: what each answers and makes of it, one after another. The bank is a gate with this allowance, of which
-- `moves` says what an offer that is taken and a tick make.
use Rattle.std.specs.Prelude.{◌≡◌, ℕ, List, [], ◌∷◌, MatchOption}
use Rattle.source.specs.Facts.{Moves}
use Rattle.calls.specs.declared.Call.{Call}
use Rattle.calls.specs.declared.Call.TheVariants.{Offer, Release, Hold, LetGo, End, Tick}
use Rattle.calls.specs.declared.Answer.{Answer}
use Rattle.calls.specs.declared.Answer.TheVariants.{Done, Refused, Ticked}
use Rattle.run.specs.Faults.{offer_refusal, release_refusal, hold_refusal, let_go_refusal, end_refusal, tick_refusal}
use Rattle.run.specs.Runs.{Now, Offered, TickPassed, due_in, run_released, run_granted, run_let_go, run_ended}

module _ {S : Type 0} (allowed : S → ℕ → ℕ → ℕ) (moves : Moves S) where
  -- the call with its answer makes r' of the run r: it is refused exactly with the refusal that its rules find, and then nothing changes
  abbrev pub Did : Call → Answer → Now S → Now S → Type 0
  Did (Offer k u) a r r' = MatchOption (offer_refusal allowed r k u) ((a ≡ Done) × Offered moves k u r r') (λ e. (a ≡ Refused e) × (r' ≡ r))
  Did (Release i u) a r r' = MatchOption (release_refusal r i u) ((a ≡ Done) × (r' ≡ run_released r i u)) (λ e. (a ≡ Refused e) × (r' ≡ r))
  Did (Hold i u) a r r' = MatchOption (hold_refusal r i u) ((a ≡ Done) × (r' ≡ run_granted r i u)) (λ e. (a ≡ Refused e) × (r' ≡ r))
  Did (LetGo i) a r r' = MatchOption (let_go_refusal r i) ((a ≡ Done) × (r' ≡ run_let_go r)) (λ e. (a ≡ Refused e) × (r' ≡ r))
  Did (End i) a r r' = MatchOption (end_refusal r i) ((a ≡ Done) × (r' ≡ run_ended r i)) (λ e. (a ≡ Refused e) × (r' ≡ r))
  Did Tick a r r' = MatchOption (tick_refusal r) ((a ≡ Ticked (due_in r)) × TickPassed moves r r') (λ e. (a ≡ Refused e) × (r' ≡ r))

  -- the calls, with their answers, lead from r to r', as far as both lists go
  abbrev pub Played : List Call → List Answer → Now S → Now S → Type 0
  Played [] answers r r' = r' ≡ r
  Played (c ∷ calls) [] r r' = r' ≡ r
  Played (c ∷ calls) (a ∷ answers) r r' = (m : Now S) × Did c a r m × Played calls answers m r'
