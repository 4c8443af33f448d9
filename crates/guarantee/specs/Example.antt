-- The guarantee speaks of something: a gate, a plan over it that is acceptable, and a list of calls on a run of that plan in which
-- an offer is taken, a job is released, a hold is granted, a call is refused, and a tick ends a job.
use Rattle.std.specs.Prelude.{◌≡◌, ℕ, ◌-◌, ◌≤◌, min, cond, ◌&&◌, List, [], ◌∷◌, Some, None, replicate, nat_le}
use Rattle.refusal.specs.declared.Fault.TheVariants.{NoSuchNumber}
use Rattle.source.specs.Facts.{Work, Moves, is_part, Sound, Driven}
use Rattle.plan.specs.Plans.{Judgement, ByJudge}
use Rattle.plan.specs.Tasks.{Task as PlanTask, made}
use Rattle.plan.specs.declared.verdict.Verdict.TheVariants.{Accepted}
use Rattle.calls.specs.declared.Answer.{Answer}
use Rattle.calls.specs.declared.Answer.TheVariants.{Done, Refused, Ticked}
use Rattle.calls.specs.declared.Call.{Call}
use Rattle.calls.specs.declared.Call.TheVariants.{Offer, Release, Hold, Tick}
use Rattle.calls.specs.declared.Got.TheVariants.{Part, Task}
use Rattle.calls.specs.Events.{log_of}
use Rattle.run.specs.Runs.{Now, started}
use Rattle.guarantee.specs.Playing.{Played}
use Rattle.guarantee.specs.Promise.{Acceptable, ModelLeads}
use Rattle.guarantee.specs.Views.{model_of, seen}

-- a store as a gate of one part: of its units, 3 at the most, so many are left
abbrev pub store_allowed : ℕ → ℕ → ℕ → ℕ
store_allowed s k l = cond (is_part 1 k && nat_le 1 l) (min s 3) 0

abbrev pub store_work : ℕ → Work
store_work s = record { parts = 1; demand = λ k l. cond (is_part 1 k && nat_le 1 l) 3 0 }

abbrev pub store_moves : Moves ℕ
store_moves = record { takes = λ s k u t. (k ≡ 1) × (1 ≤ u) × (u ≤ min s 3) × (t ≡ min s 3 - u); ticks = λ s t. t ≡ s }

-- one task: it needs its 2 units and the 3 of the store
abbrev pub only_task : PlanTask
only_task = made (record { period = 40; jitter = 0; costs = 2 ∷ [] }) (record { blocking = 0; deadline = 40; hold = 1 })

-- a plan with that task over a full store, judged: its bound is 5
abbrev pub judged_plan : Judgement ℕ
judged_plan = record { plan = record { bank = 3; tasks = only_task ∷ [] }; verdict = Accepted 1; bounds = 5 ∷ replicate 15 0 }

abbrev pub some_calls : List Call
some_calls = Offer 1 2 ∷ Release 1 2 ∷ Hold 1 1 ∷ Offer 2 1 ∷ Tick ∷ Tick ∷ Tick ∷ Tick ∷ []

abbrev pub their_answers : List Answer
their_answers = Done ∷ Done ∷ Done ∷ Refused (record { fault = NoSuchNumber; line = 0; task = 0 }) ∷ Ticked (Part 1) ∷ Ticked (Part 1) ∷ Ticked (Task 1 None) ∷ Ticked (Task 1 (Some 4)) ∷ []

pub record Example : Type 0 where
  pub sound : (s : ℕ) → Sound (store_work s) (store_allowed s)
  pub driven : Driven store_work store_allowed store_moves
  pub acceptable : Acceptable store_work judged_plan.plan
  pub by_judge : ByJudge store_work judged_plan
  pub run : Now ℕ
  pub played : Played store_allowed store_moves some_calls their_answers (started store_work judged_plan) run
  -- and so has the model of the run, which the theorem over the model speaks of
  pub modelled : ModelLeads (model_of store_work judged_plan.plan judged_plan.bounds) (seen store_allowed (started store_work judged_plan)) (seen store_allowed run) (log_of some_calls their_answers)
