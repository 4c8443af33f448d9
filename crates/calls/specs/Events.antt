-- The log of a run: its calls with their answers, in order, the oldest first; and what is counted in it.
use Rattle.std.specs.Prelude.{ℕ, ◌+◌, cond, List, [], ◌∷◌, ◌++◌, ◌==◌}
use Rattle.calls.specs.declared.Call.{Call}
use Rattle.calls.specs.declared.Call.TheVariants.{Offer, Release, Tick}
use Rattle.calls.specs.declared.Answer.{Answer}
use Rattle.calls.specs.declared.Answer.TheVariants.{Done}

-- a call and its answer
pub record Event : Type 0 where
  pub call : Call
  pub answer : Answer

-- the log of these calls and these answers, one with the other by their places, up to the end of the shorter list
abbrev pub log_of : List Call → List Answer → List Event
log_of [] answers = []
log_of (c ∷ calls) [] = []
log_of (c ∷ calls) (a ∷ answers) = record { call = c; answer = a } ∷ log_of calls answers

-- 1 for a tick, 0 for any other call
abbrev pub tick_in : Call → ℕ
tick_in Tick = 1
tick_in _ = 0

-- how many of the calls are ticks
abbrev pub ticks : List Event → ℕ
ticks [] = 0
ticks (e ∷ log) = tick_in e.call + ticks log

-- the units that a call with that answer lets in for part k: those of an offer to it that was done
abbrev pub part_units : ℕ → Call → Answer → ℕ
part_units k (Offer j u) Done = cond (j == k) u 0
part_units k _ _ = 0

-- and for task i: those of a release of it that was done
abbrev pub task_units : ℕ → Call → Answer → ℕ
task_units i (Release j u) Done = cond (j == i) u 0
task_units i _ _ = 0

-- what all of the calls let in, where a call with its answer lets in so many units
abbrev pub let_in : (Call → Answer → ℕ) → List Event → ℕ
let_in units [] = 0
let_in units (e ∷ log) = units e.call e.answer + let_in units log

-- for part k, and for task i
abbrev pub let_in_part : ℕ → List Event → ℕ
let_in_part k log = let_in (part_units k) log

abbrev pub let_in_task : ℕ → List Event → ℕ
let_in_task i log = let_in (task_units i) log

-- these calls, and then a tick with that answer
abbrev pub then_tick : List Event → Answer → List Event
then_tick log a = log ++ (record { call = Tick; answer = a } ∷ [])
