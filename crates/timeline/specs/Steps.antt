-- What a call with its answer makes of the units that are left of a task's job, if one is pending.
use Rattle.std.specs.Prelude.{ℕ, ◌-◌, cond, Some, None, Option, ◌==◌, nat_le}
use Rattle.calls.specs.declared.Call.{Call}
use Rattle.calls.specs.declared.Call.TheVariants.{Release, End, Tick}
use Rattle.calls.specs.declared.Got.{Got}
use Rattle.calls.specs.declared.Got.TheVariants.{Task}
use Rattle.calls.specs.declared.Answer.{Answer}
use Rattle.calls.specs.declared.Answer.TheVariants.{Done, Ticked}

-- one unit fewer is left, and with the last one the job is over
abbrev pub less_one : Option ℕ → Option ℕ
less_one None = None
less_one (Some u) = cond (nat_le u 1) None (Some (u - 1))

-- the units that are left of the job of task i after a call with that answer
abbrev pub left_ticked : ℕ → Option ℕ → Got → Option ℕ
left_ticked i left (Task j a) = cond (j == i) (less_one left) left
left_ticked i left _ = left

abbrev pub left_after : ℕ → Option ℕ → Call → Answer → Option ℕ
left_after i left (Release j u) Done = cond (j == i) (Some u) left
left_after i left (End j) Done = cond (j == i) None left
left_after i left Tick (Ticked got) = left_ticked i left got
left_after i left _ _ = left
