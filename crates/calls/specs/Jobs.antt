-- The job of a task that is pending, as a log shows it: read off who got what, and not off what answers say of ages.
use Rattle.std.specs.Prelude.{ℕ, ◌+◌, ◌-◌, cond, List, [], ◌∷◌, Some, None, Option, ◌==◌, nat_le}
use Rattle.calls.specs.declared.Call.{Call}
use Rattle.calls.specs.declared.Call.TheVariants.{Release, End, Tick}
use Rattle.calls.specs.declared.Got.{Got}
use Rattle.calls.specs.declared.Got.TheVariants.{Task}
use Rattle.calls.specs.declared.Answer.{Answer}
use Rattle.calls.specs.declared.Answer.TheVariants.{Done, Ticked}
use Rattle.calls.specs.Events.{Event}

-- the units that it still wants, and the ticks since its release
pub record Job : Type 0 where
  pub left : ℕ
  pub age : ℕ

-- a job, if there is one, a tick older
abbrev pub older : Option Job → Option Job
older None = None
older (Some j) = Some (record { left = j.left; age = j.age + 1 })

-- it gets a unit, and with its last one it is no longer there
abbrev pub served : Option Job → Option Job
served None = None
served (Some j) = cond (nat_le j.left 1) None (Some (record { left = j.left - 1; age = j.age }))

-- what becomes of the job of task i in a tick of which that one got the unit
abbrev pub ticked : ℕ → Option Job → Got → Option Job
ticked i job (Task j a) = cond (j == i) (served (older job)) (older job)
ticked i job _ = older job

-- what becomes of the job of task i in a call with that answer: a release that was done makes one of age 0, an end that
-- was done removes it, and each tick ages it
abbrev pub after : ℕ → Option Job → Call → Answer → Option Job
after i job (Release j u) Done = cond (j == i) (Some (record { left = u; age = 0 })) job
after i job (End j) Done = cond (j == i) None job
after i job Tick (Ticked got) = ticked i job got
after i job Tick _ = older job
after i job _ _ = job

-- what becomes of it in one call after another
abbrev pub carried : ℕ → Option Job → List Event → Option Job
carried i job [] = job
carried i job (e ∷ log) = carried i (after i job e.call e.answer) log

-- the pending job of task i after these calls of a run that began with none
abbrev pub job_of : ℕ → List Event → Option Job
job_of i log = carried i None log

-- the age at which a job ends that gets a unit in a tick, this tick included: none if that is not its last unit
abbrev pub end_age : Option Job → Option ℕ
end_age None = None
end_age (Some j) = cond (nat_le j.left 1) (Some (j.age + 1)) None
