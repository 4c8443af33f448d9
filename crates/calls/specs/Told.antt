-- What the answer to a tick tells, in numbers.
use Rattle.std.specs.Prelude.{ℕ, Option, Some, None}
use Rattle.calls.specs.declared.Got.{Got}
use Rattle.calls.specs.declared.Got.TheVariants.{Nobody, Part, Task}

-- who got the unit: nobody (0), a part (1) or a task (2); the number of that part or task, 0 for nobody; and the age of the
-- job that ended, 0 if none did
pub record Told : Type 0 where
  pub who : ℕ
  pub number : ℕ
  pub age : ℕ

-- the age, if there is one, else 0
abbrev pub age_or_0 : Option ℕ → ℕ
age_or_0 None = 0
age_or_0 (Some age) = age

abbrev pub told : Got → Told
told Nobody = record { who = 0; number = 0; age = 0 }
told (Part k) = record { who = 1; number = k; age = 0 }
told (Task i a) = record { who = 2; number = i; age = age_or_0 a }
