-- What a source and a gate owe. A source is work that goes before all tasks, in parts that are numbered from 1. A gate is a source
-- that can also be driven: it is offered units, and ticks pass.
use Rattle.std.specs.Prelude.{◌≡◌, ℕ, ◌+◌, ◌≤◌, Bool, false, cond, ◌&&◌, ◌≢◌, Option, Some, None, nat_le}

-- What a source brings: how many parts it has, and the most that a part brings in any so many ticks in a row, as `demand part ticks`.
-- It never changes.
pub record Work : Type 0 where
  pub parts : ℕ
  pub demand : ℕ → ℕ → ℕ

-- How the states of a gate move on: `takes s k u t` says that s, offered u units at part k, takes them and becomes t, and `ticks s t`
-- that a tick makes t of s.
pub record Moves (S : Type 0) : Type 1 where
  pub takes : S → ℕ → ℕ → S → Type 0
  pub ticks : S → S → Type 0

-- k is a part of a source with n parts
abbrev pub is_part : ℕ → ℕ → Bool
is_part n k = nat_le 1 k && nat_le k n

-- the answer to what part k demands over l ticks: none for a number that is no part, and for a window above 1,000,000 ticks
abbrev pub demand_answer : Work → ℕ → ℕ → Option ℕ
demand_answer w k l = cond (is_part w.parts k && nat_le l 1000000) (Some (w.demand k l)) None

-- the answer to what part k of n may bring in this tick, where a tells what the parts may bring: none for a number that is no part
abbrev pub allowance_answer : ℕ → (ℕ → ℕ → ℕ) → ℕ → Option ℕ
allowance_answer n a k = cond (is_part n k) (Some (a k 1)) None

-- an offer of u units to part k of n is taken exactly when k is a part and u is from 1 to its allowance for one tick
abbrev pub offerable : ℕ → (ℕ → ℕ → ℕ) → ℕ → ℕ → Bool
offerable n a k u = is_part n k && (nat_le 1 u && nat_le u (a k 1))

-- what a source with that work and the allowance a owes: since an allowance is never above its demand, it too is 0 over no ticks and
-- for a number that is no part
pub record Sound (w : Work) (a : ℕ → ℕ → ℕ) : Type 0 where
  pub few : w.parts ≤ 1000
  pub none : (k : ℕ) → w.demand k 0 ≡ 0
  pub outside : (k l : ℕ) → is_part w.parts k ≡ false → w.demand k l ≡ 0
  pub rises : (k l m : ℕ) → l ≤ m → w.demand k l ≤ w.demand k m
  pub small : (k l : ℕ) → l ≤ 1000000 → w.demand k l ≤ 10000000000000
  pub within : (k l : ℕ) → a k l ≤ w.demand k l

-- u units were taken at part k: they and what the part may still bring are within what it might bring before, over
-- any window of at least a tick, and the other parts are as they were
pub record Taken (a : ℕ → ℕ → ℕ) (k u : ℕ) (a' : ℕ → ℕ → ℕ) : Type 0 where
  pub within : (l : ℕ) → 1 ≤ l → u + a' k l ≤ a k l
  pub others : (j l : ℕ) → (j ≢ k) → a' j l ≡ a j l

-- a tick passed: what may come in l ticks now was within what might come in one tick more before
pub record Ticked (a a' : ℕ → ℕ → ℕ) : Type 0 where
  pub shorter : (k l : ℕ) → a' k l ≤ a k (l + 1)

-- what a taken offer and a tick make of the states of a gate
pub record Driven {S : Type 0} (work : S → Work) (allowed : S → ℕ → ℕ → ℕ) (moves : Moves S) : Type 0 where
  pub taken : (s t : S) (k u : ℕ) → moves.takes s k u t → (work t ≡ work s) × Taken (allowed s) k u (allowed t)
  pub ticked : (s t : S) → moves.ticks s t → (work t ≡ work s) × Ticked (allowed s) (allowed t)
