-- Two sources, or two gates, side by side: the parts of the left one come first, and no part is numbered above 1,000.
use Rattle.std.specs.Prelude.{◌≡◌, ℕ, ◌+◌, ◌-◌, ◌≤◌, min, cond, MatchBool, nat_le}
use Rattle.source.specs.Facts.{Work, Moves}

-- f over the left one's m parts, then g over the right one's
abbrev pub beside : ℕ → (ℕ → ℕ → ℕ) → (ℕ → ℕ → ℕ) → ℕ → ℕ → ℕ
beside m f g k l = cond (nat_le k m) (f k l) (cond (nat_le k 1000) (g (k - m) l) 0)

-- the work of both
abbrev pub both : Work → Work → Work
both v w = record { parts = min 1000 (v.parts + w.parts); demand = beside v.parts v.demand w.demand }

-- an offer to part k goes to the side on which that part lies, where the left one has m parts; the other side stays as it is
abbrev pub TakesBeside : {S T : Type 0} → Moves S → Moves T → ℕ → S → T → ℕ → ℕ → S → T → Type 0
TakesBeside left right m s x k u t y = MatchBool (nat_le k m) (left.takes s k u t × (y ≡ x)) ((k ≤ 1000) × right.takes x (k - m) u y × (t ≡ s))
