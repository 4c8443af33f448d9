-- What is given for the parts of a source, and for no other number.
use Rattle.std.proofs.Common.{◌≡◌, ℕ, ◌-◌, ◌<◌, ◌≤◌, Bool, true, false, cond, ◌&&◌, leb, refl, arith}
use Rattle.std.proofs.lemmas.Bool.{leb-true, le-leb, and_parts, and_from}
use Rattle.source.specs.Facts.{is_part, offerable}

pub part_bounds : (n k : ℕ) → is_part n k ≡ true → (1 ≤ k) × (k ≤ n)
part_bounds n k e =
    let p = and_parts (leb 1 k) (leb k n) e in
    (leb-true 1 k p.0, leb-true k n p.1)

-- the place of a part, counted from 0
pub place_of : (n k : ℕ) → is_part n k ≡ true → (1 ≤ k) × (k - 1 < n)
place_of n k e = let p = part_bounds n k e in (p.0, omega arith)

pub part_from : (n k : ℕ) → 1 ≤ k → k ≤ n → is_part n k ≡ true
part_from n k low high = and_from (leb 1 k) (leb k n) (le-leb 1 k low) (le-leb k n high)

-- an offer that is taken names a part, and units within its allowance; and such an offer is taken
pub offerable_parts : (n : ℕ) (a : ℕ → ℕ → ℕ) (k u : ℕ) → offerable n a k u ≡ true → (is_part n k ≡ true) × (1 ≤ u) × (u ≤ a k 1)
offerable_parts n a k u e =
    let p = and_parts (is_part n k) (leb 1 u && leb u (a k 1)) e in
    let q = and_parts (leb 1 u) (leb u (a k 1)) p.1 in
    (p.0, leb-true 1 u q.0, leb-true u (a k 1) q.1)

pub offerable_from : (n : ℕ) (a : ℕ → ℕ → ℕ) (k u : ℕ) → is_part n k ≡ true → 1 ≤ u → u ≤ a k 1 → offerable n a k u ≡ true
offerable_from n a k u part some within = and_from (is_part n k) (leb 1 u && leb u (a k 1)) part (and_from (leb 1 u) (leb u (a k 1)) (le-leb 1 u some) (le-leb u (a k 1) within))

-- for a part one thing, for any other number 0
pub by_part : (R : ℕ → ℕ → Type 0) (n k x y : ℕ) → (is_part n k ≡ true → R x y) → R 0 0 → R (cond (is_part n k) x 0) (cond (is_part n k) y 0)
by_part R n k x y part none = go (is_part n k) refl
  where
    go : (b : Bool) → is_part n k ≡ b → R (cond b x 0) (cond b y 0)
    go true e = part e
    go false e = none
