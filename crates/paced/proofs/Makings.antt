-- What a paced part is made of.
use Rattle.std.proofs.Common.{◌≡◌, ℕ, zero, suc, ◌+◌, ◌-◌, ◌≤◌, ◌<◌, sym, Bool, true, false, cond, ◌&&◌, ltb, leb, List, [], ◌∷◌, ◌++◌, length, get_or, replicate, Some, None, Option, refl, ap, ◌∙◌, arith}
use Rattle.std.proofs.lemmas.List.{length-append, length-replicate}
use Rattle.std.proofs.lemmas.Bool.{leb-true, ltb-true, and_parts}
use Rattle.refusal.specs.declared.Fault.{Fault}
use Rattle.refusal.specs.declared.Fault.TheVariants.{TooMany, OutOfRange, Misfit}
use Rattle.paced.specs.Pace.{Fit}
use Rattle.paced.specs.Makes.{Asked, in_range, all_in_range, given_right, fault_of, fresh, adding}

-- what no fault is found with makes a part that is fit

range_at : (xs : List ℕ) → all_in_range xs ≡ true → (i : ℕ) → get_or xs i 0 ≤ 1000000
range_at [] e zero = omega arith
range_at [] e (suc i) = omega arith
range_at (x ∷ xs) e zero = leb-true x 1000000 (and_parts (leb 1 x) (leb x 1000000) (and_parts (in_range x) (all_in_range xs) e).0).1
range_at (x ∷ xs) e (suc i) = range_at xs (and_parts (in_range x) (all_in_range xs) e).1 i

padded_small : (xs : List ℕ) (n : ℕ) → ((i : ℕ) → get_or xs i 0 ≤ 1000000) → (i : ℕ) → get_or (xs ++ replicate n 0) i 0 ≤ 1000000
padded_small [] zero h i = h i
padded_small [] (suc n) h zero = omega arith
padded_small [] (suc n) h (suc i) = padded_small [] n h i
padded_small (x ∷ xs) n h zero = h zero
padded_small (x ∷ xs) n h (suc i) = padded_small xs n (λ j. h (suc j)) i

-- a test that was passed on the way to no fault
pub passed : {F : Type 0} (b : Bool) (x : Option F) (f : F) → cond b x (Some f) ≡ None → (b ≡ true) × (x ≡ None)
passed true x f e = (refl, e)
passed false x f e = let z : ◌≡◌ {A = ℕ} 0 1 = cc in absurd (omega arith)

pub fresh_fit : (a : Asked) → fault_of a ≡ None → Fit (fresh a)
fresh_fit a e =
    record {
      paces = (leb-true 1 a.period t_in.0, leb-true a.period 1000000 t_in.1, ltb-true a.jitter a.period below);
      places = (held, few, leb-true 1 (length a.costs) some.0, omega arith);
      costs = padded_small a.costs (8 - length a.costs) (range_at a.costs some.1);
    }
  where
    after_length : (leb (length a.costs) 8 ≡ true) × (cond (given_right a) (cond (ltb a.jitter a.period) None (Some Misfit)) (Some OutOfRange) ≡ None)
    after_length = passed (leb (length a.costs) 8) (cond (given_right a) (cond (ltb a.jitter a.period) None (Some Misfit)) (Some OutOfRange)) TooMany e

    after_numbers : (given_right a ≡ true) × (cond (ltb a.jitter a.period) None (Some Misfit) ≡ None)
    after_numbers = passed (given_right a) (cond (ltb a.jitter a.period) None (Some Misfit)) OutOfRange after_length.1

    right : given_right a ≡ true
    right = after_numbers.0

    below : ltb a.jitter a.period ≡ true
    below = (passed (ltb a.jitter a.period) None Misfit after_numbers.1).0

    few : length a.costs ≤ 8
    few = leb-true (length a.costs) 8 after_length.0

    t_in : (leb 1 a.period ≡ true) × (leb a.period 1000000 ≡ true)
    t_in = and_parts (leb 1 a.period) (leb a.period 1000000) (and_parts (in_range a.period) (leb a.jitter 1000000 && (leb 1 (length a.costs) && all_in_range a.costs)) right).0

    some : (leb 1 (length a.costs) ≡ true) × (all_in_range a.costs ≡ true)
    some = and_parts (leb 1 (length a.costs)) (all_in_range a.costs) (and_parts (leb a.jitter 1000000) (leb 1 (length a.costs) && all_in_range a.costs) (and_parts (in_range a.period) (leb a.jitter 1000000 && (leb 1 (length a.costs) && all_in_range a.costs)) right).1).1

    held : length (a.costs ++ replicate (8 - length a.costs) 0) ≡ 8
    held = length-append a.costs (replicate (8 - length a.costs) 0) ∙ ap (λ n. length a.costs + n) (length-replicate (8 - length a.costs) 0) ∙ omega (arith, few)

-- where no fault is found with one part more there is room for it, and none is found with its pace
pub clean_pace : (most n : ℕ) (a : Asked) (x : Option Fault) → x ≡ adding most n a → x ≡ None → (n < most) × (length a.costs ≤ 8) × Fit (fresh a)
clean_pace most n a x e none =
    let few = passed (leb (length a.costs) 8) (cond (given_right a) (cond (ltb a.jitter a.period) None (Some Misfit)) (Some OutOfRange)) TooMany parts.1 in
    (ltb-true n most parts.0, leb-true (length a.costs) 8 few.0, fresh_fit a parts.1)
  where
    parts : (ltb n most ≡ true) × (fault_of a ≡ None)
    parts = passed (ltb n most) (fault_of a) TooMany (sym e ∙ none)
