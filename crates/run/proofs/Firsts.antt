-- The first number at which something waits.
use Rattle.std.proofs.Common.{◌≡◌, ℕ, ◌+◌, ◌-◌, ◌<◌, ◌≤◌, Bool, true, false, cond, leb, ltb, List, length, get_or, take, Option, Some, None, refl, sym, ap, ◌∙◌, subst, arith}
use Rattle.std.specs.List.{position, position_or_len}
use Rattle.std.specs.Prelude.{option_map}
use Rattle.std.proofs.lemmas.Bool.{leb-true, leb-false, ltb-false}
use Rattle.std.proofs.lemmas.List.{get_or-take, length-take-le}
use Rattle.std.proofs.lemmas.List.Quantifiers.{position-Some}
use Rattle.std.proofs.lemmas.List.Sums.{fails_before_first}
use Rattle.run.specs.States.{no_job, backlog_of, left_of, first_at, first_backlog, first_pending, First}
use Rattle.run.specs.declared.state.Job.{Job}
use Rattle.run.proofs.Numbered.{numbered, numbered_some}
use Rattle.run.proofs.Steady.{nothing, same_value}

module _ {A : Type 0} (d : A) (g : A → ℕ) (xs : List A) (n : ℕ) (short : n ≤ length xs) where
  abbrev pub waits : A → Bool
  waits x = leb 1 (g x)

  abbrev pub f : ℕ → ℕ
  f = numbered d g xs

  long : length (take n xs) ≡ n
  long = length-take-le n xs short

  at : (i : ℕ) → i < n → f (i + 1) ≡ g (get_or (take n xs) i d)
  at i h = numbered_some d g xs (i + 1) (omega arith) ∙ ap (λ k. g (get_or xs k d)) (omega arith) ∙ ap g (sym (get_or-take n xs i d h))

  clear : (i : ℕ) → i < n → waits (get_or (take n xs) i d) ≡ false → f (i + 1) ≡ 0
  clear i h e = omega (arith, at i h, leb-false 1 (g (get_or (take n xs) i d)) e)

  by_place : (j : ℕ) → 1 ≤ j → f (j - 1 + 1) ≡ 0 → f j ≡ 0
  by_place j h e = ap f (omega arith) ∙ e

  pub first_found : (r : ℕ) → first_at waits xs n ≡ Some r → First f n r
  first_found r e = go (position waits (take n xs)) refl e
    where
      go : (o : Option ℕ) → position waits (take n xs) ≡ o → option_map (λ i. i + 1) o ≡ Some r → First f n r
      go None at' e' = nothing e'
      go (Some i) at' e' =
          let place : i + 1 ≡ r = same_value e' in
          let found = position-Some waits (take n xs) i d at' in
          let inside : i < n = omega (arith, found.0, long) in
          let here : 1 ≤ f (i + 1) = omega (arith, at i inside, leb-true 1 (g (get_or (take n xs) i d)) found.1) in
          record {
            some = omega arith;
            within = omega arith;
            there = subst (λ k. 1 ≤ f k) place here;
            before = λ j a b. by_place j a (clear (j - 1) (omega arith) (found.2 (j - 1) (omega arith)));
          }

  pub none_found : first_at waits xs n ≡ None → (j : ℕ) → 1 ≤ j → j ≤ n → f j ≡ 0
  none_found e j a b = by_place j a (clear (j - 1) (omega arith) (fails_before_first waits (take n xs) (j - 1) d (omega (arith, past))))
    where
      past : n ≤ position_or_len waits (take n xs)
      past = go (ltb (position_or_len waits (take n xs)) (length (take n xs))) refl e
        where
          go : (b : Bool) → ltb (position_or_len waits (take n xs)) (length (take n xs)) ≡ b → option_map (λ i. i + 1) (cond b (Some (position_or_len waits (take n xs))) None) ≡ None → n ≤ position_or_len waits (take n xs)
          go true t e' = nothing (sym e')
          go false t e' = omega (arith, ltb-false (position_or_len waits (take n xs)) (length (take n xs)) t, long)

-- the first part with backlog, and the highest task with a job
pub backlog_found : (backlogs : List ℕ) (n r : ℕ) → n ≤ length backlogs → first_backlog backlogs n ≡ Some r → First (backlog_of backlogs) n r
backlog_found backlogs n r short e = first_found 0 (λ x. x) backlogs n short r e

pub pending_found : (jobs : List Job) (n r : ℕ) → n ≤ length jobs → first_pending jobs n ≡ Some r → First (left_of jobs) n r
pending_found jobs n r short e = first_found no_job (λ x. x.left) jobs n short r e

pub backlogs_clear : (backlogs : List ℕ) (n : ℕ) → n ≤ length backlogs → first_backlog backlogs n ≡ None → (k : ℕ) → 1 ≤ k → k ≤ n → backlog_of backlogs k ≡ 0
backlogs_clear backlogs n short e = none_found 0 (λ x. x) backlogs n short e

pub jobs_clear : (jobs : List Job) (n : ℕ) → n ≤ length jobs → first_pending jobs n ≡ None → (i : ℕ) → 1 ≤ i → i ≤ n → left_of jobs i ≡ 0
jobs_clear jobs n short e = none_found no_job (λ x. x.left) jobs n short e
