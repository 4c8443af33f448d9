-- A schedule owes what a source and a gate owe.
-- Lemmas only, which laws of traits cite; a reader of the definitions can pass over them.
use Rattle.std.specs.Prelude.{◌≡◌, ℕ, zero, suc, ◌+◌, ◌*◌, ◌/◌, ◌%◌, ◌<◌, ◌≤◌, cond, List, All, length, refl}
use Rattle.std.proofs.Common.{sym, ap, ◌∙◌, subst, arith, add-one, inl, inr}
use Rattle.std.proofs.lemmas.Bool.{cond_both, cases_lt}
use Rattle.std.proofs.lemmas.List.{get_or_past}
use Rattle.cycles.specs.Round.{sum, top}
use Rattle.cycles.proofs.Rounds.{top_at, top_least, top_rises, top_split, met_rises, met_least, met_first, next_within}
use Rattle.source.specs.Facts.{Ticked}
use Rattle.source.specs.Rows.{Owes, allowed_one}
use Rattle.source.proofs.Gates.{one_ticked}
use Rattle.schedule.specs.Phases.{Timetable, none, offset_of, length_of, total_length, length_at, lengths_met, demand, allowance, offered, later, timetables, FitPairs, Fit}
use Rattle.schedule.specs.declared.slot.Slot.{Slot}
use Rattle.schedule.specs.Windows.{whole_is, at_phase_small}

-- a length, also where it is read past the last pair
pub length_small : (pairs : List Slot) → All (λ pair. pair.length ≤ 1000000) pairs → (i : ℕ) → length_of pairs i ≤ 1000000
length_small pairs lengths i = elim (cases_lt i (length pairs)) [ inl l ↦ lengths i none l | inr g ↦ omega (arith, ap (λ s. s.length) (get_or_past pairs i none g)) ]

module _ (cycle : ℕ) (pairs : List Slot) (fit : FitPairs cycle pairs) where
  pub below_cycle : (i : ℕ) → i < length pairs → offset_of pairs i < cycle
  below_cycle i h = fit.below i none h

  pub rising_on : (i j : ℕ) → i < j → j < length pairs → offset_of pairs i < offset_of pairs j
  rising_on i j l h = fit.rising i j none l h

module _ (t : Timetable) (fit : Fit t) where
  pos : 0 < t.cycle
  pos = omega (arith, fit.phase)

  below : (i : ℕ) → i < length t.pairs → offset_of t.pairs i < t.cycle
  below = below_cycle t.cycle t.pairs fit.pairs

  rising : (i j : ℕ) → i < j → j < length t.pairs → offset_of t.pairs i < offset_of t.pairs j
  rising = rising_on t.cycle t.pairs fit.pairs

  phase_small : (p : ℕ) → length_at t.pairs p ≤ 1000000
  phase_small p = at_phase_small t.cycle (length t.pairs) (offset_of t.pairs) (length_of t.pairs) pos below rising 1000000 p (λ i _. length_small t.pairs fit.pairs.lengths i)

  -- all lengths, as a whole cycle meets them
  whole_cycle : sum (length_at t.pairs) t.cycle ≡ total_length t.pairs
  whole_cycle = sym (met_first t.cycle (length_at t.pairs) t.cycle (omega arith)) ∙ whole_is t.cycle (length t.pairs) (offset_of t.pairs) (length_of t.pairs) pos below rising

  -- demand in the way it is computed: whole cycles, and the rest of the window
  pub demand_split : (l : ℕ) → demand t l ≡ l / t.cycle * total_length t.pairs + top (lengths_met t.cycle t.pairs (l % t.cycle)) t.cycle
  demand_split l = top_split t.cycle (length_at t.pairs) l pos ∙ ap (λ w. l / t.cycle * w + top (lengths_met t.cycle t.pairs (l % t.cycle)) t.cycle) whole_cycle

  demand_small : (l : ℕ) → l ≤ 1000000 → demand t l ≤ 10000000000000
  demand_small l h = top_least (lengths_met t.cycle t.pairs l) t.cycle 10000000000000 (λ p _. omega (arith, met_least t.cycle (length_at t.pairs) 1000000 p l phase_small))

  allowance_within : (l : ℕ) → allowance t l ≤ demand t l
  allowance_within zero = omega arith
  allowance_within (suc l) =
      omega (
        arith,
        cond_both t.taken 0 (length_at t.pairs t.phase) (λ x. x ≤ length_at t.pairs t.phase) (λ _. omega arith) (λ _. omega arith),
        top_at (lengths_met t.cycle t.pairs (suc l)) t.cycle t.phase fit.phase,
      )

demand_none : (t : Timetable) → demand t 0 ≡ 0
demand_none t =
    let none : demand t 0 ≤ 0 = top_least (lengths_met t.cycle t.pairs 0) t.cycle 0 (λ p _. omega arith) in
    omega arith

demand_rises : (t : Timetable) (l m : ℕ) → l ≤ m → demand t l ≤ demand t m
demand_rises t l m h = top_rises (lengths_met t.cycle t.pairs l) (lengths_met t.cycle t.pairs m) t.cycle (λ p _. met_rises t.cycle (length_at t.pairs) p l m h)

-- for one tick: the length of the pair at the phase, unless it was taken
pub allowance_one : (t : Timetable) → allowance t 1 ≡ cond t.taken 0 (length_at t.pairs t.phase)
allowance_one t = omega arith

offered_within : (t : Timetable) (u l : ℕ) → u ≤ allowance t 1 → 1 ≤ l → u + allowance (offered t) l ≤ allowance t l
offered_within t u zero within h = omega arith
offered_within t u (suc l) within h = omega (arith, within, allowance_one t)

later_shorter : (t : Timetable) (l : ℕ) → allowance (later t) l ≤ allowance t (l + 1)
later_shorter t zero = omega arith
later_shorter t (suc l) = subst (λ k. allowance (later t) (suc l) ≤ allowance t k) (sym (add-one (suc l))) (omega arith)

pub timetables_owe : Owes timetables Fit
timetables_owe = record {
  none = λ t _. demand_none t;
  rises = λ t l m _ h. demand_rises t l m h;
  small = λ t l fit h. demand_small t fit l h;
  within = λ t l fit. allowance_within t fit l;
  given_demand = λ t u l. refl;
  given_within = λ t u l _ _ within h. offered_within t u l within h;
  given_fit = λ t u fit _ _. record { pairs = fit.pairs; phase = fit.phase };
  later_demand = λ t l. refl;
  later_shorter = λ t l _. later_shorter t l;
  later_fit = λ t fit. record { pairs = fit.pairs; phase = next_within t.cycle t.phase (omega (arith, fit.phase)) };
}

-- what a tick makes of a schedule
pub later_ticked : (t u : Timetable) → Fit t → u ≡ later t → Ticked (allowed_one timetables t) (allowed_one timetables u)
later_ticked t u fit e = (one_ticked timetables timetables_owe t u fit e).1
