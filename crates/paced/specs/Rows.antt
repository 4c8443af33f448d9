-- A row of paced work owes what a source and a gate owe.
-- Lemmas only, which laws of traits cite; a reader of the definitions can pass over them.
use Rattle.std.specs.Prelude.{◌≡◌, ℕ, zero, suc, ◌+◌, ◌-◌, ◌*◌, ◌/◌, ◌%◌, ◌<◌, ◌≤◌, true, cond, leb, ◌≢◌, nat_le, refl}
use Rattle.std.proofs.Common.{sym, ap, ◌∙◌, subst, inl, inr, arith, add-one, div-le_self, le-div_iff_mul-le, div-mul-le_self}
use Rattle.std.proofs.Math.Nat.{div-eq_of_lt, div-eq-sub-div}
use Rattle.std.proofs.lemmas.Bool.{leb-true, le-leb, cond-true, cond-false, cond_both, cases_Bool}
use Rattle.cycles.specs.Round.{sum, next}
use Rattle.cycles.proofs.Rounds.{top_least, top_at, top_rises, top_split, met_rises, met_least, next_within}
use Rattle.paced.specs.Runs.{at, largest}
use Rattle.source.specs.Rows.{Owes}
use Rattle.paced.specs.Pace.{run, arrivals, coming, demand, allowance, given, later, Fit, paced}
use Rattle.paced.specs.declared.row.Row.{Row}

div_rises : (a b t : ℕ) → 0 < t → a ≤ b → a / t ≤ b / t
div_rises a b t pos h = (le-div_iff_mul-le pos).1 (omega (arith, div-mul-le_self a t))

-- a longer window, and a lower level, bring no fewer costs
arrivals_rise : (r : Row) (v v' l l' : ℕ) → Fit r → v' ≤ v → l ≤ l' → arrivals r v l ≤ arrivals r v' l'
arrivals_rise r v v' zero l' fit p q = omega arith
arrivals_rise r v v' (suc l) zero fit p q = omega arith
arrivals_rise r v v' (suc l) (suc l') fit p q =
    let less : r.jitter + l - v ≤ r.jitter + l' - v' = omega arith in
    omega (arith, div_rises (r.jitter + l - v) (r.jitter + l' - v') r.period fit.paces.0 less)

arrivals_few : (r : Row) (l : ℕ) → Fit r → l ≤ 1000000 → arrivals r 0 l ≤ 2000000
arrivals_few r zero fit h = omega arith
arrivals_few r (suc l) fit h = omega (arith, div-le_self (r.jitter + l - 0) r.period, fit.paces)

runs_rise : (r : Row) (m m' i : ℕ) → m ≤ m' → run r i m ≤ run r i m'
runs_rise r m m' i h = met_rises r.count (at r.costs) i m m' h

run_within : (r : Row) (m m' : ℕ) → Fit r → m ≤ m' → run r r.place m ≤ largest r.count r.costs m'
run_within r m m' fit h = omega (arith, runs_rise r m m' r.place h, top_at (λ i. run r i m') r.count r.place fit.places.2)

pub demand_none : (r : Row) → demand r 0 ≡ 0
demand_none r =
    let none : demand r 0 ≤ 0 = top_least (λ i. run r i 0) r.count 0 (λ p _. omega arith) in
    omega arith

pub demand_rises : (r : Row) (l l' : ℕ) → Fit r → l ≤ l' → demand r l ≤ demand r l'
demand_rises r l l' fit h =
    top_rises (λ i. run r i (arrivals r 0 l)) (λ i. run r i (arrivals r 0 l')) r.count (λ p _. runs_rise r (arrivals r 0 l) (arrivals r 0 l') p (arrivals_rise r 0 0 l l' fit (omega arith) h))

pub demand_small : (r : Row) (l : ℕ) → Fit r → l ≤ 1000000 → demand r l ≤ 2000000000000
demand_small r l fit h =
    top_least (λ i. run r i (arrivals r 0 l)) r.count 2000000000000 (λ p _. omega (arith, met_least r.count (at r.costs) 1000000 p (arrivals r 0 l) fit.costs, arrivals_few r l fit h))

pub allowance_within : (r : Row) (l : ℕ) → Fit r → allowance r l ≤ demand r l
allowance_within r zero fit = omega arith
allowance_within r (suc l) fit =
    cond_both (nat_le r.level (r.jitter + l)) (run r r.place (arrivals r r.level (suc l))) 0 (λ x. x ≤ demand r (suc l))
    (λ _. run_within r (arrivals r r.level (suc l)) (arrivals r 0 (suc l)) fit (arrivals_rise r r.level 0 (suc l) (suc l) fit (omega arith) (omega arith)))
    (λ _. omega arith)

-- for one tick: the next cost, if the level is at most the jitter
pub allowance_one : (r : Row) → Fit r → allowance r 1 ≡ cond (nat_le r.level r.jitter) (at r.costs r.place) 0
allowance_one r fit =
    let none : (r.jitter + 0 - r.level) / r.period ≡ 0 = div-eq_of_lt (omega (arith, fit.paces)) in
    let j : r.jitter + 0 ≡ r.jitter = omega arith in
    let one : run r r.place 1 ≡ at r.costs r.place = omega arith in
    ap (λ m. cond (nat_le r.level (r.jitter + 0)) (run r r.place (m + 1)) 0) none ∙ ap (λ k. cond (nat_le r.level k) (run r r.place 1) 0) j ∙ ap (λ x. cond (nat_le r.level r.jitter) x 0) one

-- while the level is at most the jitter, the allowance is the next cost and what follows it
open_allowance : (r : Row) (l : ℕ) → r.level ≤ r.jitter → allowance r (suc l) ≡ at r.costs r.place + run r (next r.count r.place) ((r.jitter + l - r.level) / r.period)
open_allowance r l h =
    cond-true (nat_le r.level (r.jitter + l)) (run r r.place (arrivals r r.level (suc l))) 0 (le-leb r.level (r.jitter + l) (omega arith)) ∙ ap (run r r.place) (add-one ((r.jitter + l - r.level) / r.period))

pub given_within : (r : Row) (u l : ℕ) → Fit r → 1 ≤ u → u ≤ allowance r 1 → 1 ≤ l → u + allowance (given r) l ≤ allowance r l
given_within r u zero fit p q h = omega arith
given_within r u (suc l) fit p q h =
    cond_both (nat_le (r.level + r.period) (r.jitter + l)) (run r f (arrivals r (r.level + r.period) (suc l))) 0 (λ x. u + x ≤ allowance r (suc l))
    (λ e. (let room : r.level + r.period ≤ r.jitter + l = leb-true (r.level + r.period) (r.jitter + l) e in
    let less : r.jitter + l - (r.level + r.period) ≡ r.jitter + l - r.level - r.period = omega arith in
    let one_less : (r.jitter + l - r.level) / r.period ≡ (r.jitter + l - r.level - r.period) / r.period + 1 = div-eq-sub-div fit.paces.0 (omega arith) in
    let same : run r f (arrivals r (r.level + r.period) (suc l)) ≡ run r f ((r.jitter + l - r.level) / r.period) = ap (λ k. run r f (k / r.period + 1)) less ∙ ap (run r f) (sym one_less) in
    omega (arith, next_cost, open_allowance r l low)))
    (λ _. omega (arith, next_cost, open_allowance r l low))
  where
    f : ℕ
    f = next r.count r.place

    one : cond (nat_le r.level r.jitter) (at r.costs r.place) 0 ≡ allowance r 1
    one = sym (allowance_one r fit)

    low : r.level ≤ r.jitter
    low = elim (cases_Bool (nat_le r.level r.jitter)) [ inl e ↦ leb-true r.level r.jitter e | inr e ↦ (let z : allowance r 1 ≡ 0 = sym one ∙ cond-false (nat_le r.level r.jitter) (at r.costs r.place) 0 e in omega arith) ]

    next_cost : u ≤ at r.costs r.place
    next_cost = omega (arith, one, cond-true (nat_le r.level r.jitter) (at r.costs r.place) 0 (le-leb r.level r.jitter low))

pub later_shorter : (r : Row) (l : ℕ) → Fit r → allowance (later r) l ≤ allowance r (l + 1)
later_shorter r zero fit = omega arith
later_shorter r (suc l) fit =
    subst (λ k. allowance (later r) (suc l) ≤ allowance r k) (sym (add-one (suc l)))
    (cond_both (nat_le (r.level - 1) (r.jitter + l)) (run r r.place ((r.jitter + l - (r.level - 1)) / r.period + 1)) 0 (λ x. x ≤ allowance r (suc (suc l))) low (λ _. omega arith))
  where
    low : leb (r.level - 1) (r.jitter + l) ≡ true → run r r.place ((r.jitter + l - (r.level - 1)) / r.period + 1) ≤ allowance r (suc (suc l))
    low e =
        let before : r.level - 1 ≤ r.jitter + l = leb-true (r.level - 1) (r.jitter + l) e in
        let room : allowance r (suc (suc l)) ≡ run r r.place ((r.jitter + suc l - r.level) / r.period + 1) = cond-true (nat_le r.level (r.jitter + suc l)) (run r r.place ((r.jitter + suc l - r.level) / r.period + 1)) 0 (le-leb r.level (r.jitter + suc l) (omega arith)) in
        let few : (r.jitter + l - (r.level - 1)) / r.period ≤ (r.jitter + suc l - r.level) / r.period = div_rises (r.jitter + l - (r.level - 1)) (r.jitter + suc l - r.level) r.period fit.paces.0 (omega arith) in
        omega (arith, room, runs_rise r ((r.jitter + l - (r.level - 1)) / r.period + 1) ((r.jitter + suc l - r.level) / r.period + 1) r.place (omega arith))

-- demand in the way it is computed: whole rounds of the costs, and the largest run of what is left
pub demand_split : (r : Row) (l : ℕ) → Fit r → demand r l ≡ arrivals r 0 l / r.count * sum (at r.costs) r.count + largest r.count r.costs (arrivals r 0 l % r.count)
demand_split r l fit = top_split r.count (at r.costs) (arrivals r 0 l) (omega (arith, fit.places))

-- a row stays fit
pub given_fit : (r : Row) → Fit r → r.level ≤ r.jitter → Fit (given r)
given_fit r fit low = record { paces = fit.paces; places = (fit.places.0, fit.places.1, next_within r.count r.place (omega (arith, fit.places)), omega arith); costs = fit.costs }

pub later_fit : (r : Row) → Fit r → Fit (later r)
later_fit r fit = record { paces = fit.paces; places = (fit.places.0, fit.places.1, fit.places.2, omega (arith, fit.places)); costs = fit.costs }

-- arrivals in a window of at least a tick
pub arrivals_in : (r : Row) (l : ℕ) → (l ≢ 0) → arrivals r 0 l ≡ coming r l
arrivals_in r zero h = absurd (h refl)
arrivals_in r (suc l) h = ap (λ k. k / r.period + 1) (omega arith)

demand_given : (r : Row) (l : ℕ) → demand (given r) l ≡ demand r l
demand_given r zero = refl
demand_given r (suc l) = refl

demand_later : (r : Row) (l : ℕ) → demand (later r) l ≡ demand r l
demand_later r zero = refl
demand_later r (suc l) = refl

-- where a unit may be offered, the level is at most the jitter
pub level_low : (r : Row) → Fit r → 1 ≤ allowance r 1 → r.level ≤ r.jitter
level_low r fit some = elim (cases_Bool (nat_le r.level r.jitter)) [
  | inl e ↦ leb-true r.level r.jitter e
  | inr e ↦ absurd (omega (arith, some, allowance_one r fit, cond-false (nat_le r.level r.jitter) (at r.costs r.place) 0 e))
]

-- what paced rows owe, and so a table of them
pub paced_owes : Owes paced Fit
paced_owes =
    record {
      none = λ r _. demand_none r;
      rises = λ r l m fit h. demand_rises r l m fit h;
      small = λ r l fit h. omega (arith, demand_small r l fit h);
      within = allowance_within_fit;
      given_demand = λ r u l. demand_given r l;
      given_within = λ r u l fit some units h. given_within r u l fit some units h;
      given_fit = λ r u fit some units. given_fit r fit (level_low r fit (omega arith));
      later_demand = demand_later;
      later_shorter = λ r l fit. later_shorter r l fit;
      later_fit = later_fit;
    }
  where
    allowance_within_fit : (r : Row) (l : ℕ) → Fit r → allowance r l ≤ demand r l
    allowance_within_fit r l fit = allowance_within r l fit
