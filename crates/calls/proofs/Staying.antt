-- A run is safe at its start, and a call that is no tick keeps it safe.
use Rattle.std.proofs.Common.{◌≡◌, ℕ, ◌+◌, ◌-◌, ◌<◌, ◌≤◌, cond, ltb, ◌⊎◌, inl, inr, arith}
use Rattle.std.proofs.lemmas.Bool.Decides.{nat_tests}
use Rattle.std.proofs.lemmas.Bool.{cases_lt}
use Rattle.calls.specs.States.{upto, Plan, Accepted, State, Fits, Fresh}
use Rattle.calls.proofs.Totals.{upto_below, upto_plus, upto_zero, upto_term, upto_last}
use Rattle.calls.proofs.Facts.{flood, ahead, coming, below, Quiet, Busy, Holding, Safe}
use Rattle.calls.proofs.Easing.{Eased}

-- where no part has backlog, the bound itself is a window that has room for all
pub quiet_anew : (p : Plan) (s : State) (i : ℕ) → Accepted p → Fits p s → 1 ≤ i → i ≤ p.tasks.parts → ((k : ℕ) → 1 ≤ k → k ≤ p.bank.parts → s.backlog k ≡ 0) → Quiet p s i (p.bound i)
quiet_anew p s i ok fits a b none =
    let banks : flood p s (p.bound i) ≤ upto (λ k. p.bank.demand k (p.bound i)) p.bank.parts = upto_below (λ k. s.backlog k + s.bank k (p.bound i)) (λ k. p.bank.demand k (p.bound i)) p.bank.parts (λ k c d. omega (arith, none k c d, fits.bank.within k (p.bound i))) in
    let others : upto (λ j. s.tasks j (p.bound i)) (i - 1) ≤ upto (λ j. p.tasks.demand j (p.bound i)) (i - 1) = upto_below (λ j. s.tasks j (p.bound i)) (λ j. p.tasks.demand j (p.bound i)) (i - 1) (λ j c d. fits.tasks.within j (p.bound i)) in
    let last : coming s i (p.bound i) ≡ upto (λ j. s.tasks j (p.bound i)) (i - 1) + s.tasks i (p.bound i) = upto_last (λ j. s.tasks j (p.bound i)) i a in
    let own : s.tasks i (p.bound i) ≤ p.cost i = fits.one i (p.bound i) a b (omega arith) in
    let room : p.blocking i + p.cost i + upto (λ k. p.bank.demand k (p.bound i)) p.bank.parts + upto (λ j. p.tasks.demand j (p.bound i)) (i - 1) ≤ p.bound i = ok.holds i a b in
    record { some = ok.some i a b; soon = omega arith; fits = omega arith }

pub safe_start : (p : Plan) (s : State) → Accepted p → Fits p s → Fresh s → Safe p s
safe_start p s ok fits fresh = record {
  fits = fits;
  sane = record {
    zeroth = fresh.left 0;
    outside = λ i out. fresh.left i;
    ageless = λ i none. fresh.age i;
    hold = inl (fresh.holder, fresh.held);
  };
  quiet = λ i a b. (p.bound i, quiet_anew p s i ok fits a b (λ k c d. fresh.backlog k));
  busy = λ i a b busy. (let none : upto s.left i ≡ 0 = upto_zero s.left i (λ j c d. fresh.left j) in absurd (omega arith));
}

module _ (p : Plan) (s t : State) (ok : Accepted p) (safe : Safe p s) (eased : Eased p s t) where
  flood_falls : (m : ℕ) → 1 ≤ m → flood p t m ≤ flood p s m
  flood_falls m h = upto_below (λ k. t.backlog k + t.bank k m) (λ k. s.backlog k + s.bank k m) p.bank.parts (λ k a b. eased.flood k m h)

  ahead_falls : (i m : ℕ) → 1 ≤ m → ahead t i m ≤ ahead s i m
  ahead_falls i m h = upto_below (λ j. t.left j + t.tasks j m) (λ j. s.left j + s.tasks j m) i (λ j a b. eased.ahead j m h)

  quiet_stays : (i m : ℕ) → Quiet p s i m → Quiet p t i m
  quiet_stays i m q =
      let f : flood p t m ≤ flood p s m = flood_falls m q.some in
      let c : coming t i m ≤ coming s i m = upto_below (λ j. t.tasks j m) (λ j. s.tasks j m) i (λ j a b. eased.coming j m q.some) in
      let whole : flood p s m + coming s i m + p.blocking i ≤ m = q.fits in
      record { some = q.some; soon = q.soon; fits = omega arith }

  busy_stays : (i m : ℕ) → 1 ≤ upto t.left i → Busy p s i m → Busy p t i m
  busy_stays i m more b =
      let f : flood p t m ≤ flood p s m = flood_falls m b.some in
      let c : ahead t i m ≤ ahead s i m = ahead_falls i m b.some in
      let d : below t i ≤ below s i = eased.below i more in
      let e : t.age i ≤ s.age i = eased.age i in
      let whole : flood p s m + ahead s i m + below s i ≤ m = b.fits in
      let age : s.age i + m ≤ p.bound i = b.soon in
      record { some = b.some; soon = omega arith; fits = omega arith }

  -- a task below task i holds for at most the blocking of task i
  below_least : (i : ℕ) → 1 ≤ i → below s i ≤ p.blocking i
  below_least i a = least safe.sane.hold (cases_lt i s.holder)
    where
      least : Holding p s.left s.holder s.held → (i < s.holder) ⊎ (s.holder ≤ i) → cond (ltb i s.holder) s.held 0 ≤ p.blocking i
      least h (inr g) = grind (arith, nat_tests)
      least (inl h) (inl l) = absurd (omega arith)
      least (inr h) (inl l) = (let short : p.hold s.holder ≤ p.blocking i = ok.blocked i s.holder a l h.1 in grind (arith, nat_tests))

  -- the first job among tasks 1 to i
  busy_begins : (i m : ℕ) → 1 ≤ i → 1 ≤ upto t.left i → upto s.left i ≡ 0 → Quiet p s i m → Busy p t i m
  busy_begins i m a more none q =
      let f : flood p t m ≤ flood p s m = flood_falls m q.some in
      let c : ahead t i m ≤ ahead s i m = ahead_falls i m q.some in
      let split : ahead s i m ≡ upto s.left i + coming s i m = upto_plus s.left (λ j. s.tasks j m) i in
      let d : below t i ≤ below s i = eased.below i more in
      let e : t.age i ≤ s.age i = eased.age i in
      let own : s.left i ≤ upto s.left i = upto_term s.left i i a (omega arith) in
      let young : s.age i ≡ 0 = safe.sane.ageless i (omega arith) in
      let least : below s i ≤ p.blocking i = below_least i a in
      let whole : flood p s m + coming s i m + p.blocking i ≤ m = q.fits in
      let soon : m ≤ p.bound i = q.soon in
      record { some = q.some; soon = omega arith; fits = omega arith }

  pub safe_eased : Fits p t → Safe p t
  safe_eased fits = record {
    fits = fits;
    sane = eased.sane;
    quiet = λ i a b. (let q = safe.quiet i a b in (q.0, quiet_stays i q.0 q.1));
    busy = λ i a b more. busy_at i a b more (cases_lt 0 (upto s.left i));
  }
    where
      busy_at : (i : ℕ) → 1 ≤ i → i ≤ p.tasks.parts → 1 ≤ upto t.left i → (0 < upto s.left i) ⊎ (upto s.left i ≤ 0) → (m : ℕ) × Busy p t i m
      busy_at i a b more (inl l) = (let q = safe.busy i a b (omega arith) in (q.0, busy_stays i q.0 more q.1))
      busy_at i a b more (inr g) = (let q = safe.quiet i a b in (q.0, busy_begins i q.0 a more (omega arith) q.1))
