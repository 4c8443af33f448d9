-- A tick keeps a run safe.
use Rattle.std.proofs.Common.{◌≡◌, ℕ, ◌+◌, ◌-◌, ◌<◌, ◌≤◌, min, cond, Bool, true, false, ◌&&◌, nat_le, ltb, ◌≢◌, ◌⊎◌, inl, inr, Option, refl, ap, ◌∙◌, arith}
use Rattle.std.proofs.lemmas.Bool.Decides.{nat_tests}
use Rattle.std.proofs.lemmas.Bool.{cases_eq, cases_lt}
use Rattle.calls.specs.declared.Got.{Got}
use Rattle.calls.specs.declared.Got.TheVariants.{Nobody, Part, Task}
use Rattle.calls.specs.States.{upto, Plan, Accepted, State, Fits}
use Rattle.calls.specs.Steps.{Due, Passed, part_unit, task_unit, kept_units}
use Rattle.calls.proofs.Totals.{upto_below, upto_less, upto_plus, upto_zero, upto_term}
use Rattle.calls.proofs.Facts.{flood, ahead, coming, below, Quiet, Busy, Holding, Sane, Safe}
use Rattle.calls.proofs.Staying.{quiet_anew}

-- what the holder of a hold of x units becomes, of which u are used, where b says that the hold goes on
below_used : (i h h' x x' u : ℕ) (b : Bool) → h' ≡ cond b h 0 → x' ≡ cond b (x - u) 0 → cond (ltb i h') x' 0 ≤ cond (ltb i h) (x - u) 0
below_used i h h' x x' u true e f = grind (arith, nat_tests)
below_used i h h' x x' u false e f = grind (arith, nat_tests)

below_fewer : (i h x u : ℕ) → cond (ltb i h) (x - u) 0 ≤ cond (ltb i h) x 0
below_fewer i h x u = grind (arith, nat_tests)

below_one : (i h x u : ℕ) → i < h → 1 ≤ x → 1 ≤ u → cond (ltb i h) (x - u) 0 + 1 ≤ cond (ltb i h) x 0
below_one i h x u a b c = grind (arith, nat_tests)

goes_on : (x : ℕ) (b : Bool) → (nat_le 1 x && b) ≡ true → 1 ≤ x
goes_on x b e = grind (arith, nat_tests)

own_unit : (j : ℕ) (a : Option ℕ) → task_unit (Task j a) j ≡ 1
own_unit j a = grind (arith, nat_tests)

own_part : (k : ℕ) → part_unit (Part k) k ≡ 1
own_part k = grind (arith, nat_tests)

module _ (p : Plan) (s t : State) (got : Got) (h : Passed p s got t) where
  bank_shorter : (k m : ℕ) → 1 ≤ m → t.bank k (m - 1) ≤ s.bank k m
  bank_shorter k m a =
      let e : m - 1 + 1 ≡ m = omega arith in
      let same : s.bank k (m - 1 + 1) ≡ s.bank k m = ap (s.bank k) e in
      omega (arith, h.bank.shorter k (m - 1))

  tasks_shorter : (i m : ℕ) → 1 ≤ m → t.tasks i (m - 1) ≤ s.tasks i m
  tasks_shorter i m a =
      let e : m - 1 + 1 ≡ m = omega arith in
      let same : s.tasks i (m - 1 + 1) ≡ s.tasks i m = ap (s.tasks i) e in
      omega (arith, h.tasks.shorter i (m - 1))

  flood_point : (k m : ℕ) → 1 ≤ m → t.backlog k + t.bank k (m - 1) ≤ s.backlog k + s.bank k m
  flood_point k m a = omega (arith, h.backlog k, bank_shorter k m a)

  ahead_point : (i m : ℕ) → 1 ≤ m → t.left i + t.tasks i (m - 1) ≤ s.left i + s.tasks i m
  ahead_point i m a = omega (arith, h.left i, tasks_shorter i m a)

  pub flood_passes : (m : ℕ) → 1 ≤ m → flood p t (m - 1) ≤ flood p s m
  flood_passes m a = upto_below (λ k. t.backlog k + t.bank k (m - 1)) (λ k. s.backlog k + s.bank k m) p.bank.parts (λ k b c. flood_point k m a)

  pub ahead_passes : (i m : ℕ) → 1 ≤ m → ahead t i (m - 1) ≤ ahead s i m
  ahead_passes i m a = upto_below (λ j. t.left j + t.tasks j (m - 1)) (λ j. s.left j + s.tasks j m) i (λ j b c. ahead_point j m a)

  pub coming_passes : (i m : ℕ) → 1 ≤ m → coming t i (m - 1) ≤ coming s i m
  coming_passes i m a = upto_below (λ j. t.tasks j (m - 1)) (λ j. s.tasks j m) i (λ j b c. tasks_shorter j m a)

  pub left_falls : (i : ℕ) → upto t.left i ≤ upto s.left i
  left_falls i = upto_below t.left s.left i (λ j b c. omega (arith, h.left j))

  below_kept : (i : ℕ) → below t i ≤ cond (ltb i s.holder) (s.held - task_unit got s.holder) 0
  below_kept i = below_used i s.holder t.holder s.held t.held (task_unit got s.holder) (nat_le 1 (kept_units s got) && nat_le 1 (t.left s.holder)) h.holder h.held

  pub below_passes : (i : ℕ) → below t i ≤ below s i
  below_passes i = omega (arith, below_kept i, below_fewer i s.holder s.held (task_unit got s.holder))

-- a task that gets the unit has a job
pub has_job : (p : Plan) (s : State) (i : ℕ) (a : Option ℕ) → Sane p s → Due p s (Task i a) → (i ≤ p.tasks.parts) × (1 ≤ s.left i)
has_job p s i a sane due = go due.2 sane.hold
  where
    go : (s.holder ≡ i) ⊎ ((s.holder ≡ 0) × (i ≤ p.tasks.parts) × (1 ≤ s.left i) × ((j : ℕ) → 1 ≤ j → j < i → s.left j ≡ 0)) → Holding p s.left s.holder s.held → (i ≤ p.tasks.parts) × (1 ≤ s.left i)
    go (inr which) hold = (which.1, which.2)
    go (inl e) (inl hold) = absurd (omega (arith, due.1, e, hold.0))
    go (inl e) (inr hold) = (let same : s.left s.holder ≡ s.left i = ap s.left e in (omega arith, omega arith))

-- a part that gets the unit
module _ (p : Plan) (s t : State) (k : ℕ) (h : Passed p s (Part k) t) where
  pub flood_served : (m : ℕ) → 1 ≤ m → flood p t (m - 1) + 1 ≤ flood p s m
  flood_served m a =
      upto_less (λ q. t.backlog q + t.bank q (m - 1)) (λ q. s.backlog q + s.bank q m) p.bank.parts k h.due.0 h.due.1 (λ q b c. flood_point p s t (Part k) h q m a) here
    where
      here : t.backlog k + t.bank k (m - 1) + 1 ≤ s.backlog k + s.bank k m
      here =
          let some : 1 ≤ s.backlog k = h.due.2 in
          let unit : part_unit (Part k) k ≡ 1 = own_part k in
          let new : t.backlog k ≡ s.backlog k - part_unit (Part k) k = h.backlog k in
          let less : t.bank k (m - 1) ≤ s.bank k m = bank_shorter p s t (Part k) h k m a in
          omega arith

-- a task that gets the unit
module _ (p : Plan) (s t : State) (j : ℕ) (a : Option ℕ) (sane : Sane p s) (h : Passed p s (Task j a) t) where
  pub ahead_served : (i m : ℕ) → j ≤ i → 1 ≤ m → ahead t i (m - 1) + 1 ≤ ahead s i m
  ahead_served i m l c =
      upto_less (λ q. t.left q + t.tasks q (m - 1)) (λ q. s.left q + s.tasks q m) i j h.due.1 l (λ q b d. ahead_point p s t (Task j a) h q m c) here
    where
      here : t.left j + t.tasks j (m - 1) + 1 ≤ s.left j + s.tasks j m
      here =
          let some : 1 ≤ s.left j = (has_job p s j a sane h.due).1 in
          let unit : task_unit (Task j a) j ≡ 1 = own_unit j a in
          let new : t.left j ≡ s.left j - task_unit (Task j a) j = h.left j in
          let less : t.tasks j (m - 1) ≤ s.tasks j m = tasks_shorter p s t (Task j a) h j m c in
          omega arith

  pub below_served : (i : ℕ) → s.holder ≡ j → i < j → below t i + 1 ≤ below s i
  below_served i e l =
      let kept : below t i ≤ cond (ltb i s.holder) (s.held - task_unit (Task j a) s.holder) 0 = below_kept p s t (Task j a) h i in
      let unit : task_unit (Task j a) s.holder ≡ 1 = ap (task_unit (Task j a)) e ∙ own_unit j a in
      let some : 1 ≤ s.held = held sane.hold in
      omega (arith, below_one i s.holder s.held (task_unit (Task j a) s.holder) (omega arith) some (omega arith))
    where
      held : Holding p s.left s.holder s.held → 1 ≤ s.held
      held (inl x) = absurd (omega arith)
      held (inr x) = x.2

module _ (p : Plan) (s : State) (ok : Accepted p) (safe : Safe p s) where
  -- all that is ahead of task i falls by the unit, if a job of tasks 1 to i is pending
  all_served : (t : State) (got : Got) → Passed p s got t → (i m : ℕ) → i ≤ p.tasks.parts → 1 ≤ m → 1 ≤ upto s.left i → flood p t (m - 1) + ahead t i (m - 1) + below t i + 1 ≤ flood p s m + ahead s i m + below s i
  all_served t Nobody h i m b c more =
      let none : upto s.left i ≡ 0 = upto_zero s.left i (λ j d e. h.due.2 j d (omega arith)) in
      absurd (omega arith)
  all_served t (Part k) h i m b c more =
      let f : flood p t (m - 1) + 1 ≤ flood p s m = flood_served p s t k h m c in
      let a : ahead t i (m - 1) ≤ ahead s i m = ahead_passes p s t (Part k) h i m c in
      let d : below t i ≤ below s i = below_passes p s t (Part k) h i in
      omega arith
  all_served t (Task j old) h i m b c more = go h.due.2 (cases_lt i j)
    where
      f : flood p t (m - 1) ≤ flood p s m
      f = flood_passes p s t (Task j old) h m c

      a : ahead t i (m - 1) ≤ ahead s i m
      a = ahead_passes p s t (Task j old) h i m c

      d : below t i ≤ below s i
      d = below_passes p s t (Task j old) h i

      go : (s.holder ≡ j) ⊎ ((s.holder ≡ 0) × (j ≤ p.tasks.parts) × (1 ≤ s.left j) × ((k : ℕ) → 1 ≤ k → k < j → s.left k ≡ 0)) → (i < j) ⊎ (j ≤ i) → flood p t (m - 1) + ahead t i (m - 1) + below t i + 1 ≤ flood p s m + ahead s i m + below s i
      go which (inr g) = let a' : ahead t i (m - 1) + 1 ≤ ahead s i m = ahead_served p s t j old safe.sane h i m g c in omega (arith, f, d)
      go (inl e) (inl l) = let d' : below t i + 1 ≤ below s i = below_served p s t j old safe.sane h i e l in omega (arith, f, a)
      go (inr e) (inl l) = let none : upto s.left i ≡ 0 = upto_zero s.left i (λ k x y. e.3 k x (omega arith)) in absurd (omega arith)

  -- a job that is pending is told no age above its bound
  pub in_time : (i : ℕ) → 1 ≤ i → i ≤ p.tasks.parts → 1 ≤ s.left i → s.age i + 1 ≤ p.bound i
  in_time i a b some =
      let more : 1 ≤ upto s.left i = omega (arith, upto_term s.left i i a (omega arith)) in
      let q = safe.busy i a b more in
      omega (arith, q.1.some, q.1.soon)

  -- only a task has a job
  pub is_task : (i : ℕ) → 1 ≤ s.left i → (1 ≤ i) × (i ≤ p.tasks.parts)
  is_task i some = (first (cases_eq i 0), last (cases_lt p.tasks.parts i))
    where
      first : (i ≡ 0) ⊎ (i ≢ 0) → 1 ≤ i
      first (inl e) = let same : s.left i ≡ s.left 0 = ap s.left e in absurd (omega (arith, safe.sane.zeroth))
      first (inr ne) = omega arith

      last : (p.tasks.parts < i) ⊎ (i ≤ p.tasks.parts) → i ≤ p.tasks.parts
      last (inl l) = absurd (omega (arith, safe.sane.outside i l))
      last (inr g) = g

  -- the cap on ages is never met
  pub uncapped : (i : ℕ) → 1 ≤ s.left i → min (s.age i + 1) p.cap ≡ s.age i + 1
  uncapped i some =
      let task = is_task i some in
      let soon : s.age i + 1 ≤ p.bound i = in_time i task.0 task.1 some in
      let room : p.bound i ≤ p.cap = ok.capped i task.0 task.1 in
      omega arith

  pub age_exact : (t : State) (got : Got) → Passed p s got t → (i : ℕ) → t.age i ≡ cond (nat_le 1 (t.left i)) (s.age i + 1) 0
  age_exact t got h i = go (cases_lt 0 (t.left i))
    where
      go : (0 < t.left i) ⊎ (t.left i ≤ 0) → t.age i ≡ cond (nat_le 1 (t.left i)) (s.age i + 1) 0
      go (inl l) =
          let some : 1 ≤ s.left i = omega (arith, h.left i) in
          let old : min (s.age i + 1) p.cap ≡ s.age i + 1 = uncapped i some in
          h.age i ∙ ap (λ x. cond (nat_le 1 (t.left i)) x 0) old
      go (inr g) = let new = h.age i in grind (arith, nat_tests)

  age_older : (t : State) (got : Got) → Passed p s got t → (i : ℕ) → t.age i ≤ s.age i + 1
  age_older t got h i = let new = age_exact t got h i in grind (arith, nat_tests)

  busy_passes : (t : State) (got : Got) → Passed p s got t → (i m : ℕ) → i ≤ p.tasks.parts → 1 ≤ upto t.left i → Busy p s i m → Busy p t i (m - 1)
  busy_passes t got h i m b more q =
      let some : 1 ≤ m = q.some in
      let soon : s.age i + m ≤ p.bound i = q.soon in
      let whole : flood p s m + ahead s i m + below s i ≤ m = q.fits in
      let before : upto t.left i ≤ upto s.left i = left_falls p s t got h i in
      let served : flood p t (m - 1) + ahead t i (m - 1) + below t i + 1 ≤ flood p s m + ahead s i m + below s i = all_served t got h i m b some (omega arith) in
      let split : ahead t i (m - 1) ≡ upto t.left i + coming t i (m - 1) = upto_plus t.left (λ j. t.tasks j (m - 1)) i in
      let old : t.age i ≤ s.age i + 1 = age_older t got h i in
      record { some = omega arith; soon = omega arith; fits = omega arith }

  quiet_served : (t : State) (got : Got) → Passed p s got t → (i m : ℕ) → 1 ≤ upto t.backlog p.bank.parts → Quiet p s i m → Quiet p t i (m - 1)
  quiet_served t Nobody h i m more q =
      let none : upto t.backlog p.bank.parts ≡ 0 = upto_zero t.backlog p.bank.parts (λ k a b. omega (arith, h.backlog k, h.due.0 k a b)) in
      absurd (omega arith)
  quiet_served t (Task j old) h i m more q =
      let none : upto t.backlog p.bank.parts ≡ 0 = upto_zero t.backlog p.bank.parts (λ k a b. omega (arith, h.backlog k, h.due.0 k a b)) in
      absurd (omega arith)
  quiet_served t (Part k) h i m more q =
      let some : 1 ≤ m = q.some in
      let soon : m ≤ p.bound i = q.soon in
      let whole : flood p s m + coming s i m + p.blocking i ≤ m = q.fits in
      let f : flood p t (m - 1) + 1 ≤ flood p s m = flood_served p s t k h m some in
      let c : coming t i (m - 1) ≤ coming s i m = coming_passes p s t (Part k) h i m some in
      let split : flood p t (m - 1) ≡ upto t.backlog p.bank.parts + upto (λ k. t.bank k (m - 1)) p.bank.parts = upto_plus t.backlog (λ k. t.bank k (m - 1)) p.bank.parts in
      record { some = omega arith; soon = omega arith; fits = omega arith }

  sane_passes : (t : State) (got : Got) → Passed p s got t → Sane p t
  sane_passes t got h = record {
    zeroth = omega (arith, h.left 0, safe.sane.zeroth);
    outside = λ i out. omega (arith, h.left i, safe.sane.outside i out);
    ageless = λ i none. (let new = h.age i in grind (arith, nat_tests));
    hold = holds safe.sane.hold (nat_le 1 (kept_units s got) && nat_le 1 (t.left s.holder)) refl h.holder h.held;
  }
    where
      holds : Holding p s.left s.holder s.held → (b : Bool) → (nat_le 1 (kept_units s got) && nat_le 1 (t.left s.holder)) ≡ b → t.holder ≡ cond b s.holder 0 → t.held ≡ cond b (kept_units s got) 0 → Holding p t.left t.holder t.held
      holds was false e x y = inl (x, y)
      holds (inl was) true e x y = (let some : 1 ≤ kept_units s got = goes_on (kept_units s got) (nat_le 1 (t.left s.holder)) e in absurd (omega arith))
      holds (inr was) true e x y =
          let some : 1 ≤ kept_units s got = goes_on (kept_units s got) (nat_le 1 (t.left s.holder)) e in
          let short : p.hold t.holder ≡ p.hold s.holder = ap p.hold x in
          let left : t.left t.holder ≡ t.left s.holder = ap t.left x in
          let new : t.left s.holder ≡ s.left s.holder - task_unit got s.holder = h.left s.holder in
          inr (omega arith, omega arith, omega arith, omega arith, omega arith)

  pub safe_passed : (t : State) (got : Got) → Passed p s got t → Fits p t → Safe p t
  safe_passed t got h fits = record {
    fits = fits;
    sane = sane_passes t got h;
    quiet = λ i a b. quiet_at i a b (cases_lt 0 (upto t.backlog p.bank.parts));
    busy = λ i a b more. (let q = safe.busy i a b (omega (arith, left_falls p s t got h i)) in (q.0 - 1, busy_passes t got h i q.0 b more q.1));
  }
    where
      quiet_at : (i : ℕ) → 1 ≤ i → i ≤ p.tasks.parts → (0 < upto t.backlog p.bank.parts) ⊎ (upto t.backlog p.bank.parts ≤ 0) → (m : ℕ) × Quiet p t i m
      quiet_at i a b (inl l) = (let q = safe.quiet i a b in (q.0 - 1, quiet_served t got h i q.0 (omega arith) q.1))
      quiet_at i a b (inr g) = (p.bound i, quiet_anew p t i ok fits a b (λ k c d. omega (arith, upto_term t.backlog p.bank.parts k c d)))
