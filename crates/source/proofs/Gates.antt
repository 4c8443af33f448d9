-- A list of rows of one kind is a source and a gate, and so is a single row, whatever the kind.
-- The laws of traits cite these lemmas.
use Rattle.std.specs.Prelude.{◌≡◌, ℕ, ◌+◌, ◌-◌, ◌<◌, ◌≤◌, true, List, All, length, ◌≢◌, refl}
use Rattle.std.proofs.Common.{sym, ap, ◌∙◌, subst, inl, inr, arith, get_or-set_same, get_or-set_other}
use Rattle.std.proofs.Math.Path.{fun_ext}
use Rattle.std.proofs.lemmas.List.{get_or-map, length-map, length-set}
use Rattle.std.proofs.lemmas.List.Elements.{All-set, All-map, All-weaker}
use Rattle.std.proofs.lemmas.Bool.{cond-true, cond-false, cases_eq}
use Rattle.source.specs.Facts.{is_part, offerable, Sound, Taken, Ticked}
use Rattle.source.specs.Rows.{Kind, Owes, demand_by, allowance_by, row_of, work_of, allowed_of, Gives, Passes, work_one, allowed_one, GivesOne}
use Rattle.source.proofs.Parts.{place_of, part_from, offerable_parts, offerable_from, by_part}

module _ {R : Type 0} (kind : Kind R) {Fit : R → Type 0} (owes : Owes kind Fit) where
  -- n rows that are fit, told by their places: whoever keeps rows in another form than a list cites these

  module _ (n : ℕ) (row : ℕ → R) (fits : (i : ℕ) → i < n → Fit (row i)) where
    fit : (k : ℕ) → is_part n k ≡ true → Fit (row (k - 1))
    fit k e = fits (k - 1) (place_of n k e).1

    pub rows_sound : n ≤ 1000 → Sound (record { parts = n; demand = demand_by kind n row }) (allowance_by kind n row)
    rows_sound few =
        record {
          few = few;
          none = λ k. by_part (λ x y. x ≡ 0) n k (kind.demand (row (k - 1)) 0) 0 (λ e. owes.none (row (k - 1)) (fit k e)) refl;
          outside = λ k l e. cond-false (is_part n k) (kind.demand (row (k - 1)) l) 0 e;
          rises = λ k l m h. by_part (λ x y. x ≤ y) n k (kind.demand (row (k - 1)) l) (kind.demand (row (k - 1)) m) (λ e. owes.rises (row (k - 1)) l m (fit k e) h) (omega arith);
          small = λ k l h. by_part (λ x y. x ≤ 10000000000000) n k (kind.demand (row (k - 1)) l) 0 (λ e. owes.small (row (k - 1)) l (fit k e) h) (omega arith);
          within = λ k l. by_part (λ x y. x ≤ y) n k (kind.allowance (row (k - 1)) l) (kind.demand (row (k - 1)) l) (λ e. owes.within (row (k - 1)) l (fit k e)) (omega arith);
        }

    -- the units of an offer that is taken are within what the row allows
    offered_units : (k u : ℕ) → offerable n (allowance_by kind n row) k u ≡ true → (is_part n k ≡ true) × (1 ≤ u) × (u ≤ kind.allowance (row (k - 1)) 1)
    offered_units k u e =
        let p = offerable_parts n (allowance_by kind n row) k u e in
        (p.0, p.1, subst (λ x. u ≤ x) (cond-true (is_part n k) (kind.allowance (row (k - 1)) 1) 0 p.0) p.2)

    module _ (row' : ℕ → R) where
      pub rows_kept : ((i l : ℕ) → i < n → kind.demand (row' i) l ≡ kind.demand (row i) l) → demand_by kind n row' ≡ demand_by kind n row
      rows_kept same = fun_ext (λ k. fun_ext (λ l. by_part (λ x y. x ≡ y) n k (kind.demand (row' (k - 1)) l) (kind.demand (row (k - 1)) l) (λ e. same (k - 1) l (place_of n k e).1) refl))

      module _ (k u : ℕ) (offered : offerable n (allowance_by kind n row) k u ≡ true) (moved : row' (k - 1) ≡ kind.given (row (k - 1)) u) (others : (j : ℕ) → j < n → (j ≢ k - 1) → row' j ≡ row j) where
        units : (is_part n k ≡ true) × (1 ≤ u) × (u ≤ kind.allowance (row (k - 1)) 1)
        units = offered_units k u offered

        here : (1 ≤ k) × (k - 1 < n)
        here = place_of n k units.0

        pub taken_kept : demand_by kind n row' ≡ demand_by kind n row
        taken_kept = rows_kept (λ i l h. elim (cases_eq i (k - 1)) [ inl e ↦ subst (λ j. kind.demand (row' j) l ≡ kind.demand (row j) l) (sym e) (ap (λ r. kind.demand r l) moved ∙ owes.given_demand (row (k - 1)) u l) | inr ne ↦ ap (λ r. kind.demand r l) (others i h ne) ])

        pub rows_taken : Taken (allowance_by kind n row) k u (allowance_by kind n row')
        rows_taken = record { within = within; others = rest }
          where
            within : (l : ℕ) → 1 ≤ l → u + allowance_by kind n row' k l ≤ allowance_by kind n row k l
            within l h =
                let now : allowance_by kind n row k l ≡ kind.allowance (row (k - 1)) l = cond-true (is_part n k) (kind.allowance (row (k - 1)) l) 0 units.0 in
                let then : allowance_by kind n row' k l ≡ kind.allowance (kind.given (row (k - 1)) u) l = cond-true (is_part n k) (kind.allowance (row' (k - 1)) l) 0 units.0 ∙ ap (λ r. kind.allowance r l) moved in
                omega (arith, owes.given_within (row (k - 1)) u l (fits (k - 1) here.1) units.1 units.2 h)

            apart : (j : ℕ) → (j ≢ k) → 1 ≤ j → j - 1 ≢ k - 1
            apart j ne low e = ne (omega (arith, here.0))

            rest : (j l : ℕ) → (j ≢ k) → allowance_by kind n row' j l ≡ allowance_by kind n row j l
            rest j l ne = by_part (λ x y. x ≡ y) n j (kind.allowance (row' (j - 1)) l) (kind.allowance (row (j - 1)) l) (λ e. ap (λ r. kind.allowance r l) (others (j - 1) (place_of n j e).1 (apart j ne (place_of n j e).0))) refl

      module _ (lowered : (i : ℕ) → i < n → row' i ≡ kind.later (row i)) where
        pub ticked_kept : demand_by kind n row' ≡ demand_by kind n row
        ticked_kept = rows_kept (λ i l h. ap (λ r. kind.demand r l) (lowered i h) ∙ owes.later_demand (row i) l)

        pub rows_ticked : Ticked (allowance_by kind n row) (allowance_by kind n row')
        rows_ticked = record { shorter = λ k l. by_part (λ x y. x ≤ y) n k (kind.allowance (row' (k - 1)) l) (kind.allowance (row (k - 1)) (l + 1)) (λ e. subst (λ r. kind.allowance r l ≤ kind.allowance (row (k - 1)) (l + 1)) (sym (lowered (k - 1) (place_of n k e).1)) (owes.later_shorter (row (k - 1)) l (fit k e))) (omega arith) }

  -- a list of rows

  pub list_sound : (rows : List R) → length rows ≤ 1000 → All Fit rows → Sound (work_of kind rows) (allowed_of kind rows)
  list_sound rows few fits = rows_sound (length rows) (row_of kind rows) (λ i h. fits i kind.blank h) few

  module _ (rows : List R) (k u : ℕ) (rows' : List R) (fits : All Fit rows) (gives : Gives kind rows k u rows') where
    fits_at : (i : ℕ) → i < length rows → Fit (row_of kind rows i)
    fits_at i h = fits i kind.blank h

    offered_here : (is_part (length rows) k ≡ true) × (1 ≤ u) × (u ≤ kind.allowance (row_of kind rows (k - 1)) 1)
    offered_here = offered_units (length rows) (row_of kind rows) fits_at k u gives.offered

    place_here : (1 ≤ k) × (k - 1 < length rows)
    place_here = place_of (length rows) k offered_here.0

    moved_here : row_of kind rows' (k - 1) ≡ kind.given (row_of kind rows (k - 1)) u
    moved_here = ap (λ l. row_of kind l (k - 1)) gives.moved ∙ get_or-set_same rows (k - 1) (kind.given (row_of kind rows (k - 1)) u) kind.blank place_here.1

    others_here : (j : ℕ) → j < length rows → (j ≢ k - 1) → row_of kind rows' j ≡ row_of kind rows j
    others_here j h ne = ap (λ l. row_of kind l j) gives.moved ∙ get_or-set_other rows (k - 1) j (kind.given (row_of kind rows (k - 1)) u) kind.blank ne

    -- there are as many rows as before
    pub given_count : length rows' ≡ length rows
    given_count = ap length gives.moved ∙ length-set rows (k - 1) (kind.given (row_of kind rows (k - 1)) u)

    -- what a taken offer makes of a list
    pub list_taken : (work_of kind rows' ≡ work_of kind rows) × Taken (allowed_of kind rows) k u (allowed_of kind rows')
    list_taken =
        let kept = taken_kept (length rows) (row_of kind rows) fits_at (row_of kind rows') k u gives.offered moved_here others_here in
        let taken = rows_taken (length rows) (row_of kind rows) fits_at (row_of kind rows') k u gives.offered moved_here others_here in (
          (λ i. record { parts = given_count i; demand = demand_by kind (given_count i) (row_of kind rows') }) ∙ (λ i. record { parts = length rows; demand = kept i }),
          subst (λ m. Taken (allowed_of kind rows) k u (allowance_by kind m (row_of kind rows'))) (sym given_count) taken,
        )

    -- and its rows stay fit
    pub list_given_fit : All Fit rows'
    list_given_fit = subst (All Fit) (sym gives.moved) (All-set Fit rows (k - 1) (kind.given (row_of kind rows (k - 1)) u) (owes.given_fit (row_of kind rows (k - 1)) u (fits (k - 1) kind.blank place_here.1) offered_here.1 offered_here.2) fits)

  module _ (rows rows' : List R) (fits : All Fit rows) (passes : Passes kind rows rows') where
    pub later_count : length rows' ≡ length rows
    later_count = ap length passes ∙ length-map rows kind.later

    -- what a tick makes of a list
    pub list_ticked : (work_of kind rows' ≡ work_of kind rows) × Ticked (allowed_of kind rows) (allowed_of kind rows')
    list_ticked =
        let lowered : (i : ℕ) → i < length rows → row_of kind rows' i ≡ kind.later (row_of kind rows i) = λ i h. ap (λ l. row_of kind l i) passes ∙ get_or-map kind.later rows i kind.blank kind.blank h in
        let kept = ticked_kept (length rows) (row_of kind rows) (λ i h. fits i kind.blank h) (row_of kind rows') lowered in
        let ticked = rows_ticked (length rows) (row_of kind rows) (λ i h. fits i kind.blank h) (row_of kind rows') lowered in (
          (λ i. record { parts = later_count i; demand = demand_by kind (later_count i) (row_of kind rows') }) ∙ (λ i. record { parts = length rows; demand = kept i }),
          subst (λ m. Ticked (allowed_of kind rows) (allowance_by kind m (row_of kind rows'))) (sym later_count) ticked,
        )

    pub list_later_fit : All Fit rows'
    list_later_fit = subst (All Fit) (sym passes) (All-map Fit kind.later rows (All-weaker Fit (λ r. Fit (kind.later r)) owes.later_fit rows fits))

  -- a single row

  pub one_sound : (r : R) → Fit r → Sound (work_one kind r) (allowed_one kind r)
  one_sound r fit = rows_sound 1 (λ _. r) (λ _ _. fit) (omega arith)

  pub one_taken : (r r' : R) (k u : ℕ) → Fit r → GivesOne kind r k u r' → (work_one kind r' ≡ work_one kind r) × Taken (allowed_one kind r) k u (allowed_one kind r')
  one_taken r r' k u fit gives =
      let single : (j : ℕ) → j < 1 → (j ≢ k - 1) → r' ≡ r = λ j h ne. absurd (ne (omega (arith, place_of 1 k (offered_units 1 (λ _. r) (λ _ _. fit) k u gives.offered).0))) in
      (λ i. record { parts = 1; demand = taken_kept 1 (λ _. r) (λ _ _. fit) (λ _. r') k u gives.offered gives.moved single i }, rows_taken 1 (λ _. r) (λ _ _. fit) (λ _. r') k u gives.offered gives.moved single)

  pub one_ticked : (r r' : R) → Fit r → r' ≡ kind.later r → (work_one kind r' ≡ work_one kind r) × Ticked (allowed_one kind r) (allowed_one kind r')
  one_ticked r r' fit e =
      (λ i. record { parts = 1; demand = ticked_kept 1 (λ _. r) (λ _ _. fit) (λ _. r') (λ _ _. e) i }, rows_ticked 1 (λ _. r) (λ _ _. fit) (λ _. r') (λ _ _. e))

-- an offer that is within what its row allows is taken
module _ {R : Type 0} (kind : Kind R) where
  pub offered_by : (n : ℕ) (row : ℕ → R) (k u : ℕ) → 1 ≤ k → k ≤ n → 1 ≤ u → u ≤ kind.allowance (row (k - 1)) 1 → offerable n (allowance_by kind n row) k u ≡ true
  offered_by n row k u low high some within =
      let part : is_part n k ≡ true = part_from n k low high in
      offerable_from n (allowance_by kind n row) k u part some (subst (λ x. u ≤ x) (sym (cond-true (is_part n k) (kind.allowance (row (k - 1)) 1) 0 part)) within)

  pub list_offered : (rows : List R) (k u : ℕ) → 1 ≤ k → k ≤ length rows → 1 ≤ u → u ≤ kind.allowance (row_of kind rows (k - 1)) 1 → offerable (length rows) (allowed_of kind rows) k u ≡ true
  list_offered rows = offered_by (length rows) (row_of kind rows)

  pub one_offered : (r : R) (k u : ℕ) → k ≡ 1 → 1 ≤ u → u ≤ kind.allowance r 1 → offerable 1 (allowed_one kind r) k u ≡ true
  one_offered r k u e = offered_by 1 (λ _. r) k u (omega arith) (omega arith)
