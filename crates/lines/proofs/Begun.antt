-- How far a line is read: some numbers stand at its head, and what is left follows them.
use Rattle.std.proofs.Common.{◌≡◌, ℕ, ◌≤◌, cond, eqb, List, [], ◌∷◌, ◌++◌, length, Some, None, Option, sym, refl, ap, ◌∙◌, append-nil, append_assoc, arith}
use Rattle.std.proofs.lemmas.Bool.{ne_eqb, cond-false}
use Rattle.std.proofs.lemmas.Option.{none-some, same_Some}
use Rattle.words.specs.Numbers.{value_of}
use Rattle.words.specs.Split.{before, onward}
use Rattle.words.proofs.Cutting.{pieces_first}
use Rattle.lines.specs.Numbers.{followed_by, numbers_of, numbers_after, front, behind, Reads}
use Rattle.lines.specs.Rows.{said, costs_of, costs_said, row_said}
use Rattle.lines.specs.declared.row.Costs.{Costs}
use Rattle.lines.specs.declared.row.Kind.{Kind}
use Rattle.lines.specs.declared.row.Row.{Row}

-- numbers, and those that may follow
abbrev pub joined_to : List ℕ → Option (List ℕ) → Option (List ℕ)
joined_to ns None = None
joined_to ns (Some ms) = Some (ns ++ ms)

joined_none : (o : Option (List ℕ)) → o ≡ joined_to [] o
joined_none None = refl
joined_none (Some ms) = refl

joined_on : (ns : List ℕ) (n : ℕ) (o : Option (List ℕ)) → joined_to ns (followed_by (Some n) o) ≡ joined_to (ns ++ n ∷ []) o
joined_on ns n None = refl
joined_on ns n (Some ms) = ap Some (sym (append_assoc ns (n ∷ []) ms))

-- the numbers on all are ns, and then those on rest
pub record Begun (all ns rest : List ℕ) : Type 0 where
  pub joined : numbers_after all ≡ joined_to ns (numbers_after rest)

pub begin : (all : List ℕ) → Begun all [] all
begin all = record { joined = joined_none (numbers_after all) }

-- the number that comes next is the first of those that follow
first_on : (rest more : List ℕ) (n : ℕ) → front rest ≡ Some n → more ≡ behind rest → numbers_after rest ≡ followed_by (Some n) (numbers_after more)
first_on [] more n e m = absurd (none-some n e)
first_on (x ∷ xs) more n e m = ap numbers_of (pieces_first 32 xs) ∙ (λ i. followed_by (e i) (numbers_after (sym m i)))

-- it is read, and stands at the head from then on
infixl 50 ◌▸◌
pub ◌▸◌ : {all ns rest more : List ℕ} {n : ℕ} → Begun all ns rest → Reads rest n more → Begun all (ns ++ n ∷ []) more
◌▸◌ {all} {ns} {rest} {more} {n} b h = record { joined = b.joined ∙ ap (joined_to ns) (first_on rest more n h.number h.after) ∙ joined_on ns n (numbers_after more) }

-- where something else comes next, there are no numbers
first_missing : (x : ℕ) (xs : List ℕ) → front (x ∷ xs) ≡ None → numbers_after (x ∷ xs) ≡ None
first_missing x xs e = ap numbers_of (pieces_first 32 xs) ∙ ap (λ o. followed_by o (numbers_after (onward 32 xs))) e ∙ lost (numbers_after (onward 32 xs))
  where
    lost : (o : Option (List ℕ)) → followed_by None o ≡ None
    lost None = refl
    lost (Some ns) = refl

pub none_at : {all ns rest : List ℕ} → Begun all ns rest → 1 ≤ length rest → front rest ≡ None → numbers_after all ≡ None
none_at {all} {ns} {rest = []} b h e = absurd (omega arith)
none_at {all} {ns} {rest = x ∷ xs} b h e = b.joined ∙ ap (joined_to ns) (first_missing x xs e)

-- what is made of the numbers on a line, if something is
module _ {T : Type 0} (F : Option (List ℕ) → Option T) (none : F None ≡ None) where
  -- nothing, where ns are too few and no number comes next
  pub missing : {all ns rest : List ℕ} → Begun all ns rest → F (Some ns) ≡ None → front rest ≡ None → F (numbers_after all) ≡ None
  missing {all} {ns} {rest = []} b few e = ap F b.joined ∙ ap (λ ms. F (Some ms)) (append-nil ns) ∙ few
  missing {all} {ns} {rest = x ∷ xs} b few e = ap F (none_at b (omega arith) e) ∙ none

  -- what ns give, where a number more would be too many and the rest is empty
  pub ended : {all ns rest : List ℕ} (x : T) → Begun all ns rest → F (Some ns) ≡ Some x → ((n : ℕ) (ms : List ℕ) → F (Some (ns ++ n ∷ ms)) ≡ None) → cond (eqb (length rest) 0) (Some x) None ≡ F (numbers_after all)
  ended {all} {ns} {rest = []} x b given more = sym (ap F b.joined ∙ ap (λ ms. F (Some ms)) (append-nil ns) ∙ given)
  ended {all} {ns} {rest = y ∷ ys} x b given more =
      cond-false (eqb (length (y ∷ ys)) 0) (Some x) None (ne_eqb (length (y ∷ ys)) 0 (λ e. omega arith))
      ∙ sym (ap F (b.joined ∙ ap (λ ws. joined_to ns (numbers_of ws)) (pieces_first 32 ys)) ∙ either (value_of (before 32 ys)) (numbers_after (onward 32 ys)))
    where
      either : (o : Option ℕ) (os : Option (List ℕ)) → F (joined_to ns (followed_by o os)) ≡ None
      either None None = none
      either None (Some ms) = none
      either (Some n) None = none
      either (Some n) (Some ms) = more n ms

-- the row that a keyword makes of its numbers
abbrev pub row_by : Kind → Option (List ℕ) → Option Row
row_by k o = row_said (said (Some k) o)

-- none, where costs have to follow and none does
pub no_costs : {all ns rest : List ℕ} (k : Kind) → Begun all ns rest → row_by k (Some ns) ≡ None → None ≡ costs_said (numbers_after rest) → row_by k (numbers_after all) ≡ None
no_costs {all} {ns} {rest} k b few e = ap (row_by k) b.joined ∙ either (numbers_after rest) e
  where
    either : (o : Option (List ℕ)) → None ≡ costs_said o → row_by k (joined_to ns o) ≡ None
    either None e = refl
    either (Some []) e = ap (λ ms. row_by k (Some ms)) (append-nil ns) ∙ few
    either (Some (c ∷ cs)) e = absurd (none-some (costs_of (c ∷ cs)) e)

-- the row of ns and the costs that follow
pub with_costs : {all ns rest : List ℕ} (k : Kind) (make : Costs → Row) → Begun all ns rest → ((c : ℕ) (cs : List ℕ) → row_by k (Some (ns ++ c ∷ cs)) ≡ Some (make (costs_of (c ∷ cs)))) → (costs : Costs) → Some costs ≡ costs_said (numbers_after rest) → Some (make costs) ≡ row_by k (numbers_after all)
with_costs {all} {ns} {rest} k make b made costs e = sym (ap (row_by k) b.joined ∙ either (numbers_after rest) e)
  where
    either : (o : Option (List ℕ)) → Some costs ≡ costs_said o → row_by k (joined_to ns o) ≡ Some (make costs)
    either None e = absurd (none-some costs (sym e))
    either (Some []) e = absurd (none-some costs (sym e))
    either (Some (c ∷ cs)) e = made c cs ∙ ap (λ x. Some (make x)) (same_Some (costs_of (c ∷ cs)) costs (sym e))
