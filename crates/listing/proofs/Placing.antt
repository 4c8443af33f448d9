-- Texts that are written into a buffer one after another.
use Rattle.std.proofs.Common.{◌≡◌, ℕ, zero, suc, ◌+◌, ◌*◌, ◌<◌, ◌≤◌, List, [], ◌∷◌, ◌++◌, length, get_or, take, drop, sym, subst, ap, ◌∙◌, append_assoc, mul-add, arith, length-append, length-drop}
use Rattle.std.proofs.Math.Nat.{mul-le-mul_left}
use Rattle.std.specs.List.{flat_map}
use Rattle.std.proofs.lemmas.List.{drop-drop, drop_at, take_at, take_more, flat_map_more, length-take-le}
use Rattle.listing.specs.declared.pieces.Text.{Text}
use Rattle.listing.specs.Put.{put, HasRoom, Puts}

-- what is written has the length of what was there
length_put : (b : List ℕ) (at : ℕ) (x : List ℕ) → at + length x ≤ length b → length (put b at x) ≡ length b
length_put b at x room = omega (arith, length-append (take at b) (x ++ drop (at + length x) b), length-append x (drop (at + length x) b), length-take-le at b (omega arith), length-drop (at + length x) b)

-- two texts, one after the other, are one
put_more : (b : List ℕ) (at : ℕ) (x y : List ℕ) → at + length x ≤ length b → put (put b at x) (at + length x) y ≡ put b at (x ++ y)
put_more b at x y room =
    let end = at + length x in
    let front : length (take at b ++ x) ≡ end = length-append (take at b) x ∙ ap (λ k. k + length x) (length-take-le at b (omega arith)) in
    let split : put b at x ≡ (take at b ++ x) ++ drop end b = sym (append_assoc (take at b) x (drop end b)) in
    let first : take end (put b at x) ≡ take at b ++ x = ap (take end) split ∙ take_at (take at b ++ x) (drop end b) end front in
    let past : drop end (put b at x) ≡ drop end b = ap (drop end) split ∙ drop_at (take at b ++ x) (drop end b) end front in
    let last : drop (end + length y) (put b at x) ≡ drop (at + length (x ++ y)) b = sym (drop-drop (length y) end (put b at x)) ∙ ap (drop (length y)) past ∙ drop-drop (length y) end b ∙ ap (λ k. drop k b) (let e : end + length y ≡ at + length (x ++ y) = omega (arith, length-append x y) in e) in
    (λ i. first i ++ (y ++ last i)) ∙ append_assoc (take at b) x (y ++ drop (at + length (x ++ y)) b) ∙ ap (λ t. take at b ++ t) (sym (append_assoc x y (drop (at + length (x ++ y)) b)))

-- one text more of several
pub joined_push : {X : Type 0} (f : X → List ℕ) (ps : List X) (i : ℕ) (d : X) → i < length ps → flat_map f (take i ps) ++ f (get_or ps i d) ≡ flat_map f (take (i + 1) ps)
joined_push f ps i d h = flat_map_more f [] (take i ps) (get_or ps i d) ∙ ap (flat_map f) (sym (take_more ps i d h))

-- the first few of several texts are no longer than all
pub joined_front : {X : Type 0} (f : X → List ℕ) (ps : List X) (n : ℕ) → length (flat_map f (take n ps)) ≤ length (flat_map f ps)
joined_front f ps zero = omega arith
joined_front f [] (suc n) = omega arith
joined_front f (p ∷ ps) (suc n) = omega (arith, joined_front f ps n, length-append (f p) (flat_map f (take n ps)), length-append (f p) (flat_map f ps))

-- what is written so far, and one text more
module _ (a : Text) where
  module _ (b : Text) (x : List ℕ) (room : HasRoom a x) (first : Puts a b x) where
    pub same_length : length b.buffer.now ≡ length a.buffer.now
    same_length = ap length first.bytes ∙ length_put a.buffer.now a.end x room.room

    pub puts_next : (y : List ℕ) (c : Text) → Puts b c y → Puts a c (x ++ y)
    puts_next y c next = record {
      same = next.same ∙ first.same;
      bytes = next.bytes ∙ (λ k. put (first.bytes k) (first.ends k) y) ∙ put_more a.buffer.now a.end x y room.room;
      ends = omega (arith, first.ends, next.ends, length-append x y);
    }

    pub room_next : (y : List ℕ) → HasRoom a (x ++ y) → HasRoom b y
    room_next y whole = record { room = omega (arith, whole.room, first.ends, length-append x y, same_length) }

-- x is written, and what comes next
module _ (a b : Text) (x : List ℕ) (so_far : Puts a b x) where
  -- x and y make z, the front of a whole text that has room
  module _ (y z whole : List ℕ) (both : x ++ y ≡ z) (small : length z ≤ length whole) (room : HasRoom a whole) where
    front : HasRoom a x
    front = record { room = omega (arith, room.room, ap length both, length-append x y) }

    pub room_more : HasRoom b y
    room_more = room_next a b x front so_far y (subst (λ t. HasRoom a t) (sym both) (record { room = omega (arith, room.room) }))

    pub puts_more : (c : Text) → Puts b c y → Puts a c z
    puts_more c next = subst (λ t. Puts a c t) both (puts_next a b x front so_far y c next)

  -- x is n of several texts of at most k bytes each
  module _ (k n most : ℕ) (few : n < most) (room : a.end + k * most ≤ length a.buffer.now) (within : b.end ≤ a.end + k * n) where
    share : k * n + k ≤ k * most
    share = omega (arith, mul-le-mul_left k few)

    front_within : HasRoom a x
    front_within = record { room = omega (arith, so_far.ends, share) }

    pub room_within : b.end + k ≤ length b.buffer.now
    room_within = omega (arith, share, same_length a b x front_within so_far)

    pub puts_within : (c : Text) (y z : List ℕ) → x ++ y ≡ z → Puts b c y → c.end ≤ b.end + k → Puts a c z × (c.end ≤ a.end + k * (n + 1))
    puts_within c y z both next small = (
      subst (λ t. Puts a c t) both (puts_next a b x front_within so_far y c next),
      omega (arith, mul-add k n 1),
    )
