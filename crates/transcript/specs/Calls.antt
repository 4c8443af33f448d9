-- The line of a call: a keyword and its numbers. A line is a call just if it is what that call writes.
use Rattle.std.specs.Prelude.{◌≡◌, ℕ, cond, List, [], ◌∷◌, map, Some, None, codes, decimal, Option, true}
use Rattle.words.specs.Split.{pieces, joined}
use Rattle.lines.specs.Numbers.{numbers_of}
use Rattle.lines.specs.Rows.{same, all_small}
use Rattle.calls.specs.declared.Call.{Call}
use Rattle.calls.specs.declared.Call.TheVariants as calls
use Rattle.transcript.specs.declared.reading.Verb.{Verb}
use Rattle.transcript.specs.declared.reading.Verb.TheVariants.{Offer, Release, Hold, LetGo, End, Tick}

abbrev pub spelling : Verb → List ℕ
spelling Offer = codes "offer"
spelling Release = codes "release"
spelling Hold = codes "hold"
spelling LetGo = codes "letgo"
spelling End = codes "end"
spelling Tick = codes "tick"

-- the keyword that a word is
abbrev pub verb_of : List ℕ → Option Verb
verb_of w =
    cond (same w (spelling Offer)) (Some Offer)
    (cond (same w (spelling Release)) (Some Release)
    (cond (same w (spelling Hold)) (Some Hold)
    (cond (same w (spelling LetGo)) (Some LetGo)
    (cond (same w (spelling End)) (Some End)
    (cond (same w (spelling Tick)) (Some Tick) None)))))

-- the keyword of a call
abbrev pub verb : Call → Verb
verb (calls.Offer part units) = Offer
verb (calls.Release task units) = Release
verb (calls.Hold task units) = Hold
verb (calls.LetGo task) = LetGo
verb (calls.End task) = End
verb calls.Tick = Tick

-- and its numbers
abbrev pub numbers : Call → List ℕ
numbers (calls.Offer part units) = part ∷ units ∷ []
numbers (calls.Release task units) = task ∷ units ∷ []
numbers (calls.Hold task units) = task ∷ units ∷ []
numbers (calls.LetGo task) = task ∷ []
numbers (calls.End task) = task ∷ []
numbers calls.Tick = []

-- the line of a call: the keyword and the numbers in decimal, one space between two words
abbrev pub written : Call → List ℕ
written c = joined 32 (spelling (verb c) ∷ map decimal (numbers c))

-- every number of the call is at most 1,000,000
abbrev pub Small : Call → Type 0
Small c = all_small (numbers c) ≡ true

-- the number, if there is just one
abbrev pub one : Option (List ℕ) → Option ℕ
one None = None
one (Some []) = None
one (Some (n ∷ [])) = Some n
one (Some (n ∷ m ∷ ns)) = None

-- both numbers, if there are just two
abbrev pub two : Option (List ℕ) → Option (ℕ × ℕ)
two None = None
two (Some []) = None
two (Some (n ∷ [])) = None
two (Some (n ∷ m ∷ [])) = Some (n, m)
two (Some (n ∷ m ∷ k ∷ ns)) = None

-- the call with the number, or the numbers, if there are so many
abbrev pub with_one : (ℕ → Call) → Option ℕ → Option Call
with_one call None = None
with_one call (Some n) = Some (call n)

abbrev pub with_two : (ℕ → ℕ → Call) → Option (ℕ × ℕ) → Option Call
with_two call None = None
with_two call (Some p) = Some (call p.0 p.1)

abbrev pub with_none : Call → Option (List ℕ) → Option Call
with_none call None = None
with_none call (Some []) = Some call
with_none call (Some (n ∷ ns)) = None

-- the call of a keyword and the numbers after it, if they are as many as it takes
abbrev pub call_with : Option Verb → Option (List ℕ) → Option Call
call_with None ns = None
call_with (Some Offer) ns = with_two calls.Offer (two ns)
call_with (Some Release) ns = with_two calls.Release (two ns)
call_with (Some Hold) ns = with_two calls.Hold (two ns)
call_with (Some LetGo) ns = with_one calls.LetGo (one ns)
call_with (Some End) ns = with_one calls.End (one ns)
call_with (Some Tick) ns = with_none calls.Tick ns

abbrev pub call_by : List (List ℕ) → Option Call
call_by [] = None
call_by (w ∷ ws) = call_with (verb_of w) (numbers_of ws)

-- the call on a line, of which the line feed is left out
abbrev pub read_call : List ℕ → Option Call
read_call line = call_by (pieces 32 line)

-- a line is the call c exactly if it is what c writes, with no number above 1,000,000
abbrev pub CallRule : List ℕ → Type 0
CallRule line = ((c : Call) → read_call line ≡ Some c → (line ≡ written c) × Small c) × ((c : Call) → line ≡ written c → Small c → read_call line ≡ Some c)
