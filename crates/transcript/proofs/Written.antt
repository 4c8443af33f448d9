-- A line is a call just if it is what that call writes.
use Rattle.std.proofs.Common.{◌≡◌, ℕ, true, List, [], ◌∷◌, Some, None, Option, sym, refl, ap, ◌∙◌}
use Rattle.std.proofs.lemmas.Option.{none-some, MatchOption-at_some}
use Rattle.std.specs.Bool.{⊤}
use Rattle.std.specs.Option.{IfSome}
use Rattle.words.specs.Split.{before, onward, lacks}
use Rattle.words.proofs.Cutting.{pieces_first}
use Rattle.lines.specs.Numbers.{numbers_after}
use Rattle.lines.proofs.Wording.{spelled, numbers_back, pieces_words, line_told}
use Rattle.calls.specs.declared.Call.{Call}
use Rattle.calls.specs.declared.Call.TheVariants as calls
use Rattle.transcript.specs.Calls.{spelling, verb_of, verb, numbers, written, Small, one, two, with_one, with_two, call_with, call_by, read_call, CallRule}
use Rattle.transcript.specs.declared.reading.Verb.{Verb}
use Rattle.transcript.specs.declared.reading.Verb.TheVariants.{Offer, Release, Hold, LetGo, End, Tick}

-- a word that is a keyword is its spelling
verb_told : (w : List ℕ) (v : Verb) → verb_of w ≡ Some v → w ≡ spelling v
verb_told w v e =
    let by = spelled spelling w in
    by Offer _ v (by Release _ v (by Hold _ v (by LetGo _ v (by End _ v (by Tick None v (λ none. absurd (none-some v none))))))) e

verb_back : (v : Verb) → verb_of (spelling v) ≡ Some v
verb_back Offer = refl
verb_back Release = refl
verb_back Hold = refl
verb_back LetGo = refl
verb_back End = refl
verb_back Tick = refl

-- a call has its own keyword and numbers
abbrev Own : Option Verb → Option (List ℕ) → Call → Type 0
Own o os c = (o ≡ Some (verb c)) × (os ≡ Some (numbers c))

own_one : (v : Verb) (call : ℕ → Call) → ((n : ℕ) → Own (Some v) (Some (n ∷ [])) (call n)) → (ns : Option (List ℕ)) → IfSome (with_one call (one ns)) (Own (Some v) ns)
own_one v call is None = tt
own_one v call is (Some []) = tt
own_one v call is (Some (n ∷ [])) = is n
own_one v call is (Some (n ∷ m ∷ ns)) = tt

own_two : (v : Verb) (call : ℕ → ℕ → Call) → ((n m : ℕ) → Own (Some v) (Some (n ∷ m ∷ [])) (call n m)) → (ns : Option (List ℕ)) → IfSome (with_two call (two ns)) (Own (Some v) ns)
own_two v call is None = tt
own_two v call is (Some []) = tt
own_two v call is (Some (n ∷ [])) = tt
own_two v call is (Some (n ∷ m ∷ [])) = is n m
own_two v call is (Some (n ∷ m ∷ k ∷ ns)) = tt

own : (o : Option Verb) (os : Option (List ℕ)) → IfSome (call_with o os) (Own o os)
own None os = tt
own (Some Offer) os = own_two Offer calls.Offer (λ k u. (refl, refl)) os
own (Some Release) os = own_two Release calls.Release (λ i u. (refl, refl)) os
own (Some Hold) os = own_two Hold calls.Hold (λ i u. (refl, refl)) os
own (Some LetGo) os = own_one LetGo calls.LetGo (λ i. (refl, refl)) os
own (Some End) os = own_one End calls.End (λ i. (refl, refl)) os
own (Some Tick) None = tt
own (Some Tick) (Some []) = (refl, refl)
own (Some Tick) (Some (n ∷ ns)) = tt

-- and these make it
with_back : (c : Call) → call_with (Some (verb c)) (Some (numbers c)) ≡ Some c
with_back (calls.Offer part units) = refl
with_back (calls.Release task units) = refl
with_back (calls.Hold task units) = refl
with_back (calls.LetGo task) = refl
with_back (calls.End task) = refl
with_back calls.Tick = refl

-- keywords lack a space
spelling_lacks : (v : Verb) → lacks 32 (spelling v) ≡ true
spelling_lacks Offer = refl
spelling_lacks Release = refl
spelling_lacks Hold = refl
spelling_lacks LetGo = refl
spelling_lacks End = refl
spelling_lacks Tick = refl

reads_back : (c : Call) → Small c → read_call (written c) ≡ Some c
reads_back c h =
    ap call_by (pieces_words (spelling (verb c)) (numbers c) (spelling_lacks (verb c)) h)
    ∙ (λ i. call_with (verb_back (verb c) i) (numbers_back (numbers c) h i))
    ∙ with_back c

says_written : (line : List ℕ) (c : Call) → read_call line ≡ Some c → (line ≡ written c) × Small c
says_written line c e =
    let o = verb_of (before 32 line) in
    let os = numbers_after (onward 32 line) in
    let is = MatchOption-at_some ⊤ (Own o os) c (sym (ap call_by (pieces_first 32 line)) ∙ e) (own o os) in
    line_told spelling verb_of verb numbers verb_told line c is.0 is.1

pub call_rule : (line : List ℕ) → CallRule line
call_rule line = ((λ c e. says_written line c e), λ c e h. ap read_call e ∙ reads_back c h)
