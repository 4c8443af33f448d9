-- How a text is cut at a byte s: into the parts between, which lack it.
use Rattle.std.specs.Prelude.{◌≡◌, ℕ, ◌+◌, ◌≤◌, Bool, true, cond, not, ◌&&◌, List, [], ◌∷◌, ◌++◌, length, ◌==◌}

-- what stands before the first s, or all
abbrev pub before : ℕ → List ℕ → List ℕ
before s [] = []
before s (x ∷ xs) = cond (x == s) [] (x ∷ before s xs)

-- from the first s on, or nothing
abbrev pub onward : ℕ → List ℕ → List ℕ
onward s [] = []
onward s (x ∷ xs) = cond (x == s) (x ∷ xs) (onward s xs)

-- one byte more in front of the first part
abbrev pub onto : ℕ → List (List ℕ) → List (List ℕ)
onto x [] = (x ∷ []) ∷ []
onto x (w ∷ ws) = (x ∷ w) ∷ ws

abbrev pub pieces : ℕ → List ℕ → List (List ℕ)
pieces s [] = [] ∷ []
pieces s (x ∷ xs) = cond (x == s) ([] ∷ pieces s xs) (onto x (pieces s xs))

-- the pieces after the first, of a text that is cut from its first s on
abbrev pub following : ℕ → List ℕ → List (List ℕ)
following s [] = []
following s (y ∷ ys) = pieces s ys

-- the parts put together again, with one s between two of them
abbrev pub joined : ℕ → List (List ℕ) → List ℕ
joined s [] = []
joined s (w ∷ []) = w
joined s (w ∷ v ∷ ws) = w ++ (s ∷ joined s (v ∷ ws))

abbrev pub lacks : ℕ → List ℕ → Bool
lacks s [] = true
lacks s (x ∷ xs) = not (x == s) && lacks s xs

abbrev pub all_lack : ℕ → List (List ℕ) → Bool
all_lack s [] = true
all_lack s (w ∷ ws) = lacks s w && all_lack s ws

-- at least one part, none of which has an s, that give the text when put together with one s between two of them
pub record Cut (s : ℕ) (text : List ℕ) (ws : List (List ℕ)) : Type 0 where
  pub some : 1 ≤ length ws
  pub apart : all_lack s ws ≡ true
  pub whole : joined s ws ≡ text

-- the pieces are such a cut of the text, and there is no other
abbrev pub OnlyCut : ℕ → List ℕ → Type 0
OnlyCut s text = Cut s text (pieces s text) × ((ws : List (List ℕ)) → Cut s text ws → ws ≡ pieces s text)

-- the place in memory that lies so many bytes behind another
abbrev pub behind : ℕ × ℕ → ℕ → ℕ × ℕ
behind place n = (place.0, place.1 + n)
