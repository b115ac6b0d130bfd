-- The laws, as statements.
use Rattle.std.specs.Prelude.{◌≡◌, ℕ, List, [], ◌∷◌, ◌++◌}
use Rattle.patterns.specs.CharSet.{has}
use Rattle.patterns.specs.Tree.{Tree}
use Rattle.patterns.specs.Decision.{is_empty}
use Rattle.list_laws.specs.In.{IsIn}
use Rattle.word_states.specs.Position.{sets_of}
use Rattle.word_states.specs.PatternState.{pattern_state, accepts}
use Rattle.state_laws.specs.Flow.{first_state, next_state, is_accepted}

-- one state begins
abbrev pub BeginsWith : Type 0
BeginsWith = (t : Tree) → pattern_state t [] ≡ first_state t

-- the state after one more character depends on the state, on whether the word is empty, and on the character
abbrev pub GoesOn : Type 0
GoesOn =
    (t : Tree) (w : List ℕ) (c : ℕ)
    → pattern_state t (w ++ c ∷ []) ≡ next_state t (is_empty w) c (pattern_state t w)

-- whether the pattern matches in the word depends on the state and on whether the word is empty
abbrev pub Decides : Type 0
Decides = (t : Tree) (w : List ℕ) → accepts t w ≡ is_accepted t (is_empty w) (pattern_state t w)

-- words of one state that are both empty or both not go on to one state by characters that no position's set
-- distinguishes
abbrev pub SameStateOfSame : Type 0
SameStateOfSame =
    (t : Tree) (v w : List ℕ) (c d : ℕ) → is_empty v ≡ is_empty w → pattern_state t v ≡ pattern_state t w
    → ((s : List (ℕ × ℕ)) → IsIn s (sets_of t) → has s c ≡ has s d)
    → pattern_state t (v ++ c ∷ []) ≡ pattern_state t (w ++ d ∷ [])

-- a pattern matches in both or in neither of two such words
abbrev pub SameTruthOfSame : Type 0
SameTruthOfSame =
    (t : Tree) (v w : List ℕ) → is_empty v ≡ is_empty w → pattern_state t v ≡ pattern_state t w
    → accepts t v ≡ accepts t w
