-- Words that are found among those of two letters, computed.
use Rattle.std.specs.Prelude.{◌≡◌, ℕ, List, [], ◌∷◌, Some, None, Ok, Err, refl}
use Rattle.patterns.specs.Tree.{Tree, one_of, at_start, at_end, in_turn, repeated, no_trees, tree}
use Rattle.word_states.specs.PatternState.{pattern_state}
use Rattle.positions.specs.Position.{Position, Words, Match, LengthMin, LengthMax}
use Rattle.goals.specs.Signed.{Plus, Minus}
use Rattle.alternatives.specs.Limit.{States}
use Rattle.finders.specs.Limits.{rows_found}
use Rattle.finders.specs.Strings.{string_atoms, string_found}

letters : List ℕ
letters = 97 ∷ 98 ∷ []

-- ^ab+$
pattern : Tree
pattern = in_turn (tree at_start (tree (one_of ((97, 97) ∷ [])) (tree (repeated (one_of ((98, 98) ∷ [])) 1 None)
    (tree at_end no_trees))))

T : List Position
T = Match (record { source = []; tree = pattern }) ∷ LengthMin 3 ∷ LengthMax 2 ∷ Words ((97 ∷ 98 ∷ []) ∷ []) ∷ []

matching : string_found letters 9 5 T (Plus 0 ∷ []) ≡ Ok (Some (97 ∷ 98 ∷ []))
unfolding letters pattern T pattern_state
matching = refl

-- the empty word, a, ab, and all words that begin otherwise
four_rows : rows_found letters 9 (string_atoms T (Plus 0 ∷ [])) ≡ [] ∷ (97 ∷ []) ∷ (98 ∷ []) ∷ (97 ∷ 98 ∷ []) ∷ []
unfolding letters pattern T pattern_state
four_rows = refl

longer_one : string_found letters 9 5 T (Plus 0 ∷ Plus 1 ∷ []) ≡ Ok (Some (97 ∷ 98 ∷ 98 ∷ []))
unfolding letters pattern T pattern_state
longer_one = refl

-- at least three characters and at most two, in both ways to require it
crossed : string_found letters 9 5 T (Plus 1 ∷ Plus 2 ∷ []) ≡ Ok None
unfolding letters pattern T pattern_state
crossed = refl

none_below : string_found letters 9 5 T (Plus 0 ∷ Minus 1 ∷ Minus 3 ∷ []) ≡ Ok None
unfolding letters pattern T pattern_state
none_below = refl

least : string_found letters 9 5 T (Minus 2 ∷ []) ≡ Ok (Some (97 ∷ 97 ∷ 97 ∷ []))
unfolding letters pattern T pattern_state
least = refl

not_that_word : string_found letters 9 5 T (Plus 0 ∷ Minus 3 ∷ []) ≡ Ok (Some (97 ∷ 98 ∷ 98 ∷ []))
unfolding letters pattern T pattern_state
not_that_word = refl

-- the automaton has four rows, and may have three
too_many : string_found letters 3 5 T (Plus 0 ∷ []) ≡ Err States
unfolding letters pattern T pattern_state
too_many = refl
