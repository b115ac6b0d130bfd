-- Whether a pattern matches, by computing the places at which a match that begins at i can end.
use Rattle.std.specs.Prelude.{ℕ, zero, suc, ◌-◌, Bool, true, false, ◌&&◌, ◌||◌, not, nat_eq, nat_lt, if◌then◌else◌, List, [], ◌∷◌, ◌++◌, length, slice_index, flat_map, Option, Some, None}
use Rattle.patterns.specs.CharSet.{has}
use Rattle.patterns.specs.Tree.{Tree, Trees, empty, one_of, at_start, at_end, in_turn, either, repeated, no_trees, tree}

-- after exactly k steps
abbrev pub ends_after : (ℕ → List ℕ) → ℕ → ℕ → List ℕ
ends_after step zero i = i ∷ []
ends_after step (suc k) i = flat_map (ends_after step k) (step i)

-- after at most k steps
abbrev pub ends_within : (ℕ → List ℕ) → ℕ → ℕ → List ℕ
ends_within step zero i = i ∷ []
ends_within step (suc k) i = i ∷ flat_map (ends_within step k) (step i)

-- after so many steps as a repeat allows. Without an upper number there are never more steps to take beyond the
-- least number than the word is long, since the others stay where they are
abbrev pub ends_repeated : (ℕ → List ℕ) → ℕ → Option ℕ → ℕ → ℕ → List ℕ
ends_repeated step low None most i = flat_map (ends_within step most) (ends_after step low i)
ends_repeated step low (Some high) most i =
    if nat_lt high low then [] else flat_map (ends_within step (high - low)) (ends_after step low i)

abbrev mutual
  pub ends : Tree → List ℕ → ℕ → List ℕ
  ends empty w i = i ∷ []
  ends (one_of ranges) w i = if nat_lt i (length w) && has ranges (slice_index w i) then suc i ∷ [] else []
  ends at_start w i = if nat_eq i 0 then 0 ∷ [] else []
  ends at_end w i = if nat_eq i (length w) then length w ∷ [] else []
  ends (in_turn ts) w i = ends_in_turn ts w i
  ends (either ts) w i = ends_of_one ts w i
  ends (repeated t low high) w i = ends_repeated (ends t w) low high (length w) i

  pub ends_in_turn : Trees → List ℕ → ℕ → List ℕ
  ends_in_turn no_trees w i = i ∷ []
  ends_in_turn (tree t ts) w i = flat_map (ends_in_turn ts w) (ends t w i)

  pub ends_of_one : Trees → List ℕ → ℕ → List ℕ
  ends_of_one no_trees w i = []
  ends_of_one (tree t ts) w i = ends t w i ++ ends_of_one ts w i

abbrev pub is_empty : {A : Type 0} → List A → Bool
is_empty [] = true
is_empty (x ∷ xs) = false

-- a match begins at a place up to n
abbrev pub finds_up_to : Tree → List ℕ → ℕ → Bool
finds_up_to t w zero = not (is_empty (ends t w 0))
finds_up_to t w (suc n) = finds_up_to t w n || not (is_empty (ends t w (suc n)))

-- the tree matches somewhere in the word: the test that says whether `IsFoundIn` holds
abbrev pub finds : Tree → List ℕ → Bool
finds t w = finds_up_to t w (length w)
