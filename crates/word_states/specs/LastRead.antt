-- Which positions of a tree a partial match read last, at the end of a word.
--
-- A partial match begins at some place of the word and follows the tree up to a character, which is the word's last
-- one. It takes no heed of whether the rest of the tree can be matched. A repeated tree's pieces are read in its copies
-- in order: the first in copy 0, the next in copy 1, and where the number of pieces has no end, all past the last copy
-- in the last copy. So no copy is skipped, but a piece may be empty.
use Rattle.std.specs.List.{list_any}
use Rattle.std.specs.Prelude.{ℕ, zero, suc, ◌-◌, Bool, ◌&&◌, nat_eq, List, [], ◌∷◌, ◌++◌, length, slice_index, flat_map, Some, None}
use Rattle.patterns.specs.CharSet.{has}
use Rattle.patterns.specs.Tree.{Tree, Trees, empty, one_of, at_start, at_end, in_turn, either, repeated, no_trees, tree}
use Rattle.patterns.specs.Decision.{ends}

-- the place before the word's last character, and that character is of the set
abbrev pub reads_end : List (ℕ × ℕ) → List ℕ → ℕ → Bool
reads_end ranges w i = nat_eq (suc i) (length w) && has ranges (slice_index w i)

-- what `reads` says of each of some copies, one after another: the first begins at the places `from`, and each further
-- one where the one before can end
abbrev pub in_copies : (reads : List ℕ → List Bool) (step : List ℕ → List ℕ) → ℕ → (from : List ℕ) → List Bool
in_copies reads step zero from = []
in_copies reads step (suc n) from = reads from ++ in_copies reads step n (step from)

-- `in_copies` with a last copy, after these, that also begins where any number of further pieces can end
abbrev pub in_copies_on : (reads : List ℕ → List Bool) (step more : List ℕ → List ℕ) → ℕ → (from : List ℕ) → List Bool
in_copies_on reads step more zero from = reads (more from)
in_copies_on reads step more (suc n) from = reads from ++ in_copies_on reads step more n (step from)

-- for each position of the tree, in order: whether a partial match that began at one of the places `from` read it last
abbrev mutual
  pub last_read : Tree → (w : List ℕ) → (from : List ℕ) → List Bool
  last_read empty w from = []
  last_read (one_of ranges) w from = list_any (reads_end ranges w) from ∷ []
  last_read at_start w from = []
  last_read at_end w from = []
  last_read (in_turn ts) w from = last_read_in_turn ts w from
  last_read (either ts) w from = last_read_of_one ts w from
  last_read (repeated t low None) w from =
      in_copies_on (λ some. last_read t w some) (flat_map (ends t w)) (flat_map (ends (repeated t 0 None) w)) (low - 1)
      from
  last_read (repeated t low (Some high)) w from =
      in_copies (λ some. last_read t w some) (flat_map (ends t w)) high from

  -- each tree begins where the one before can end
  pub last_read_in_turn : Trees → (w : List ℕ) → (from : List ℕ) → List Bool
  last_read_in_turn no_trees w from = []
  last_read_in_turn (tree t ts) w from = last_read t w from ++ last_read_in_turn ts w (flat_map (ends t w) from)

  pub last_read_of_one : Trees → (w : List ℕ) → (from : List ℕ) → List Bool
  last_read_of_one no_trees w from = []
  last_read_of_one (tree t ts) w from = last_read t w from ++ last_read_of_one ts w from
