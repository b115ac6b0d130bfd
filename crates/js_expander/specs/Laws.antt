-- The laws of expanders, of the goals of a table.
use Rattle.std.specs.Prelude.{◌≡◌, ℕ, List, [], length, true, nat_lt, Ok}
use Rattle.std.proofs.lemmas.Bool.{and_parts}
use Rattle.documents.specs.Tests.{every}
use Rattle.documents.specs.Kind as K
use Rattle.positions.specs.Position.{Position}
use Rattle.positions.specs.Holds.{IsTable}
use Rattle.goals.specs.Signed.{Signed, position_of}
use Rattle.goal_laws.specs.Saturated.{IsSaturated}
use Rattle.cells.specs.Cells.{Cells}
use Rattle.alternatives.specs.Alternative.{named}
use Rattle.alternatives.specs.Slots.{has_words, has_fitting_slots, has_different_slots, has_different_words}
use Rattle.expansion_laws.proofs.Containers.{IsCells}
use Rattle.finder_laws.proofs.Names.{cells_found}
use Rattle.expander_laws.specs.Expander.{takes, is_formed, branch_count}
use Rattle.expander_laws.proofs.Laws as L
use Rattle.js_expander.specs.Found.{finders, goal_expansion, cells_at}

module _ (T : List Position) (ranks : List ℕ) (g : List Signed) (taken : takes T ranks g ≡ true) where
  pub inside : every (λ x. nat_lt (position_of x) (length T)) g ≡ true
  inside =
      (and_parts (is_formed T g) (every (λ x. nat_lt (position_of x) (length T)) g) (L.taken_goal T ranks g taken)).1

  right : (ok : IsTable T) (S : List Signed) → IsSaturated T K.Object S → (C : Cells) → (finders T).cells S ≡ Ok C
      → IsCells T ok S C
  right ok S full C e = cells_found T S ok C e

  pub named_taken : every (takes T ranks) (named (goal_expansion T g).alternatives) ≡ true
  named_taken = L.named_taken T ranks (finders T) g taken

  pub words_named : every (λ a. has_words (cells_at T g a.kind a.branch) a) (goal_expansion T g).alternatives ≡ true
  words_named = L.words_named T ranks (finders T) g taken right

  pub words_differ : every (λ a. has_different_words (cells_at T g a.kind a.branch)) (goal_expansion T g).alternatives
      ≡ true
  words_differ = L.words_differ T ranks (finders T) g taken right

module _ (T : List Position) (g : List Signed) where
  pub of_branches : every (λ a. nat_lt a.branch (branch_count T g a.kind)) (goal_expansion T g).alternatives ≡ true
  of_branches = L.of_branches T [] (finders T) g

  pub slots_fit : every has_fitting_slots (goal_expansion T g).alternatives ≡ true
  slots_fit = L.slots_fit T [] (finders T) g

  pub slots_differ : every has_different_slots (goal_expansion T g).alternatives ≡ true
  slots_differ = L.slots_differ T [] (finders T) g
