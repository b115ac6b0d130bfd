-- The rows that are led to, and the lengths of their words.
use Rattle.std.specs.Prelude.{ℕ, ◌+◌, ◌≤◌, ◌<◌, List, [], length, get_or}
use Rattle.word_states.specs.Atom.{Atom}
use Rattle.cell_laws.proofs.Rows.{target_in}

-- the rows before `named`, and those to which the row leads by its first classes, are before `next`; and the words of
-- those that are added are longer than the row's by one at most
pub record IsNamed (atoms : List Atom) (L : List (List ℕ)) (row classes named next : ℕ) : Type 0 where
  pub above : named ≤ next
  pub within : next ≤ length L
  pub targets : (k : ℕ) → k < classes → target_in atoms L row k < next
  pub longer : (i : ℕ) → named ≤ i → i < next → length (get_or L i []) ≤ length (get_or L row []) + 1
