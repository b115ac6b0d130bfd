-- What the steps to a leaf have found: bounds of the count that leave a leaf open, and the automaton of the names.
use Rattle.std.specs.Prelude.{◌≡◌, ◌<◌, ◌≤◌, ℕ, List, Ok, length, get_or}
use Rattle.word_states.specs.Classes.{characters}
use Rattle.positions.specs.Position.{Position}
use Rattle.goals.specs.Signed.{Signed}
use Rattle.cells.specs.Cells.{Cells, cells}
use Rattle.frames.specs.ObjectFrame as O
use Rattle.alternatives.specs.Limit.{most_words}
use Rattle.alternatives.specs.Slots.{capacity}
use Rattle.finders.specs.WordsFound.{far}
use Rattle.finders.specs.Names.{atoms_of_names, cells_of}
use Rattle.js_automaton.specs.AutomatonView.{atoms_of, rows_of}
use Rattle.js_automaton.specs.declared.automaton.Automaton.{Automaton}
use Rattle.js_bounds.specs.declared.bounds.Bounds.{Bounds}

-- those of the set, and no more than may be required
pub record AreOpen (T : List Position) (S : List Signed) (bounds : Bounds) : Type 0 where
  pub lower : bounds.lower ≡ O.lower T S
  pub below : bounds.below ≡ O.below T S
  pub few : bounds.lower ≤ 65536

-- the cells of its rows
abbrev pub cells_by : List Position → List Signed → Automaton → Cells
cells_by T S a = cells characters far most_words T S (rows_of a)

-- its rows make the cells that are found
pub record IsOfNames (T : List Position) (S : List Signed) (a : Automaton) : Type 0 where
  pub atoms : atoms_of a ≡ atoms_of_names T S
  pub found : cells_of T S ≡ Ok (cells_by T S a)

-- each cell of which names are needed is there, and has so many
abbrev pub HasNeeded : Cells → List ℕ → Type 0
HasNeeded C needs =
    (c : ℕ) → 0 < get_or needs c 0 → (c < length C.vectors) × (get_or needs c 0 ≤ capacity (C.words c))
