-- The cells of the names of a set.
use Rattle.std.specs.Prelude.{ℕ, List, Result}
use Rattle.word_states.specs.Atom.{Atom}
use Rattle.word_states.specs.Classes.{characters}
use Rattle.positions.specs.Position.{Position}
use Rattle.goals.specs.Signed.{Signed}
use Rattle.name_truths.specs.NameAtoms.{name_atoms}
use Rattle.cells.specs.Cells.{Cells, cells}
use Rattle.alternatives.specs.Limit.{LimitKind, most_states, most_words}
use Rattle.finders.specs.Once.{once}
use Rattle.finders.specs.Limits.{rows_found, limit_passed, unless_passed}
use Rattle.finders.specs.WordsFound.{far}

abbrev pub atoms_of_names : List Position → List Signed → List Atom
atoms_of_names T S = once (name_atoms T S)

module _ (characters : List ℕ) (most far bound : ℕ) where
  abbrev pub names_found : List Position → List Signed → Result Cells LimitKind
  names_found T S =
      unless_passed (limit_passed characters most (atoms_of_names T S))
      (cells characters far bound T S (rows_found characters most (atoms_of_names T S)))

abbrev pub cells_of : List Position → List Signed → Result Cells LimitKind
cells_of = names_found characters most_states far most_words
