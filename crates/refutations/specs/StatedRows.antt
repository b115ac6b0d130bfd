-- The lines of the rows of an automaton.
use Rattle.std.specs.Prelude.{ℕ, List, map}
use Rattle.word_states.specs.Atom.{Atom}
use Rattle.word_states.specs.Classes.{characters}
use Rattle.word_states.specs.Rows.{targets_of}
use Rattle.alternatives.specs.Limit.{most_states}
use Rattle.finders.specs.Limits.{rows_found}
use Rattle.certificate_lines.specs.Line as L
use Rattle.certificate_lines.specs.Line.{Line}

-- the rows of atoms, each as its first word
abbrev pub rows_of : List Atom → List (List ℕ)
rows_of atoms = rows_found characters most_states atoms

-- the targets of each of them, in order
abbrev pub row_lines : List Atom → List (List ℕ) → List Line
row_lines atoms rows = map (λ w. L.Row (targets_of atoms rows w)) rows
