-- The lines of a set that no string meets.
use Rattle.std.specs.Prelude.{ℕ, List, [], ◌∷◌, ◌++◌, map, length}
use Rattle.word_states.specs.Atom.{Atom}
use Rattle.positions.specs.Position.{Position}
use Rattle.goals.specs.Signed.{Signed}
use Rattle.finders.specs.Strings.{string_atoms}
use Rattle.certificate_lines.specs.Line as L
use Rattle.certificate_lines.specs.Line.{Line}
use Rattle.refutations.specs.StatedRows.{rows_of, row_lines}

-- a row's label is the length of its first word
abbrev pub length_lines : List Atom → List (List ℕ) → List Line
length_lines atoms rows = L.Strings (length rows) ∷ (row_lines atoms rows ++ L.Least (map length rows) ∷ [])

abbrev pub string_lines : List Position → List Signed → List Line
string_lines T S = length_lines (string_atoms T S) (rows_of (string_atoms T S))
