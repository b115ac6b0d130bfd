-- The lines of a set that no object meets.
use Rattle.std.specs.Prelude.{ℕ, min, List, ◌∷◌, ◌++◌, map, filter, length, nat_eq, Option, is_some}
use Rattle.word_states.specs.Atom.{Atom}
use Rattle.word_states.specs.Classes.{characters}
use Rattle.positions.specs.Position.{Position}
use Rattle.goals.specs.Signed.{Signed}
use Rattle.cells.specs.Cells.{Cells, cells, cell_of}
use Rattle.alternatives.specs.Limit.{most_words}
use Rattle.frames.specs.Frame.{Frame}
use Rattle.frames.specs.ObjectFrame.{object_frame}
use Rattle.finders.specs.WordsFound.{far, words_found}
use Rattle.finders.specs.Names.{atoms_of_names}
use Rattle.certificate_lines.specs.Line as L
use Rattle.certificate_lines.specs.Line.{Line}
use Rattle.verdicts.specs.Duties.{OfObjects}
use Rattle.refutations.specs.StatedRows.{rows_of, row_lines}
use Rattle.refutations.specs.PlanTreeLines.{plan_lines}

-- the allowed cells of which the number of words isn't cut, in order
abbrev pub capped : Frame → List ℕ
capped frame = filter (λ c. is_some (frame.cap c)) frame.cells

module _ (T : List Position) (C : Cells) where
  -- the words that lead from the row of a word into the cell
  abbrev pub words_from : ℕ → List ℕ → List (List ℕ)
  words_from c u = words_found characters far (λ w. nat_eq (cell_of T C (u ++ w)) c)

  -- how many they are, cut
  abbrev pub label_of : ℕ → List ℕ → ℕ
  label_of c u = min most_words (length (words_from c u))

  abbrev pub cap_line : List (List ℕ) → ℕ → Line
  cap_line rows c = L.Cap c (map (label_of c) rows)

-- the cells of the names of a set
abbrev pub cells_at : List Position → List Signed → Cells
cells_at T S = cells characters far most_words T S (rows_of (atoms_of_names T S))

abbrev pub frame_at : List Position → List Signed → Frame
frame_at T S = object_frame T (cells_at T S) S

module _ (number : List Signed → Option ℕ) (T : List Position) (S : List Signed) where
  abbrev pub member_lines : List Atom → List (List ℕ) → Cells → Frame → List Line
  member_lines atoms rows C frame =
      L.Objects (length rows) (length (capped frame))
      ∷ (row_lines atoms rows ++ (map (cap_line T C rows) (capped frame) ++ plan_lines number OfObjects T frame))

  abbrev pub object_lines : List Line
  object_lines = member_lines (atoms_of_names T S) (rows_of (atoms_of_names T S)) (cells_at T S) (frame_at T S)
