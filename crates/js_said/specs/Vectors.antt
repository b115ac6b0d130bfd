-- Rows by what is said of their words.
use Rattle.std.specs.Prelude.{ℕ, List, map, Bool}
use Rattle.std.specs.declared.vec.Vec.{Vec}
use Rattle.std.specs.declared.alloc.Global.{Global}
use Rattle.positions.specs.Position.{Position}
use Rattle.goals.specs.Signed.{Signed}
use Rattle.cells.specs.Cells.{naming, vector, place, vectors_of}

-- each list as its elements
abbrev pub vectors_in : List (Vec Bool Global) → List (List Bool)
vectors_in vs = map (λ v. v.items) vs

-- the vectors of the rows of a set, each once
abbrev pub row_vectors : List Position → List Signed → List (List ℕ) → List (List Bool)
row_vectors T S rows = vectors_of T (naming T S) rows

-- for each row the number of its vector
abbrev pub row_places : List Position → List Signed → List (List ℕ) → List ℕ
row_places T S rows = map (λ w. place (vector T (naming T S) w) (row_vectors T S rows)) rows
