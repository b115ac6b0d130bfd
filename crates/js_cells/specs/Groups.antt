-- Words of one state have one vector.
use Rattle.std.specs.Prelude.{◌≡◌, ℕ, List, true}
use Rattle.word_states.specs.Atom.{Atom}
use Rattle.word_states.specs.WordState.{have_same_state}
use Rattle.positions.specs.Position.{Position}
use Rattle.goals.specs.Signed.{Signed}
use Rattle.cells.specs.Cells.{naming, vector}

abbrev pub ShareVectors : List Position → List Signed → List Atom → Type 0
ShareVectors T S atoms =
    (v w : List ℕ) → have_same_state atoms v w ≡ true → vector T (naming T S) v ≡ vector T (naming T S) w
