-- The number of characters of each class.
use Rattle.std.specs.Prelude.{◌≡◌, ◌<◌, ℕ, List, get_or}
use Rattle.word_states.specs.Atom.{Atom}
use Rattle.word_states.specs.Classes.{class_count}
use Rattle.verdicts.specs.Bounds.{width_of}

abbrev pub AreWidths : List Atom → List ℕ → Type 0
AreWidths atoms widths = (k : ℕ) → k < class_count atoms → get_or widths k 0 ≡ width_of atoms k
