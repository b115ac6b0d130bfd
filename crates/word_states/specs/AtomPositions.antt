-- The positions of the patterns among atoms.
use Rattle.std.specs.Prelude.{ℕ, ◌+◌, List, [], ◌∷◌}
use Rattle.word_states.specs.Position.{count_of}
use Rattle.word_states.specs.Atom.{Atom, Match, Words, LengthMin}

-- how many positions the patterns have together
abbrev pub positions_of : List Atom → ℕ
positions_of [] = 0
positions_of (Match t ∷ atoms) = count_of t + positions_of atoms
positions_of (Words ws ∷ atoms) = positions_of atoms
positions_of (LengthMin n ∷ atoms) = positions_of atoms
