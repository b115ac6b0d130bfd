-- Atoms, each once.
use Rattle.std.specs.Prelude.{List, []}
use Rattle.word_states.specs.Atom.{Atom}
use Rattle.word_states.specs.Mention.{mention_all}
use Rattle.word_states.specs.SameAtom.{same_atom}

-- in order of first mention
abbrev pub once : List Atom → List Atom
once atoms = mention_all same_atom [] atoms
