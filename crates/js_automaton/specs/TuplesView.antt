-- What a contract sees of the states of a list of atoms.
use Rattle.std.specs.Prelude.{List}
use Rattle.word_states.specs.Atom.{Atom}
use Rattle.js_automaton.specs.declared.tuples.Tuples.{Tuples}
use Rattle.js_automaton.specs.Parts.{atoms_made}

-- the atoms
abbrev pub atoms_of : Tuples → List Atom
atoms_of t = atoms_made t.patterns.items t.parts.items
