-- What a contract sees of an automaton.
use Rattle.std.specs.Prelude.{ℕ, List}
use Rattle.word_states.specs.Atom.{Atom}
use Rattle.js_automaton.specs.declared.automaton.Automaton.{Automaton}
use Rattle.js_automaton.specs.TuplesView as tuples

-- the atoms
abbrev pub atoms_of : Automaton → List Atom
atoms_of a = tuples.atoms_of a.tuples

-- the rows, each as its first word
abbrev pub rows_of : Automaton → List (List ℕ)
rows_of a = a.found.0
