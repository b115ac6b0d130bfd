-- What is seen of the rows that were mentioned.
use Rattle.std.specs.Prelude.{ℕ, List}
use Rattle.word_states.specs.Atom.{Atom}
use Rattle.js_automaton.specs.TuplesView.{atoms_of}
use Rattle.js_check_rows.specs.declared.mentions.Mentions.{Mentions}
use Rattle.js_check_rows.specs.Mentions.{words_of}

abbrev pub atoms_in : Mentions → List Atom
atoms_in m = atoms_of m.tuples

-- a word for each
abbrev pub words_in : Mentions → List (List ℕ)
words_in m = words_of (atoms_of m.tuples) m.list.items
