-- What a contract sees of a counter of words.
use Rattle.std.specs.Prelude.{ℕ, List}
use Rattle.word_states.specs.Atom.{Atom}
use Rattle.js_automaton.specs.AutomatonView as automata
use Rattle.js_row_words.specs.declared.count.WordCounter.{WordCounter}

-- the atoms of its automaton
abbrev pub atoms_of : WordCounter → List Atom
atoms_of x = automata.atoms_of x.automaton.now

-- its rows, each as its first word
abbrev pub rows_of : WordCounter → List (List ℕ)
rows_of x = automata.rows_of x.automaton.now
