-- What contracts see of what is required of words.
use Rattle.std.specs.Prelude.{ℕ, List, map, Bool}
use Rattle.word_states.specs.Atom as W
use Rattle.js_nfa.specs.AtomView.{atom_view}
use Rattle.js_asked.specs.declared.wish.Asked.{Asked}
use Rattle.js_asked.specs.Wishes.{are_met}

abbrev pub atoms_in : Asked → List W.Atom
atoms_in a = map atom_view a.atoms.keys

-- the word has the required truths
abbrev pub asks : Asked → List ℕ → Bool
asks a w = are_met (atoms_in a) a.wishes.items w
