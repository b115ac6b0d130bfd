-- What a contract sees of an atom.
use Rattle.word_states.specs.Atom as words
use Rattle.js_pattern.specs.View.{view}
use Rattle.js_nfa.specs.declared.atom.Atom.{Atom}
use Rattle.js_nfa.specs.declared.atom.Atom.TheVariants.{Match, Words, LengthMin}

abbrev pub atom_view : Atom → words.Atom
atom_view (Match re) = words.Match (view re)
atom_view (Words list) = words.Words list
atom_view (LengthMin n) = words.LengthMin n
