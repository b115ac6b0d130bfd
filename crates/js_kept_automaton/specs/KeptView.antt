-- Of which atoms something is kept.
use Rattle.std.specs.Prelude.{List, map, Option, option_map}
use Rattle.word_states.specs.Atom.{Atom}
use Rattle.js_nfa.specs.AtomView.{atom_view}
use Rattle.js_kept_automaton.specs.declared.kept.KeptAutomaton.{KeptAutomaton}

abbrev pub kept_atoms : KeptAutomaton → Option (List Atom)
kept_atoms k = option_map (λ b. map atom_view b.atoms.items) k.last
