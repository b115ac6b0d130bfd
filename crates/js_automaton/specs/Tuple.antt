-- What is kept of a word for a list of atoms.
use Rattle.std.specs.Prelude.{◌≡◌, ℕ, min, length, List, [], ◌∷◌, map}
use Rattle.patterns.specs.Decision.{is_empty}
use Rattle.word_states.specs.Atom.{Atom, Match, Words, LengthMin}
use Rattle.word_states.specs.PatternState.{PatternState, pattern_state}
use Rattle.word_states.specs.WordState.{greatest_least}
use Rattle.js_nfa.specs.View.{state_view}
use Rattle.js_automaton.specs.declared.state.TupleState.{TupleState}
use Rattle.js_automaton.specs.Trie.{listed, node_of}

-- what is kept of the word for each pattern
abbrev pub pattern_states : List Atom → List ℕ → List PatternState
pattern_states [] w = []
pattern_states (Match t ∷ atoms) w = pattern_state t w ∷ pattern_states atoms w
pattern_states (Words ws ∷ atoms) w = pattern_states atoms w
pattern_states (LengthMin n ∷ atoms) w = pattern_states atoms w

-- the state of the word
pub record IsStateOf (atoms : List Atom) (s : TupleState) (w : List ℕ) : Type 0 where
  pub empty : s.is_empty ≡ is_empty w
  pub patterns : map state_view s.patterns.items ≡ pattern_states atoms w
  pub node : s.node ≡ node_of (listed atoms) w
  pub length : s.length ≡ min (length w) (greatest_least atoms)
