-- What a contract sees of the crate's types.
use Rattle.std.specs.Prelude.{◌≤◌, ℕ, List, Bool, false}
use Rattle.patterns.specs.Tree.{Tree}
use Rattle.patterns.specs.Decision.{is_empty}
use Rattle.word_states.specs.Position.{count_of}
use Rattle.word_states.specs.PatternState as states
use Rattle.state_laws.specs.Flow.{next_state}
use Rattle.js_pattern.specs.View.{view}
use Rattle.js_nfa.specs.declared.nfa.Nfa.{Nfa}
use Rattle.js_nfa.specs.declared.state.PatternState.{PatternState}
use Rattle.js_nfa.specs.declared.state.PatternState.TheVariants.{Done, Reading}
use Rattle.js_nfa.specs.declared.state_set.StateSet.{StateSet}
use Rattle.js_nfa.specs.declared.scratch.Scratch.{Scratch}

-- the pattern of an automaton
abbrev pub tree_of : Nfa → Tree
tree_of n = view n.tree

-- what is kept of a word
abbrev pub state_view : PatternState → states.PatternState
state_view Done = states.done
state_view (Reading read) = states.reading (states.numbers_from 0 read.flags)

-- what a set stands for: whether the word is empty, and what is kept of it
abbrev pub set_view : StateSet → Bool × states.PatternState
set_view s = (s.is_empty, state_view s.state)

-- what is kept of the word w for the pattern t
abbrev pub state_of : Tree → List ℕ → Bool × states.PatternState
state_of t w = (is_empty w, states.pattern_state t w)

-- what is kept after one more character
abbrev pub after : Tree → ℕ → Bool × states.PatternState → Bool × states.PatternState
after t c s = (false, next_state t s.0 c s.1)

-- both sets of a scratch have room for the pattern's positions
abbrev pub HasRoom : Nfa → Scratch → Type 0
HasRoom n s = (count_of (tree_of n) ≤ s.read.room) × (count_of (tree_of n) ≤ s.reads.room)
