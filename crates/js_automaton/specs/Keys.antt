-- States as keys of a table: what of them is compared.
use Rattle.std.specs.Prelude.{Bool, ◌&&◌, nat_eq}
use Rattle.std.specs.Bool.{beq}
use Rattle.std.specs.Cmp.Lexicographic.{pointwise}
use Rattle.std.specs.Option.{option_eq}
use Rattle.word_states.specs.WordState.{same_pattern_state}
use Rattle.js_nfa.specs.declared.state.PatternState.{PatternState}
use Rattle.js_nfa.specs.View.{state_view}
use Rattle.js_automaton.specs.declared.state.TupleState.{TupleState}

abbrev pub same_pattern : PatternState → PatternState → Bool
same_pattern p q = same_pattern_state (state_view p) (state_view q)

-- the test of two states
abbrev pub same_tuple : TupleState → TupleState → Bool
same_tuple x y =
    beq x.is_empty y.is_empty
    && (pointwise same_pattern x.patterns.items y.patterns.items
    && (option_eq nat_eq x.node y.node && nat_eq x.length y.length))
