use Rattle.std.proofs.Common.{◌≡◌, take}
use Rattle.patterns.specs.Decision.{is_empty}
use Rattle.word_states.specs.PatternState.{reading, numbers_from, pattern_state}
use Rattle.js_nfa.specs.View.{tree_of, HasRoom}
use Rattle.js_nfa.proofs.find.finds.Given as goal

abbrev pub invariant-loop-c : goal.invariant-loop-c
invariant-loop-c l = record {
  room : HasRoom l.nfa l.scratch;
  first : l.first ≡ is_empty (take l.c-index l.word);
  state : pattern_state (tree_of l.nfa) (take l.c-index l.word) ≡ reading (numbers_from 0 l.scratch.read.flags);
}
