use Rattle.std.proofs.Common.{◌≡◌}
use Rattle.std.specs.List.{fold}
use Rattle.word_states.specs.PatternState.{numbers_from}
use Rattle.js_nfa.specs.Fed.{fed_words}
use Rattle.js_nfa.proofs.state.feed.Given as goal

abbrev pub invariant-loop-index : goal.invariant-loop-index
invariant-loop-index g l =
    l.state ≡ fold g.H.Hasher.write l.initial.state (fed_words (numbers_from 0 l.positions.flags) l.index-counter)
