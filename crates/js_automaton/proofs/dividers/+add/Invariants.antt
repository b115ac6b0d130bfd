use Rattle.std.proofs.Common.{◌≡◌, ℕ, ◌&&◌, map}
use Rattle.patterns.specs.Tree.{trees_of}
use Rattle.word_states.specs.Position.{sets_in}
use Rattle.word_states.specs.Classes.{are_alike}
use Rattle.js_pattern.specs.View.{view}
use Rattle.js_pattern_positions.proofs.Items.{rest}
use Rattle.js_automaton.proofs.dividers.+add.Given as goal

abbrev pub invariant-add_list-loop-re : goal.invariant-add_list-loop-re
invariant-add_list-loop-re l = (c d : ℕ)
    → (are_alike l.sets.items c d && are_alike (sets_in (rest l.re-items l.re-index)) c d)
    ≡ (are_alike l.fn.sets.items c d && are_alike (sets_in (trees_of (map view l.re-items))) c d)
