use Rattle.std.proofs.Common.{◌≡◌, flat_map, drop}
use Rattle.js_automaton.specs.Parts.{part_words}
use Rattle.js_automaton.specs.Trie.{with_words, edges_of}
use Rattle.js_automaton.proofs.parts.trie_of.Given as goal

abbrev pub invariant-loop-part : goal.invariant-loop-part
invariant-loop-part l =
    with_words l.trie.edges.keys (flat_map part_words (drop l.part-index l.parts))
    ≡ edges_of (flat_map part_words l.parts)
