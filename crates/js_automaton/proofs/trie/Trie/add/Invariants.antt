use Rattle.std.proofs.Common.{◌≡◌, drop}
use Rattle.js_automaton.specs.Trie.{with_word}
use Rattle.js_automaton.proofs.trie.Trie.add.Given as goal

abbrev pub invariant-loop-c : goal.invariant-loop-c
invariant-loop-c l =
    with_word l.self.edges.keys l.node (drop l.c-index l.word) ≡ with_word l.initial.self.edges.keys 0 l.word
