use Rattle.std.proofs.Common.{◌≡◌, Some, drop}
use Rattle.js_automaton.specs.Trie.{walk}
use Rattle.js_automaton.proofs.trie.Trie.node_of.Given as goal

abbrev pub invariant-loop-c : goal.invariant-loop-c
invariant-loop-c l = walk l.self.edges.keys l.node (drop l.c-index l.word) ≡ walk l.self.edges.keys (Some 0) l.word
