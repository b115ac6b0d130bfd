use Rattle.std.proofs.Common.{◌≡◌, drop}
use Rattle.js_automaton.specs.Trie.{with_words}
use Rattle.js_automaton.proofs.word_list.WordList.add_to.Given as goal

abbrev pub invariant-loop-word : goal.invariant-loop-word
invariant-loop-word l =
    with_words l.trie.edges.keys (drop l.word-index l.word-items) ≡ with_words l.initial.trie.edges.keys l.word-items
