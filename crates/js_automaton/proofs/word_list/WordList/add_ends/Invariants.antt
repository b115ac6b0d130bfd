use Rattle.std.proofs.Common.{◌≡◌, ◌||◌, ◌&&◌, ℕ, nat_eq, take}
use Rattle.std.specs.List.{list_any}
use Rattle.js_automaton.specs.Trie.{same_edge}
use Rattle.js_automaton.proofs.EndLemmas.{ended}
use Rattle.js_automaton.proofs.word_list.WordList.add_ends.Given as goal

abbrev pub invariant-loop-word : goal.invariant-loop-word
invariant-loop-word l =
    (n k : ℕ) → list_any (same_edge (n, k)) l.ends.keys
    ≡ (list_any (same_edge (n, k)) l.initial.ends.keys
    || (nat_eq k l.place && ended l.trie.edges.keys (take l.word-index l.word-items) n))
