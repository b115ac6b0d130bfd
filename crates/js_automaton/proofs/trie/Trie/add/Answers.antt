use Rattle.std.proofs.Common.{◌∙◌, ◌+◌, drop, ap}
use Rattle.js_automaton.specs.Trie.{with_word}
use Rattle.js_automaton.proofs.EndLemmas.{add-step}
use Rattle.js_automaton.proofs.trie.Trie.add.Goals as goal

pub loop-c-preserved : goal.loop-c-preserved
loop-c-preserved c =
    ap (λ n. with_word c.insert_full.new.self.keys n (drop (c.loop-c.c-index + 1) c.args.word.now))
    c.node_after-node.ensures
    ∙ add-step c.loop-c.self.edges.keys c.insert_full.new.self.keys c.args.word.now c.loop-c.c-index c.loop-c.node
    c.c-item.result c.in_ok-place.place c.loop-c-test.true c.c-item.is c.in_ok-place.ensures.keys
    c.in_ok-place.ensures.index
    ∙ c.loop-c.invariant
