use Rattle.std.proofs.Common.{◌∙◌, flat_map, ap}
use Rattle.js_automaton.specs.Parts.{part_words}
use Rattle.js_automaton.specs.Trie.{with_words}
use Rattle.js_automaton.proofs.EndLemmas.{parts-first, parts-step}
use Rattle.js_automaton.proofs.parts.trie_of.Goals as goal

pub loop-part-init : goal.loop-part-init
loop-part-init c =
    ap (λ z. with_words z (flat_map part_words c.args.parts.now)) c.new-trie.ensures ∙ parts-first c.args.parts.now

pub loop-part-preserved : goal.loop-part-preserved
loop-part-preserved c =
    parts-step c.loop-part.trie.edges.keys c.add_words.new.trie.edges.keys c.args.parts.now c.loop-part.part-index
    c.part-item.result c.loop-part-test.true c.part-item.is c.in_ok-add_words.ensures
    ∙ c.loop-part.invariant
