use Rattle.std.proofs.Common.{◌∙◌, ◌+◌, false, min, refl, ap}
use Rattle.js_automaton.specs.Trie.{child_of}
use Rattle.js_automaton.specs.TuplesView.{atoms_of}
use Rattle.js_automaton.proofs.TupleLemmas.{step-done}
use Rattle.js_automaton.proofs.tuples.Tuples.state_after.Goals as goal

pub returns : goal.returns
returns c = λ w d h p k.
    let t = c.args.self.now in
    step-done (atoms_of t) c.args.state.now
    (record {
      is_empty = false;
      patterns = c.args.patterns;
      node = c.child_of-node.result;
      length = c.longer-length.result;
    })
    c.args.c d w h refl p (c.child_of-node.ensures ∙ ap (λ z. child_of z c.args.state.now.node c.args.c) t.nodes)
    (c.longer-length.ensures ∙ ap (λ g. min (c.args.state.now.length + 1) g) t.greatest)
    k
