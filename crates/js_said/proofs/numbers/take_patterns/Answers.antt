use Rattle.std.proofs.Common.{◌<◌, map, length, arith}
use Rattle.word_states.specs.Atom as W
use Rattle.js_pattern.specs.View.{view}
use Rattle.js_nfa.specs.AtomView.{atom_view}
use Rattle.js_said.proofs.Taking.{takes_next}
use Rattle.js_said.proofs.numbers.take_patterns.Goals as goal

pub loop-pattern-preserved : goal.loop-pattern-preserved
loop-pattern-preserved c =
    let within : c.loop-pattern.pattern-index < length c.args.patterns.now = omega arith in
    takes_next (λ r. W.Match (view r.re)) (map atom_view c.args.atoms.now.keys)
    (map atom_view c.loop-pattern.atoms.keys) (map atom_view c.take_pattern.new.atoms.keys) c.args.numbers.now.items
    c.loop-pattern.numbers.items c.take_pattern.new.numbers.items c.args.patterns.now c.loop-pattern.pattern-index
    c.pattern-item.result within c.pattern-item.is c.loop-pattern.invariant c.in_ok-take_pattern.ensures
