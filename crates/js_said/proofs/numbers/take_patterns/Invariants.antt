-- The patterns before were taken.
use Rattle.std.proofs.Common.{map, take}
use Rattle.word_states.specs.Atom as W
use Rattle.js_pattern.specs.View.{view}
use Rattle.js_nfa.specs.AtomView.{atom_view}
use Rattle.js_said.specs.AtomNumbers.{Takes}
use Rattle.js_said.proofs.numbers.take_patterns.Given as goal

abbrev pub invariant-loop-pattern : goal.invariant-loop-pattern
invariant-loop-pattern l =
    Takes (map atom_view l.fn.atoms.keys) (map atom_view l.atoms.keys) l.fn.numbers.items l.numbers.items
    (map (λ r. W.Match (view r.re)) (take l.pattern-index l.patterns))
