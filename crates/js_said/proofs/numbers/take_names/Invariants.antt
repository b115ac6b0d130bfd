-- The names before were taken.
use Rattle.std.proofs.Common.{[], ◌∷◌, map, take}
use Rattle.word_states.specs.Atom as W
use Rattle.js_nfa.specs.AtomView.{atom_view}
use Rattle.js_said.specs.AtomNumbers.{Takes}
use Rattle.js_said.proofs.numbers.take_names.Given as goal

abbrev pub invariant-loop-name : goal.invariant-loop-name
invariant-loop-name l =
    Takes (map atom_view l.fn.atoms.keys) (map atom_view l.atoms.keys) l.fn.numbers.items l.numbers.items
    (map (λ n. W.Words (n ∷ [])) (take l.name-index l.names))
