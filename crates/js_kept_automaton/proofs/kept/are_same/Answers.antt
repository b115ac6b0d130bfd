-- Equal atoms stand for the same atom, one after another.
use Rattle.js_kept_automaton.proofs.SameAtoms.{atoms-same}
use Rattle.js_kept_automaton.proofs.kept.are_same.Goals as goal

pub returns : goal.returns
returns c = atoms-same c.args.a.now c.args.b.now _ c.eq.ensures
