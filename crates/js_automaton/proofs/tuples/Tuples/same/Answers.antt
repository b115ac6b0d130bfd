use Rattle.std.proofs.Common.{◌∙◌, sym}
use Rattle.js_automaton.specs.TuplesView.{atoms_of}
use Rattle.js_automaton.proofs.KeyLemmas.{tuple-decides}
use Rattle.js_automaton.proofs.tuples.Tuples.same.Goals as goal

pub returns : goal.returns
returns c = λ v w h k.
    let d = tuple-decides (atoms_of c.args.self.now) c.args.x.now c.args.y.now v w h k in
    ((λ e. d.0 (sym c.eq.ensures ∙ e)), (λ e. c.eq.ensures ∙ d.1 e))
