use Rattle.std.proofs.Common.{[], ◌∷◌, ap, sym, subst, ◌∙◌, length-append, length, arith}
use Rattle.word_states.specs.Classes.{class_of}
use Rattle.js_automaton.specs.AutomatonView.{atoms_of}
use Rattle.js_cells.specs.Truths.{AreFirst}
use Rattle.js_cells.proofs.TruthLaws.{first_more}
use Rattle.js_cells.proofs.walk.first_classes.Goals as goal

pub loop-code-preserved : goal.loop-code-preserved
loop-code-preserved c =
    let A = atoms_of c.args.automaton.now in
    let classes = c.loop-code.classes.items in
    let k = c.find_class.result in
    let count = c.loop-code.invariant.count in
    let pushed = c.in_ok-push.ensures.items in record {
      count = omega (arith, ap length pushed, length-append classes (k ∷ []), count);
      first = subst (AreFirst A) (sym pushed)
          (first_more A classes k (c.find_class.ensures ∙ ap (class_of A) (c.from.ensures ∙ sym count))
          c.loop-code.invariant.first);
    }
