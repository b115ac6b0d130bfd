use Rattle.std.proofs.Common.{◌≡◌, ℕ, ◌+◌, ◌<◌, [], ◌∷◌, length-append, length, get_or, sym, ◌∙◌, ap, subst, arith}
use Rattle.js_automaton.specs.AutomatonView.{atoms_of}
use Rattle.word_states.specs.Classes.{class_count}
use Rattle.js_row_words.specs.Labels.{width_of}
use Rattle.js_row_words.proofs.RaisingLaws.{width_next}
use Rattle.js_row_words.proofs.count.widths_of.Goals as goal

pub loop-class-preserved : goal.loop-class-preserved
loop-class-preserved c =
    let atoms = atoms_of c.args.automaton.now in
    let widths = c.loop-class.widths.items in
    let items = c.in_ok-push.ensures.items in
    let within : c.loop-class.class < class_count atoms =
    (let t = c.loop-class-test.true in let e = c.classes-class-end.ensures in omega (arith, t, e)) in
    record {
      count =
          let e = c.loop-class.invariant.count in
          let n = length-append widths (c.width.result ∷ []) in
          ap length items ∙ omega (arith, e, n);
      widths = subst (λ z. (j : ℕ) → j < c.loop-class.class + 1 → get_or z j 0 ≡ width_of atoms j) (sym items)
          (width_next atoms widths c.loop-class.class c.width.result c.class_set.result.now within c.class_set.ensures
          c.width.ensures c.loop-class.invariant.count c.loop-class.invariant.widths);
    }
