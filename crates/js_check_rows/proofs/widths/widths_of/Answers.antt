use Rattle.std.proofs.Common.{◌≡◌, ℕ, ◌+◌, ◌<◌, [], ◌∷◌, length-append, length, get_or, sym, ◌∙◌, ap, subst, arith}
use Rattle.js_automaton.specs.TuplesView.{atoms_of}
use Rattle.verdicts.specs.Bounds.{width_of}
use Rattle.js_check_rows.proofs.WidthLemmas.{width_next}
use Rattle.js_check_rows.proofs.widths.widths_of.Goals as goal

pub loop-class-preserved : goal.loop-class-preserved
loop-class-preserved c =
    let atoms = atoms_of c.args.tuples.now in
    let widths = c.loop-class.widths.items in
    let items = c.in_ok-push.ensures.items in
    record {
      count =
          let e = c.loop-class.invariant.count in
          let n = length-append widths (c.width.result ∷ []) in
          ap length items ∙ omega (arith, e, n);
      widths = subst (λ z. (j : ℕ) → j < c.loop-class.class + 1 → get_or z j 0 ≡ width_of atoms j) (sym items)
          (width_next atoms widths c.loop-class.class c.width.result c.class_set.result.now c.class_set.ensures
          c.width.ensures c.loop-class.invariant.count c.loop-class.invariant.widths);
    }
