use Rattle.std.proofs.Common.{◌<◌, ℕ, List, length, get_or, sym, ◌∙◌, ap, subst, arith}
use Rattle.word_states.specs.Classes.{class_count}
use Rattle.js_automaton.specs.TuplesView.{atoms_of}
use Rattle.js_check_rows.specs.Widths.{AreWidths}
use Rattle.js_check_rows.proofs.rows.Rows.new.Goals as goal

pub invariant_of-result : goal.invariant_of-result
invariant_of-result c =
    let m = c.in_ok-mentions.mentions in
    let same = sym c.in_ok-mentions.ensures.tuples in
    let widths = c.in_ok-widths.widths.items in
    record {
      wide = subst (λ z. AreWidths (atoms_of z) widths) same c.in_ok-widths.ensures.widths;
      all = c.in_ok-widths.ensures.length ∙ ap (λ z. class_count (atoms_of z)) same;
      known = omega arith;
      size = let e = ap (length {A = ℕ}) c.new-3.ensures.items in omega (arith, e);
      within = λ i. subst (λ (z : List ℕ). get_or z i 0 < length m.list.items) (sym c.new-3.ensures.items) m.begun;
    }
