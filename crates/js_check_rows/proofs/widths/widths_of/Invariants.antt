use Rattle.std.proofs.Common.{◌≡◌, ℕ, ◌<◌, length, get_or}
use Rattle.js_automaton.specs.TuplesView.{atoms_of}
use Rattle.verdicts.specs.Bounds.{width_of}
use Rattle.js_check_rows.proofs.widths.widths_of.Given as goal

abbrev pub invariant-loop-class : goal.invariant-loop-class
invariant-loop-class l = record {
  count : length l.widths.items ≡ l.class;
  widths : (j : ℕ) → j < l.class → get_or l.widths.items j 0 ≡ width_of (atoms_of l.tuples) j;
}
