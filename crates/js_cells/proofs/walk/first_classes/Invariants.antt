-- The characters before have their classes.
use Rattle.std.proofs.Common.{◌≡◌, length}
use Rattle.js_automaton.specs.AutomatonView.{atoms_of}
use Rattle.js_cells.specs.Truths.{AreFirst}
use Rattle.js_cells.proofs.walk.first_classes.Given as goal

abbrev pub invariant-loop-code : goal.invariant-loop-code
invariant-loop-code l = record {
  count : length l.classes.items ≡ l.code;
  first : AreFirst (atoms_of l.automaton) l.classes.items;
}
