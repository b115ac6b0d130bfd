-- The truths so far, and then those of the atoms that are left.
use Rattle.std.proofs.Common.{◌≡◌, ◌++◌, [], map, drop, get_or, true}
use Rattle.js_automaton.specs.AutomatonView.{atoms_of, rows_of}
use Rattle.js_said.specs.AtomNumbers.{is_true_at, are_below}
use Rattle.js_cells.proofs.telling.ask.Given as goal

abbrev pub invariant-loop-number : goal.invariant-loop-number
invariant-loop-number l = record {
  below : are_below (atoms_of l.automaton) (drop l.number-index l.numbers) ≡ true;
  truths : l.asked.items ++ map (is_true_at (atoms_of l.automaton) (get_or (rows_of l.automaton) l.row []))
      (drop l.number-index l.numbers)
      ≡ map (is_true_at (atoms_of l.automaton) (get_or (rows_of l.automaton) l.row [])) l.numbers;
}
