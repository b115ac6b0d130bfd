-- The characters of the block before this one are spelled.
use Rattle.std.proofs.Common.{◌≡◌, ◌≤◌, ◌++◌, ◌-◌}
use Rattle.std.specs.List.{range_with_len}
use Rattle.js_automaton.specs.AutomatonView.{atoms_of}
use Rattle.js_row_words.specs.Runs.{AreRuns, spelled}
use Rattle.js_row_words.proofs.runs.add_block.Given as goal

abbrev pub invariant-loop-at : goal.invariant-loop-at
invariant-loop-at l = record {
  low : l.fn.block.0 ≤ l.at;
  high : l.at ≤ l.end;
  spelled : spelled l.runs.items ≡ spelled l.fn.runs.items ++ range_with_len l.fn.block.0 (l.at - l.fn.block.0);
  runs : AreRuns (atoms_of l.automaton) l.runs.items;
}

abbrev pub decreases-loop-at : goal.decreases-loop-at
decreases-loop-at l = l.end - l.at
