-- What is spelled, and then the blocks that are left, are all of them.
use Rattle.std.proofs.Common.{drop}
use Rattle.js_automaton.specs.AutomatonView.{atoms_of}
use Rattle.js_row_words.specs.Runs.{AreRuns, spelled}
use Rattle.js_row_words.proofs.RunLaws.{AreLeft}
use Rattle.js_row_words.proofs.runs.runs_of.Given as goal

abbrev pub invariant-loop-block : goal.invariant-loop-block
invariant-loop-block l = record {
  left : AreLeft (spelled l.runs.items) l.blocks (drop l.block-index l.blocks);
  runs : AreRuns (atoms_of l.automaton) l.runs.items;
}
