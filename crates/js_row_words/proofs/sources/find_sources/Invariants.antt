use Rattle.js_automaton.specs.AutomatonView.{atoms_of, rows_of}
use Rattle.js_row_words.proofs.EdgeLaws.{AreChains}
use Rattle.js_row_words.proofs.sources.find_sources.Given as goal

abbrev pub invariant-loop-edge : goal.invariant-loop-edge
invariant-loop-edge l = AreChains (atoms_of l.automaton) (rows_of l.automaton) l.last.items l.before.items l.edge
