-- There is a step for each row that was named.
use Rattle.js_automaton.specs.AutomatonView.{atoms_of, rows_of}
use Rattle.js_row_words.proofs.NameSteps.{IsNaming}
use Rattle.js_row_words.proofs.row_steps.steps.Given as goal

abbrev pub invariant-loop-row : goal.invariant-loop-row
invariant-loop-row l = IsNaming (atoms_of l.automaton) (rows_of l.automaton) l.steps.items l.row 0
