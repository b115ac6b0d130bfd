-- There is a step for each row that was named.
use Rattle.js_automaton.specs.AutomatonView.{atoms_of, rows_of}
use Rattle.js_row_words.proofs.NameSteps.{IsNaming}
use Rattle.js_row_words.proofs.row_steps.name_rows.Given as goal

abbrev pub invariant-loop-class : goal.invariant-loop-class
invariant-loop-class l = IsNaming (atoms_of l.automaton) (rows_of l.automaton) l.steps.items l.row l.class
