-- No class before has the character.
use Rattle.std.proofs.Common.{◌≡◌, ◌<◌, ℕ, false}
use Rattle.word_states.specs.Classes.{is_in_class}
use Rattle.js_automaton.specs.AutomatonView.{atoms_of}
use Rattle.js_cells.proofs.walk.find_class.Given as goal

abbrev pub invariant-loop-class : goal.invariant-loop-class
invariant-loop-class l = (k : ℕ) → k < l.class → is_in_class (atoms_of l.automaton) k l.c ≡ false
