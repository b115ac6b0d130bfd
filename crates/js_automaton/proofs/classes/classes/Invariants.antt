use Rattle.std.proofs.Common.{◌-◌, ◌≤◌, map, length}
use Rattle.word_states.specs.Classes.{dividers}
use Rattle.js_nfa.specs.AtomView.{atom_view}
use Rattle.js_automaton.specs.ClassView.{AreClasses, first_of}
use Rattle.js_automaton.proofs.ClassSteps.{Dividing}
use Rattle.js_automaton.proofs.classes.classes.Given as goal

abbrev pub invariant-loop-first : goal.invariant-loop-first
invariant-loop-first l = record {
  dividing : Dividing (dividers (map atom_view l.atoms)) (map first_of l.classes.items) l.left;
  classes : AreClasses (dividers (map atom_view l.atoms)) l.classes.items;
  few : length l.classes.items ≤ 1024;
}

abbrev pub decreases-loop-first : goal.decreases-loop-first
decreases-loop-first l = 1024 - length l.classes.items
