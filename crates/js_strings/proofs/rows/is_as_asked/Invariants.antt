-- The wishes that are left decide.
use Rattle.std.proofs.Common.{◌≡◌, [], drop, get_or, true}
use Rattle.js_automaton.specs.AutomatonView.{rows_of}
use Rattle.js_asked.specs.Asking.{atoms_in}
use Rattle.js_asked.specs.Wishes.{are_within, are_met}
use Rattle.js_strings.proofs.rows.is_as_asked.Given as goal

abbrev pub invariant-loop-wish : goal.invariant-loop-wish
invariant-loop-wish l = record {
  within : are_within l.asked.atoms.keys (drop l.wish-index l.wish-items) ≡ true;
  met : are_met (atoms_in l.asked) (drop l.wish-index l.wish-items) (get_or (rows_of l.automaton) l.row [])
      ≡ are_met (atoms_in l.asked) l.asked.wishes.items (get_or (rows_of l.automaton) l.row []);
}
