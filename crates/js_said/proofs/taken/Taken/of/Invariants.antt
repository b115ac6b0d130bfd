-- The literals before were taken.
use Rattle.std.proofs.Common.{◌≡◌, map, take, drop, true}
use Rattle.js_algebra.specs.View.{signed_view, are_in_table}
use Rattle.js_nfa.specs.AtomView.{atom_view}
use Rattle.js_said.specs.Saying.{AreTaken}
use Rattle.js_said.proofs.taken.Taken.of.Given as goal

abbrev pub invariant-loop-x : goal.invariant-loop-x
invariant-loop-x l = record {
  in_table : are_in_table l.core.positions (map signed_view (drop l.x-index l.set)) ≡ true;
  taken : AreTaken l.core.positions (map signed_view (take l.x-index l.set)) (map atom_view l.taken.atoms.keys)
      l.taken.names.items l.taken.said.items;
}
