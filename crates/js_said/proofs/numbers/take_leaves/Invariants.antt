-- The leaves before were taken.
use Rattle.std.proofs.Common.{◌≡◌, ◌+◌, map, take, drop, length, nat_lt, true}
use Rattle.documents.specs.Tests.{every}
use Rattle.positions.specs.Position.{position_at}
use Rattle.name_laws.specs.Plans.{atoms_of, is_leaf}
use Rattle.js_algebra.specs.View.{places}
use Rattle.js_nfa.specs.AtomView.{atom_view}
use Rattle.js_said.specs.AtomNumbers.{Takes}
use Rattle.js_said.proofs.numbers.take_leaves.Given as goal

abbrev pub invariant-loop-leaf : goal.invariant-loop-leaf
invariant-loop-leaf l = record {
  within : every (λ q. nat_lt q (length l.core.positions)) (places (drop l.leaf-index l.leaves)) ≡ true;
  leaves : every (λ q. is_leaf (position_at l.core.positions q)) (places (drop l.leaf-index l.leaves)) ≡ true;
  taken : Takes (map atom_view l.fn.atoms.keys) (map atom_view l.atoms.keys) l.fn.numbers.items l.numbers.items
      (atoms_of l.core.positions (places (take l.leaf-index l.leaves)));
  count : length l.numbers.items ≡ length l.fn.numbers.items + l.leaf-index;
}
