use Rattle.std.proofs.Common.{ℕ, map, nat_lt, length, ap, sym, ◌∙◌, arith}
use Rattle.positions.specs.Position.{position_at}
use Rattle.name_truths.specs.NameTruth.{own_atoms}
use Rattle.name_laws.specs.Plans.{is_leaf}
use Rattle.js_algebra.specs.declared.node.Pos.{Pos}
use Rattle.js_nfa.specs.AtomView.{atom_view}
use Rattle.js_said.proofs.Taking.{leaves_next, every_later}
use Rattle.js_said.proofs.numbers.take_leaves.Goals as goal

pub loop-leaf-preserved : goal.loop-leaf-preserved
loop-leaf-preserved c =
    let T = c.args.core.now.positions in
    let leaves = c.args.leaves.now in
    let i = c.loop-leaf.leaf-index in
    let none : Pos = record { 0 = 0 } in
    let g : Pos → ℕ = λ p. p.0 in
    record {
      within = every_later (λ q. nat_lt q (length T)) g leaves i none c.loop-leaf-test.true
          c.loop-leaf.invariant.within;
      leaves = every_later (λ q. is_leaf (position_at T q)) g leaves i none c.loop-leaf-test.true
          c.loop-leaf.invariant.leaves;
      taken = leaves_next (λ q. own_atoms (position_at T q)) g (map atom_view c.args.atoms.now.keys)
          (map atom_view c.loop-leaf.atoms.keys) (map atom_view c.take_atom.new.atoms.keys) c.args.numbers.now.items
          c.loop-leaf.numbers.items c.take_atom.new.numbers.items leaves i none (atom_view c.in_ok-atom.atom)
          c.loop-leaf-test.true (ap own_atoms (sym c.node.ensures.value) ∙ c.in_ok-atom.ensures)
          c.loop-leaf.invariant.taken c.in_ok-take_atom.ensures.taken;
      count = omega (arith, c.loop-leaf.invariant.count, c.in_ok-take_atom.ensures.count);
    }
