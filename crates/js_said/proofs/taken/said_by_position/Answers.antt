use Rattle.std.proofs.Common.{map, ap, subst, sym, arith}
use Rattle.documents.specs.Document.{string}
use Rattle.positions.specs.Holds.{holds}
use Rattle.name_laws.specs.Plans.{SameMentions, atoms_of}
use Rattle.name_truths.specs.NameTruth.{atoms}
use Rattle.js_nfa.specs.AtomView.{atom_view}
use Rattle.js_said.specs.AtomNumbers.{Takes}
use Rattle.js_said.proofs.Formulas.{by_plan, is_planned}
use Rattle.js_said.proofs.taken.said_by_position.Goals as goal

pub returns-clause-atoms : goal.returns-clause-atoms
returns-clause-atoms c =
    let T = c.args.core.now.positions in
    let A = map atom_view c.args.atoms.now.keys in
    let B = map atom_view c.take_leaves.new.atoms.keys in
    by_plan T A B c.new-numbers.result.items c.take_leaves.new.numbers.items c.new-numbers.ensures.items
    c.in_ok-plan.plan c.args.q.0 c.in_ok-plan.ensures.atoms
    (subst (λ z. Takes A B c.new-numbers.result.items c.take_leaves.new.numbers.items (atoms_of T z))
    c.leaves.ensures.places c.in_ok-take_leaves.ensures.taken)

pub returns-clause-said : goal.returns-clause-said
returns-clause-said c =
    let T = c.args.core.now.positions in
    let A = map atom_view c.args.atoms.now.keys in
    let B = map atom_view c.take_leaves.new.atoms.keys in
    record {
      said = is_planned T A B c.new-numbers.result.items c.take_leaves.new.numbers.items c.new-numbers.ensures.items
          c.in_ok-plan.plan c.in_ok-plan.ensures.plan
          (subst (λ p. SameMentions (atoms_of T c.in_ok-plan.plan.leaves) (atoms T p)) (sym c.in_ok-plan.ensures.root)
          c.in_ok-plan.ensures.atoms)
          (subst (λ z. Takes A B c.new-numbers.result.items c.take_leaves.new.numbers.items (atoms_of T z))
          c.leaves.ensures.places c.in_ok-take_leaves.ensures.taken)
          (omega (arith, c.in_ok-take_leaves.ensures.count, c.leaves.ensures.count));
      tells = λ w. ap (λ p. holds T p (string w)) c.in_ok-plan.ensures.root;
    }
