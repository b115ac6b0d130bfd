-- What is taken once has each of the atoms.
use Rattle.std.proofs.Common.{List, [], refl, sym, subst}
use Rattle.word_states.specs.Atom.{Atom}
use Rattle.word_states.specs.SameAtom.{same_atom}
use Rattle.state_laws.proofs.SameAtoms.{same_atom-Decides, same_atom_equiv}
use Rattle.word_laws.proofs.Mentions as M
use Rattle.list_laws.specs.In.{IsIn}
use Rattle.finders.specs.Once.{once}

-- each atom is in the list in which each is once
pub once_has : (a : Atom) (atoms : List Atom) → IsIn a atoms → IsIn a (once atoms)
once_has a atoms i =
    let (b, j, e) = M.in_has same_atom same_atom_equiv a (once atoms)
    (M.mentions_have same_atom same_atom_equiv [] atoms a a i ((same_atom-Decides a a).1 refl)) in
    subst (λ z. IsIn z (once atoms)) (sym ((same_atom-Decides a b).0 e)) j
