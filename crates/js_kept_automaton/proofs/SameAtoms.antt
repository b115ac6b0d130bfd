-- Lists of equal atoms stand for the same atoms.
use Rattle.std.proofs.Common.{◌≡◌, true, Bool, List, [], ◌∷◌, map, refl, sym, ◌∙◌, ap₂}
use Rattle.std.proofs.lemmas.Bool.{and_parts}
use Rattle.std.specs.Cmp.Lexicographic.{pointwise}
use Rattle.word_states.specs.SameAtom.{same_atom}
use Rattle.state_laws.proofs.SameAtoms.{same_atom-Decides}
use Rattle.js_nfa.specs.AtomView.{atom_view}
use Rattle.js_nfa.specs.declared.atom.Atom.{Atom}

same-views : (xs ys : List Atom) → pointwise (λ a b. same_atom (atom_view a) (atom_view b)) xs ys ≡ true
    → map atom_view xs ≡ map atom_view ys
same-views [] [] e = refl
same-views [] (y ∷ ys) e = cc
same-views (x ∷ xs) [] e = cc
same-views (x ∷ xs) (y ∷ ys) e =
    let (h, k) = and_parts (same_atom (atom_view x) (atom_view y))
    (pointwise (λ a b. same_atom (atom_view a) (atom_view b)) xs ys) e in
    ap₂ (λ a more. a ∷ more) ((same_atom-Decides (atom_view x) (atom_view y)).0 h) (same-views xs ys k)

-- lists whose atoms are equal one by one stand for equal lists of atoms
pub atoms-same : (xs ys : List Atom) (b : Bool) → b ≡ pointwise (λ a b. same_atom (atom_view a) (atom_view b)) xs ys
    → b ≡ true → map atom_view xs ≡ map atom_view ys
atoms-same xs ys b e h = same-views xs ys (sym e ∙ h)
