-- The keys of a set of atoms, as atoms.
use Rattle.std.proofs.Common.{◌≡◌, Bool, true, false, ◌||◌, if◌then◌else◌, List, [], ◌∷◌, ◌++◌, map, refl, ap, ◌∙◌}
use Rattle.std.specs.List.{list_any}
use Rattle.std.proofs.lemmas.List.{map-append}
use Rattle.indexmap.specs.IndexSet.{insert_key}
use Rattle.word_states.specs.Mention.{mention}
use Rattle.word_states.specs.SameAtom.{same_atom}
use Rattle.js_nfa.specs.AtomView.{atom_view}
use Rattle.js_nfa.specs.declared.atom.Atom.{Atom}

abbrev pub same_key : Atom → Atom → Bool
same_key a b = same_atom (atom_view a) (atom_view b)

any_views : (a : Atom) (ks : List Atom)
    → list_any (same_key a) ks ≡ list_any (same_atom (atom_view a)) (map atom_view ks)
any_views a [] = refl
any_views a (k ∷ ks) = ap (λ y. same_atom (atom_view a) (atom_view k) || y) (any_views a ks)

-- to insert a key among atoms is to mention its atom
pub keys_views : (a : Atom) (ks : List Atom)
    → map atom_view (insert_key same_key ks a) ≡ mention same_atom (map atom_view ks) (atom_view a)
keys_views a ks =
    go (list_any (same_key a) ks)
    ∙ ap (λ b. if b then map atom_view ks else map atom_view ks ++ atom_view a ∷ []) (any_views a ks) where
      go : (b : Bool) → map atom_view (if b then ks else ks ++ a ∷ [])
          ≡ (if b then map atom_view ks else map atom_view ks
          ++ atom_view a ∷ [])
      go true = refl
      go false = map-append atom_view ks (a ∷ [])
