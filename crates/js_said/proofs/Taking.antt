-- Atoms that are taken get numbers, and keep them.
use Rattle.std.proofs.Common.{◌≡◌, ℕ, suc, ◌+◌, ◌<◌, Bool, true, nat_lt, List, [], ◌∷◌, ◌++◌, map, flat_map, take, drop, drop-cons, length, get_or, Some, slice_get, refl, ap, ap₂, sym, ◌∙◌, subst, append-nil, append_assoc, length-append, arith}
use Rattle.std.proofs.Math.Seq.{take-suc}
use Rattle.std.proofs.lemmas.Bool.{and_parts, and_from, lt-ltb, ltb-true}
use Rattle.std.proofs.lemmas.List.{length-map, map-append, get_or_append_left, get_or-map}
use Rattle.std.proofs.lemmas.Simd.{map-map}
use Rattle.std.proofs.lemmas.Grind.{flat_map-append}
use Rattle.std.proofs.lemmas.Option.{get_or_from_slice_get, slice_get_within}
use Rattle.indexmap.specs.IndexSet.{insert_key}
use Rattle.documents.specs.Tests.{every}
use Rattle.list_laws.proofs.Every.{every_joined}
use Rattle.word_states.specs.Atom as W
use Rattle.word_states.specs.Mention.{mention, mention_all}
use Rattle.word_states.specs.SameAtom.{same_atom}
use Rattle.state_laws.proofs.SameAtoms.{same_atom-Decides, same_atom_equiv}
use Rattle.word_laws.proofs.Mentions as M
use Rattle.positions.specs.Position.{Others}
use Rattle.name_truths.specs.NameAtoms.{set_atoms}
use Rattle.js_pattern.specs.View.{view}
use Rattle.js_algebra.specs.View.{pattern_view, name_set_view}
use Rattle.js_algebra.specs.declared.names.Pattern.{Pattern}
use Rattle.js_algebra.specs.declared.names.NameSet.{NameSet}
use Rattle.js_algebra.specs.declared.names.NameSet.TheVariants as E
use Rattle.js_nfa.specs.AtomView.{atom_view}
use Rattle.js_nfa.specs.declared.atom.Atom.{Atom}
use Rattle.js_said.specs.AtomNumbers.{atom_at, are_below, AreNumbers, Takes}
use Rattle.js_said.proofs.AtomKeys.{same_key, keys_views}

-- numbers stay where atoms are added

pub below_more : (A X : List W.Atom) (ks : List ℕ) → are_below A ks ≡ true → are_below (A ++ X) ks ≡ true
below_more A X [] h = refl
below_more A X (k ∷ ks) h =
    let (a, b) = and_parts (nat_lt k (length A)) (are_below A ks) h in
    let l = ltb-true k (length A) a in
    let n = length-append A X in
    and_from (nat_lt k (length (A ++ X))) (are_below (A ++ X) ks)
    (lt-ltb k (length (A ++ X)) (omega (arith, l, n))) (below_more A X ks b)

pub at_more : (A X : List W.Atom) (ks : List ℕ) → are_below A ks ≡ true
    → map (atom_at (A ++ X)) ks ≡ map (atom_at A) ks
at_more A X [] h = refl
at_more A X (k ∷ ks) h =
    let (a, b) = and_parts (nat_lt k (length A)) (are_below A ks) h in
    ap₂ (λ y ys. y ∷ ys) (get_or_append_left A X (W.LengthMin 0) k (ltb-true k (length A) a)) (at_more A X ks b)

pub numbers_more : (A X : List W.Atom) (ks : List ℕ) (xs : List W.Atom) → AreNumbers A ks xs
    → AreNumbers (A ++ X) ks xs
numbers_more A X ks xs n = record {
  below = below_more A X ks n.below;
  atoms = at_more A X ks n.below ∙ n.atoms;
}

-- one number more
numbers_push : (B : List W.Atom) (ks : List ℕ) (ys : List W.Atom) (i : ℕ) (a : W.Atom) → AreNumbers B ks ys
    → i < length B → atom_at B i ≡ a → AreNumbers B (ks ++ i ∷ []) (ys ++ a ∷ [])
numbers_push B ks ys i a n l e = record {
  below = every_joined (λ k. nat_lt k (length B)) ks (i ∷ []) n.below
      (and_from (nat_lt i (length B)) true (lt-ltb i (length B) l) refl);
  atoms = map-append (atom_at B) ks (i ∷ []) ∙ ap₂ (λ zs z. zs ++ z ∷ []) n.atoms e;
}

-- an atom is taken by a set of keys, and its number is added
pub taken_one : (ks new : List Atom) (ls more : List ℕ) (a : Atom) (i : ℕ) → new ≡ insert_key same_key ks a
    → more ≡ ls ++ i ∷ [] → (k : Atom) × (slice_get new i ≡ Some k) × (same_key a k ≡ true)
    → Takes (map atom_view ks) (map atom_view new) ls more (atom_view a ∷ [])
taken_one ks new ls more a i keys pushed stored = record {
  atoms = grown;
  numbers = λ ys n.
      subst (λ z. AreNumbers (map atom_view new) z (ys ++ atom_view a ∷ [])) (sym pushed)
      (numbers_push (map atom_view new) ls ys i (atom_view a) (kept ys n) within there);
} where
  grown : map atom_view new ≡ mention same_atom (map atom_view ks) (atom_view a)
  grown = ap (map atom_view) keys ∙ keys_views a ks

  kept : (ys : List W.Atom) → AreNumbers (map atom_view ks) ls ys → AreNumbers (map atom_view new) ls ys
  kept ys n =
      let (X, e) = M.mention_grows same_atom same_atom_equiv (map atom_view ks) (atom_view a) in
      subst (λ z. AreNumbers z ls ys) (sym (grown ∙ e)) (numbers_more (map atom_view ks) X ls ys n)

  within : i < length (map atom_view new)
  within = let l = slice_get_within new i stored.0 stored.1 in let e = length-map new atom_view in omega (arith, l, e)

  there : atom_at (map atom_view new) i ≡ atom_view a
  there =
      get_or-map atom_view new i a (W.LengthMin 0) (slice_get_within new i stored.0 stored.1)
      ∙ ap atom_view (get_or_from_slice_get new i stored.0 a stored.1)
      ∙ sym ((same_atom-Decides (atom_view a) (atom_view stored.0)).0 stored.2)

-- one after another

pub takes_none : (A : List W.Atom) (ks : List ℕ) → Takes A A ks ks []
takes_none A ks = record {
  atoms = refl;
  numbers = λ ys n. subst (λ z. AreNumbers A ks z) (sym (append-nil ys)) n;
}

pub takes_then : (A B C : List W.Atom) (ks ls ms : List ℕ) (xs ys : List W.Atom) → Takes A B ks ls xs
    → Takes B C ls ms ys → Takes A C ks ms (xs ++ ys)
takes_then A B C ks ls ms xs ys s t = record {
  atoms =
      t.atoms ∙ ap (λ z. mention_all same_atom z ys) s.atoms
      ∙ sym (M.mentions_append same_atom same_atom_equiv A xs ys);
  numbers = λ zs n.
      subst (λ z. AreNumbers C ms z) (append_assoc zs xs ys) (t.numbers (zs ++ xs) (s.numbers zs n));
}

take_more : {X Y : Type 0} (f : X → Y) (xs : List X) (i : ℕ) (d : X) → i < length xs
    → map f (take i xs) ++ f (get_or xs i d) ∷ [] ≡ map f (take (i + 1) xs)
take_more f xs i d l =
    let plus : i + 1 ≡ suc i = omega arith in
    sym (ap (λ n. map f (take n xs)) plus ∙ ap (map f) (take-suc xs i d l)
    ∙ map-append f (take i xs) (get_or xs i d ∷ []))

-- the next of a list
pub takes_next : {X : Type 0} (f : X → W.Atom) (A B C : List W.Atom) (ks ls ms : List ℕ) (xs : List X) (i : ℕ) (x : X)
    → i < length xs → x ≡ get_or xs i x → Takes A B ks ls (map f (take i xs)) → Takes B C ls ms (f x ∷ [])
    → Takes A C ks ms (map f (take (i + 1) xs))
takes_next f A B C ks ls ms xs i x l e s t =
    subst (λ z. Takes A C ks ms z) (ap (λ z. map f (take i xs) ++ f z ∷ []) e ∙ take_more f xs i x l)
    (takes_then A B C ks ls ms (map f (take i xs)) (f x ∷ []) s t)

-- numbers of atoms that are taken where there were none
pub taken_all : (A B : List W.Atom) (ks ls : List ℕ) (xs : List W.Atom) → ks ≡ [] → Takes A B ks ls xs
    → AreNumbers B ls xs
taken_all A B ks ls xs e t =
    t.numbers [] (subst (λ z. AreNumbers A z []) (sym e) (record { below = refl; atoms = refl }))

-- the leaf after some others
pub leaves_next : {X : Type 0} (f : ℕ → List W.Atom) (g : X → ℕ) (A B C : List W.Atom) (ks ls ms : List ℕ)
    (xs : List X) (i : ℕ) (d : X) (a : W.Atom) → i < length xs → f (g (get_or xs i d)) ≡ a ∷ []
    → Takes A B ks ls (flat_map f (map g (take i xs))) → Takes B C ls ms (a ∷ [])
    → Takes A C ks ms (flat_map f (map g (take (i + 1) xs)))
leaves_next f g A B C ks ls ms xs i d a l own s t =
    let before = map g (take i xs) in
    let grown : flat_map f before ++ a ∷ [] ≡ flat_map f (map g (take (i + 1) xs)) =
    ap (λ z. flat_map f before ++ z) (sym (append-nil (f (g (get_or xs i d))) ∙ own))
    ∙ sym (flat_map-append f before (g (get_or xs i d) ∷ []))
    ∙ ap (flat_map f) (take_more g xs i d l) in
    subst (λ z. Takes A C ks ms z) grown (takes_then A B C ks ls ms (flat_map f before) (a ∷ []) s t)

-- what holds of all that are left holds of those after the next
pub every_later : {X : Type 0} (p : ℕ → Bool) (g : X → ℕ) (xs : List X) (i : ℕ) (d : X) → i < length xs
    → every p (map g (drop i xs)) ≡ true → every p (map g (drop (i + 1) xs)) ≡ true
every_later p g xs i d l h =
    let plus : suc i ≡ i + 1 = omega arith in
    subst (λ n. every p (map g (drop n xs)) ≡ true) plus
    (and_parts (p (g (get_or xs i d))) (every p (map g (drop (suc i) xs)))
    (subst (λ z. every p (map g z) ≡ true) (drop-cons xs i d l) h)).1

pub others_taken : (A B C : List W.Atom) (ks ls ms : List ℕ) (ns : List (List ℕ)) (rs : List Pattern)
    → Takes A B ks ls (map (λ n. W.Words (n ∷ [])) ns) → Takes B C ls ms (map (λ r. W.Match (view r.re)) rs)
    → Takes A C ks ms (set_atoms (Others ns (map pattern_view rs)))
others_taken A B C ks ls ms ns rs s t =
    subst (λ z. Takes A C ks ms (map (λ n. W.Words (n ∷ [])) ns ++ z))
    (sym (map-map (λ r. W.Match r.tree) pattern_view rs))
    (takes_then A B C ks ls ms (map (λ n. W.Words (n ∷ [])) ns) (map (λ r. W.Match (view r.re)) rs) s t)

pub takes_of : (A C : List W.Atom) (ks ms : List ℕ) (s : NameSet) (ns : List (List ℕ)) (rs : List Pattern)
    → s ≡ E.Others ns rs → Takes A C ks ms (set_atoms (Others ns (map pattern_view rs)))
    → Takes A C ks ms (set_atoms (name_set_view s))
takes_of A C ks ms s ns rs e t = subst (λ z. Takes A C ks ms (set_atoms (name_set_view z))) (sym e) t
