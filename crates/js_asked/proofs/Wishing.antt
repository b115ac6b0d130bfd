-- One more required truth.
use Rattle.std.proofs.Common.{◌≡◌, ℕ, ◌<◌, Bool, true, false, ◌&&◌, if◌then◌else◌, nat_lt, List, [], ◌∷◌, ◌++◌, map, length, get_or, Some, slice_get, refl, ap, ap₂, sym, ◌∙◌, append-nil, length-append, arith}
use Rattle.std.specs.Bool.{beq}
use Rattle.std.specs.List.{list_any}
use Rattle.std.proofs.lemmas.Bool.{and_parts, and_from, lt-ltb, ltb-true}
use Rattle.std.proofs.lemmas.List.{length-map, map-append, get_or_append_left, get_or-map}
use Rattle.std.proofs.lemmas.Option.{get_or_from_slice_get, slice_get_within}
use Rattle.indexmap.specs.IndexSet.{insert_key}
use Rattle.documents.specs.Tests.{every}
use Rattle.word_states.specs.Atom as W
use Rattle.word_states.specs.Atom.{is_true}
use Rattle.word_states.specs.Mention.{mention}
use Rattle.word_states.specs.SameAtom.{same_atom}
use Rattle.state_laws.proofs.SameAtoms.{same_atom-Decides}
use Rattle.js_nfa.specs.AtomView.{atom_view}
use Rattle.js_nfa.specs.declared.atom.Atom.{Atom}
use Rattle.js_said.proofs.AtomKeys.{same_key, keys_views}
use Rattle.js_asked.specs.declared.wish.Wish.{Wish}
use Rattle.js_asked.specs.Wishes.{are_within, is_met, are_met}
use Rattle.std.proofs.Math.Bool.{and-true}

keys_grow : (a : Atom) (ks : List Atom) → (X : List Atom) × (insert_key same_key ks a ≡ ks ++ X)
keys_grow a ks = go (list_any (same_key a) ks) where
  go : (b : Bool) → (X : List Atom) × ((if b then ks else ks ++ a ∷ []) ≡ ks ++ X)
  go true = ([], sym (append-nil ks))
  go false = (a ∷ [], refl)

every_end : {A : Type 0} (p : A → Bool) (xs : List A) (x : A) → every p (xs ++ x ∷ []) ≡ (every p xs && p x)
every_end p [] x = and-true (p x)
every_end p (y ∷ xs) x = ap (λ b. p y && b) (every_end p xs x) ∙ sym (assoc (p y) (every p xs) (p x)) where
  assoc : (a b c : Bool) → (a && b && c) ≡ (a && (b && c))
  assoc true b c = refl
  assoc false b c = refl

-- with further atoms the same is required
met_more : (ks X : List Atom) (ws : List Wish) (w : List ℕ) → are_within ks ws ≡ true
    → are_met (map atom_view (ks ++ X)) ws w ≡ are_met (map atom_view ks) ws w
met_more ks X [] w h = refl
met_more ks X (x ∷ ws) w h =
    let (a, b) = and_parts (nat_lt x.atom (length ks)) (are_within ks ws) h in
    let l = ltb-true x.atom (length ks) a in
    let m : x.atom < length (map atom_view ks) = (let e = length-map ks atom_view in omega (arith, l, e)) in
    let g : get_or (map atom_view (ks ++ X)) x.atom (W.LengthMin 0) ≡ get_or (map atom_view ks) x.atom (W.LengthMin 0) =
    ap (λ z. get_or z x.atom (W.LengthMin 0)) (map-append atom_view ks X)
    ∙ get_or_append_left (map atom_view ks) (map atom_view X) (W.LengthMin 0) x.atom m in
    ap₂ (λ t r. beq (is_true t w) x.truth && r) g (met_more ks X ws w b)

within_more : (ks X : List Atom) (ws : List Wish) → are_within ks ws ≡ true → are_within (ks ++ X) ws ≡ true
within_more ks X [] h = refl
within_more ks X (x ∷ ws) h =
    let (a, b) = and_parts (nat_lt x.atom (length ks)) (are_within ks ws) h in
    let l = ltb-true x.atom (length ks) a in
    let n = length-append ks X in
    and_from (nat_lt x.atom (length (ks ++ X))) (are_within (ks ++ X) ws)
    (lt-ltb x.atom (length (ks ++ X)) (omega (arith, l, n))) (within_more ks X ws b)

module _ (ks new : List Atom) (ws more : List Wish) (a : Atom) (x : Wish)
    (keys : new ≡ insert_key same_key ks a) (wishes : more ≡ ws ++ x ∷ []) (within : are_within ks ws ≡ true)
    (stored : (k : Atom) × (slice_get new x.atom ≡ Some k) × (same_key a k ≡ true)) where
  place : x.atom < length new
  place = slice_get_within new x.atom stored.0 stored.1

  pub wished_within : are_within new more ≡ true
  wished_within =
      let (X, p) = keys_grow a ks in
      ap (are_within new) wishes
      ∙ every_end (λ y. nat_lt y.atom (length new)) ws x
      ∙ and_from (are_within new ws) (nat_lt x.atom (length new))
      (ap (λ z. are_within z ws) (keys ∙ p) ∙ within_more ks X ws within)
      (lt-ltb x.atom (length new) place)

  pub wished_atoms : map atom_view new ≡ mention same_atom (map atom_view ks) (atom_view a)
  wished_atoms = ap (map atom_view) keys ∙ keys_views a ks

  atom_there : get_or (map atom_view new) x.atom (W.LengthMin 0) ≡ atom_view a
  atom_there =
      get_or-map atom_view new x.atom a (W.LengthMin 0) place
      ∙ ap atom_view (get_or_from_slice_get new x.atom stored.0 a stored.1)
      ∙ sym ((same_atom-Decides (atom_view a) (atom_view stored.0)).0 stored.2)

  pub wished_words : (w : List ℕ)
      → are_met (map atom_view new) more w ≡ (are_met (map atom_view ks) ws w && beq (is_true (atom_view a) w) x.truth)
  wished_words w =
      let (X, p) = keys_grow a ks in
      ap (λ z. are_met (map atom_view new) z w) wishes
      ∙ every_end (is_met (map atom_view new) w) ws x
      ∙ ap₂ (λ r t. r && beq (is_true t w) x.truth)
      (ap (λ z. are_met (map atom_view z) ws w) (keys ∙ p) ∙ met_more ks X ws w within) atom_there

-- whether the wish is stored or not
pub wished_either : (ks new : List Atom) (ws more : List Wish) (a : Atom) (x : Wish) (b : Bool)
    → new ≡ insert_key same_key ks a → more ≡ (if b then ws ++ x ∷ [] else ws) → are_within ks ws ≡ true
    → (k : Atom) × (slice_get new x.atom ≡ Some k) × (same_key a k ≡ true)
    → are_within new more ≡ true
wished_either ks new ws more a x true keys wishes within stored =
    wished_within ks new ws more a x keys wishes within stored
wished_either ks new ws more a x false keys wishes within stored =
    let (X, p) = keys_grow a ks in
    ap₂ are_within (keys ∙ p) wishes ∙ within_more ks X ws within
