-- Listed words in the states of words: the node of a word determines what is kept of it for all lists of words, and
-- nothing else.
use Rattle.std.proofs.Common.{◌≡◌, ℕ, ◌⊎◌, inl, inr, true, ◌||◌, List, [], ◌∷◌, ◌++◌, Option, Some, None, map, filter, refl, sym, ◌∙◌, ap, ap₂, subst}
use Rattle.std.specs.List.{list_any}
use Rattle.std.proofs.lemmas.Bool.{eqb-true, eq-eqb}
use Rattle.std.specs.Cmp.{both_ways}
use Rattle.patterns.specs.Decision.{is_empty}
use Rattle.word_states.specs.Atom.{Atom, Match, Words, LengthMin, same_word}
use Rattle.word_states.specs.WordState.{is_prefix, begun, atom_state}
use Rattle.list_laws.proofs.Lists.{in_left, in_right, filter_head, filter_none}
use Rattle.list_laws.specs.In.{IsIn}
use Rattle.word_laws.proofs.States.{word_decides}
use Rattle.word_laws.proofs.StateSteps.{begun_cases, whole_prefix}
use Rattle.js_automaton.specs.Letters.{letters_of}
use Rattle.js_automaton.specs.Trie.{node_of, same_node, edges_of, listed}
use Rattle.js_automaton.proofs.TrieLemmas.{walk-one, prefix-has, has-prefix}

-- two words of one node are one, or have none
pub node-cases : (ws : List (List ℕ)) (v w : List ℕ) → node_of ws v ≡ node_of ws w
    → (v ≡ w) ⊎ ((node_of ws v ≡ None) × (node_of ws w ≡ None))
node-cases ws v w e = go (node_of ws v) refl where
  go : (o : Option ℕ) → node_of ws v ≡ o → (v ≡ w) ⊎ ((node_of ws v ≡ None) × (node_of ws w ≡ None))
  go None f = inr (f, sym e ∙ f)
  go (Some n) f = inl (walk-one (edges_of ws) v w n f (sym e ∙ f))

-- a word without a node begins none of the words
none-begun : (all ws : List (List ℕ)) (w : List ℕ) → node_of all w ≡ None → ((u : List ℕ) → IsIn u ws → IsIn u all)
    → filter (is_prefix w) ws ≡ []
none-begun all ws w e inside = go (filter (is_prefix w) ws) refl where
  go : (xs : List (List ℕ)) → filter (is_prefix w) ws ≡ xs → xs ≡ []
  go [] f = refl
  go (x ∷ xs) f =
      let (t, i) = filter_head (is_prefix w) ws x xs f in
      let (m, h) = prefix-has all x w (inside x i) t in
      let q : None ≡ Some m = sym e ∙ h in cc q

-- words of one node have one part for each list
pub node-words : (all ws : List (List ℕ)) (v w : List ℕ) → node_of all v ≡ node_of all w
    → ((u : List ℕ) → IsIn u ws → IsIn u all) → atom_state v (Words ws) ≡ atom_state w (Words ws)
node-words all ws v w e inside = elim (node-cases all v w e) [
  | inl q ↦ ap (λ z. atom_state z (Words ws)) q
  | inr n ↦
      ap (λ z. begun z v) (none-begun all ws v n.0 inside)
      ∙ sym (ap (λ z. begun z w) (none-begun all ws w n.1 inside))
]

abbrev BeginNone : List (List ℕ) → List ℕ → List ℕ → Type 0
BeginNone ws v w = (u : List ℕ) → IsIn u ws → (is_prefix v u ≡ true → ⊥) × (is_prefix w u ≡ true → ⊥)

from-none : (ws : List (List ℕ)) (v w : List ℕ) → filter (is_prefix v) ws ≡ [] → filter (is_prefix w) ws ≡ []
    → BeginNone ws v w
from-none ws v w e f u i = (
  (λ t. filter_none (is_prefix v) ws u e i t),
  (λ t. filter_none (is_prefix w) ws u f i t),
)

join-none : (xs ys : List (List ℕ)) (v w : List ℕ) → BeginNone xs v w → BeginNone ys v w → BeginNone (xs ++ ys) v w
join-none [] ys v w a b z i = b z i
join-none (x ∷ xs) ys v w a b z (inl q) = a z (inl q)
join-none (x ∷ xs) ys v w a b z (inr i) = join-none xs ys v w (λ y j. a y (inr j)) b z i

-- words of one state are one, or begin no listed word
state-cases : (atoms : List Atom) (v w : List ℕ) → map (atom_state v) atoms ≡ map (atom_state w) atoms
    → (v ≡ w) ⊎ BeginNone (listed atoms) v w
state-cases [] v w e = inr (λ u i. absurd i)
state-cases (a ∷ atoms) v w e = by a (cc e) (state-cases atoms v w (cc e)) where
  by : (a : Atom) → atom_state v a ≡ atom_state w a → (v ≡ w) ⊎ BeginNone (listed atoms) v w
      → (v ≡ w) ⊎ BeginNone (listed (a ∷ atoms)) v w
  by (Match t) f h = h
  by (LengthMin n) f h = h
  by (Words ws) f (inl q) = inl q
  by (Words ws) f (inr h) = elim (begun_cases ws v w f) [
    | inl n ↦ inr (join-none ws (listed atoms) v w (from-none ws v w n.0 n.1) h)
    | inr q ↦ inl q
  ]

no-node : (ws : List (List ℕ)) (w : List ℕ) → ((u : List ℕ) → IsIn u ws → is_prefix w u ≡ true → ⊥)
    → (node_of ws w ≡ None) ⊎ (w ≡ [])
no-node ws w none = go (node_of ws w) refl where
  go : (o : Option ℕ) → node_of ws w ≡ o → (node_of ws w ≡ None) ⊎ (w ≡ [])
  go None f = inl f
  go (Some m) f = elim (has-prefix ws w m f) [
    | inl q ↦ inr q
    | inr h ↦ absurd (none h.0 h.1 h.2)
  ]

empty-is : (w : List ℕ) → is_empty w ≡ true → w ≡ []
empty-is [] e = refl
empty-is (c ∷ w) e = cc e

-- words of one state have one node
pub state-node : (atoms : List Atom) (v w : List ℕ) → is_empty v ≡ is_empty w
    → map (atom_state v) atoms ≡ map (atom_state w) atoms → node_of (listed atoms) v ≡ node_of (listed atoms) w
state-node atoms v w e f = elim (state-cases atoms v w f) [
  | inl q ↦ ap (node_of (listed atoms)) q
  | inr h ↦ elim (no-node (listed atoms) v (λ u i. (h u i).0)) [
    | inl a ↦ elim (no-node (listed atoms) w (λ u i. (h u i).1)) [
      | inl b ↦ a ∙ sym b
      | inr b ↦ ap (node_of (listed atoms)) (empty-is v (e ∙ ap is_empty b) ∙ sym b)
    ]
    | inr a ↦ ap (node_of (listed atoms)) (a ∙ sym (empty-is w (sym e ∙ ap is_empty a)))
  ]
]

-- the words of each list are listed
pub atom-listed : (atoms : List Atom) (a : Atom) (u : List ℕ) → IsIn a atoms → IsIn u (letters_of a)
    → IsIn u (listed atoms)
atom-listed [] a u i j = absurd i
atom-listed (b ∷ atoms) a u (inl q) j = in_left u (letters_of b) (listed atoms) (subst (λ z. IsIn u (letters_of z)) q j)
atom-listed (b ∷ atoms) a u (inr i) j = in_right u (letters_of b) (listed atoms) (atom-listed atoms a u i j)

-- a word of the node of another one is that one
pub node-same : (all : List (List ℕ)) (u w : List ℕ) → IsIn u all
    → same_node (node_of all u) (node_of all w) ≡ same_word w u
node-same all u w i = both_ways (same_node (node_of all u) (node_of all w)) (same_word w u) there back where
  there : same_node (node_of all u) (node_of all w) ≡ true → same_word w u ≡ true
  there e =
      let (m, f) = prefix-has all u u i (whole_prefix u) in go m f (node_of all w) refl
      (sym (ap (λ o. same_node o (node_of all w)) f) ∙ e) where
        go : (m : ℕ) → node_of all u ≡ Some m → (o : Option ℕ) → node_of all w ≡ o
            → same_node (Some m) (node_of all w) ≡ true
            → same_word w u ≡ true
        go m f None g h = let q = sym (ap (same_node (Some m)) g) ∙ h in cc q
        go m f (Some n) g h =
            let q : m ≡ n = eqb-true m n (sym (ap (same_node (Some m)) g) ∙ h) in
            (word_decides w u).1 (walk-one (edges_of all) w u n g (f ∙ ap Some q))

  back : same_word w u ≡ true → same_node (node_of all u) (node_of all w) ≡ true
  back e =
      let q : w ≡ u = (word_decides w u).0 e in
      let (m, f) = prefix-has all u u i (whole_prefix u) in
      ap₂ same_node f (ap (node_of all) q ∙ f) ∙ eq-eqb m m refl

pub node-any : (all ws : List (List ℕ)) (w : List ℕ) → ((u : List ℕ) → IsIn u ws → IsIn u all)
    → list_any (λ u. same_node (node_of all u) (node_of all w)) ws ≡ list_any (same_word w) ws
node-any all [] w inside = refl
node-any all (u ∷ ws) w inside =
    ap₂ (λ a b. a || b) (node-same all u w (inside u (inl refl))) (node-any all ws w (λ v i. inside v (inr i)))
