-- States of words for lists of atoms.
use Rattle.std.proofs.Common.{◌≡◌, ℕ, zero, suc, ◌+◌, ◌<◌, ◌≤◌, inl, inr, ◌||◌, min, Bool, true, false, List, [], ◌∷◌, ◌++◌, Option, Some, None, map, length, take, get_or, nat_le, refl, sym, ◌∙◌, ap, ap₂, subst, arith, length-append}
use Rattle.std.specs.List.{list_any}
use Rattle.std.specs.Option.{option_map_or}
use Rattle.std.proofs.lemmas.List.{take_more, take_all, map-append, get_or-map, length-map}
use Rattle.std.proofs.lemmas.Bool.{and_parts}
use Rattle.patterns.specs.CharSet.{is_scalar}
use Rattle.patterns.specs.Decision.{finds}
use Rattle.patterns.specs.Tree.{empty}
use Rattle.word_states.specs.Atom.{Atom, Match, Words, LengthMin, same_word, is_true}
use Rattle.word_states.specs.Classes.{are_alike, dividers, class_firsts, class_count, is_in_class}
use Rattle.word_states.specs.PatternState.{pattern_state}
use Rattle.word_states.specs.WordState.{atom_state, least_length, greatest_least, word_state}
use Rattle.state_laws.specs.Flow.{next_state, is_accepted}
use Rattle.state_laws.proofs.States.{state_goes_on, state_decides, not_empty}
use Rattle.list_laws.proofs.Lists.{get_or-in}
use Rattle.list_laws.specs.In.{IsIn}
use Rattle.word_laws.proofs.StateSteps.{state_next, whole_prefix}
use Rattle.js_nfa.specs.declared.nfa.Nfa.{Nfa}
use Rattle.js_nfa.specs.declared.state.PatternState as kept
use Rattle.js_nfa.specs.View.{tree_of, state_view}
use Rattle.js_nfa.specs.declared.atom.Atom as C
use Rattle.js_nfa.specs.AtomView.{atom_view}
use Rattle.js_automaton.specs.declared.classes.Class.{Class}
use Rattle.js_automaton.specs.declared.part.Part.{Part}
use Rattle.js_automaton.specs.declared.part.Part.TheVariants as P
use Rattle.js_automaton.specs.declared.state.TupleState.{TupleState}
use Rattle.js_automaton.specs.ClassView.{first_of}
use Rattle.js_automaton.specs.Letters.{letters_of}
use Rattle.js_automaton.specs.Parts.{part_view, atoms_made, are_placed}
use Rattle.js_automaton.specs.Trie.{same_edge, same_node, child_of, edges_of, node_of, listed, ends_at, AreEnds}
use Rattle.js_automaton.specs.Tuple.{pattern_states, IsStateOf}
use Rattle.word_states.specs.AtomPositions.{positions_of}
use Rattle.js_automaton.proofs.TrieLemmas.{walk-append, prefix-has}
use Rattle.js_automaton.proofs.NodeLemmas.{state-node, atom-listed, node-any}
use Rattle.js_automaton.proofs.PartLemmas.{patterns-made}

positions-cons : (a : Atom) (atoms : List Atom)
    → positions_of (a ∷ atoms) ≡ positions_of (a ∷ []) + positions_of atoms
positions-cons (Match t) atoms = omega arith
positions-cons (Words ws) atoms = omega arith
positions-cons (LengthMin n) atoms = omega arith

-- the patterns have no fewer positions than one of them
pub positions-one : (atoms : List C.Atom) (i : ℕ) (x : C.Atom) → i < length atoms → x ≡ get_or atoms i x
    → positions_of (atom_view x ∷ []) ≤ positions_of (map atom_view atoms)
positions-one [] i x l e = absurd (omega (arith, l))
positions-one (y ∷ atoms) zero x l e =
    let f = ap (λ z. positions_of (atom_view z ∷ [])) e in
    let g = positions-cons (atom_view y) (map atom_view atoms) in omega (arith, f, g)
positions-one (y ∷ atoms) (suc i) x l e =
    let f = positions-one atoms i x (omega (arith, l)) e in
    let g = positions-cons (atom_view y) (map atom_view atoms) in omega (arith, f, g)

pub atoms-next : (atoms : List C.Atom) (made : List Atom) (i : ℕ) (x : C.Atom) → i < length atoms → x ≡ get_or atoms i x
    → made ≡ map atom_view (take i atoms)
    → made ++ atom_view x ∷ [] ≡ map atom_view (take (i + 1) atoms)
atoms-next atoms made i x l at e =
    ap (λ xs. xs ++ atom_view x ∷ []) e
    ∙ sym (ap (map atom_view) (take_more atoms i x l ∙ ap (λ y. take i atoms ++ y ∷ []) (sym at))
    ∙ map-append atom_view (take i atoms) (x ∷ []))

pub atoms-all : (atoms : List C.Atom) (made : List Atom) (i : ℕ) → length atoms ≤ i
    → made ≡ map atom_view (take i atoms) → made ≡ map atom_view atoms
atoms-all atoms made i l e = e ∙ ap (map atom_view) (take_all i atoms l)

-- ---- states of patterns
-- the states of the first i patterns
abbrev pub AreStates : List Nfa → List kept.PatternState → List ℕ → ℕ → Type 0
AreStates ns states w i = map state_view states ≡ map (λ n. pattern_state (tree_of n) w) (take i ns)

pub states-step : (ns : List Nfa) (states : List kept.PatternState) (w : List ℕ) (i : ℕ) (n : Nfa)
    (s : kept.PatternState)
    → i < length ns → n ≡ get_or ns i n → state_view s ≡ pattern_state (tree_of n) w → AreStates ns states w i
    → AreStates ns (states ++ s ∷ []) w (i + 1)
states-step ns states w i n s l at e h =
    map-append state_view states (s ∷ []) ∙ ap₂ (λ xs x. xs ++ x ∷ []) h e
    ∙ sym (ap (map (λ n. pattern_state (tree_of n) w)) (take_more ns i n l ∙ ap (λ y. take i ns ++ y ∷ []) (sym at))
    ∙ map-append (λ n. pattern_state (tree_of n) w) (take i ns) (n ∷ []))

module _ (ns : List Nfa) (ps : List Part) (placed : are_placed 0 ps (length ns) ≡ true) where
  abbrev atoms : List Atom
  atoms = atoms_made ns ps

  pub states-all : (states : List kept.PatternState) (w : List ℕ) (i : ℕ) → length ns ≤ i → AreStates ns states w i
      → map state_view states ≡ pattern_states atoms w
  states-all states w i l h =
      h ∙ ap (map (λ n. pattern_state (tree_of n) w)) (take_all i ns l) ∙ sym (patterns-made ns ps w placed)

  states-of : (s : TupleState) (w : List ℕ) → IsStateOf atoms s w
      → map state_view s.patterns.items ≡ map (λ n. pattern_state (tree_of n) w) ns
  states-of s w h = h.patterns ∙ patterns-made ns ps w placed

  pub states-length : (s : TupleState) (w : List ℕ) → IsStateOf atoms s w → length s.patterns.items ≡ length ns
  states-length s w h =
      sym (length-map s.patterns.items state_view) ∙ ap length (states-of s w h)
      ∙ length-map ns (λ n. pattern_state (tree_of n) w)

  pub states-at : (s : TupleState) (w : List ℕ) (i : ℕ) (n : Nfa) (x : kept.PatternState) → IsStateOf atoms s w
      → i < length ns → n ≡ get_or ns i n → x ≡ get_or s.patterns.items i x
      → state_view x ≡ pattern_state (tree_of n) w
  states-at s w i n x h l at found =
      let long = states-length s w h in
      let d = pattern_state (tree_of n) w in
      ap state_view found ∙ sym (get_or-map state_view s.patterns.items i x d (omega (arith, l, long)))
      ∙ ap (λ xs. get_or xs i d) (states-of s w h)
      ∙ get_or-map (λ n. pattern_state (tree_of n) w) ns i n d l
      ∙ ap (λ m. pattern_state (tree_of m) w) (sym at)

  pub states-next : (s : TupleState) (w : List ℕ) (i : ℕ) (n : Nfa) (x new : kept.PatternState) (first : Bool) (c : ℕ)
      → IsStateOf atoms s w → i < length ns → n ≡ get_or ns i n → x ≡ get_or s.patterns.items i x
      → first ≡ s.is_empty → state_view new ≡ next_state (tree_of n) first c (state_view x)
      → state_view new ≡ pattern_state (tree_of n) (w ++ c ∷ [])
  states-next s w i n x new first c h l at found f e =
      e ∙ ap₂ (λ a b. next_state (tree_of n) a c b) (f ∙ h.empty) (states-at s w i n x h l at found)
      ∙ sym (state_goes_on (tree_of n) w c)

  -- ---- the truth of an atom
  pub accepted-finds : (s : TupleState) (w : List ℕ) (i : ℕ) (n : Nfa) (x : kept.PatternState) → IsStateOf atoms s w
      → i < length ns → n ≡ get_or ns i n → x ≡ get_or s.patterns.items i x
      → is_accepted (tree_of n) s.is_empty (state_view x) ≡ finds (tree_of n) w
  accepted-finds s w i n x h m found is =
      ap₂ (is_accepted (tree_of n)) h.empty (states-at s w i n x h m found is) ∙ sym (state_decides (tree_of n) w)

  pub atom-at : (k : ℕ) (p : Part) → k < length ps → p ≡ get_or ps k p
      → get_or atoms k (LengthMin 0) ≡ part_view (map tree_of ns) p
  atom-at k p l at =
      get_or-map (part_view (map tree_of ns)) ps k p (LengthMin 0) l ∙ ap (part_view (map tree_of ns)) (sym at)

  pub truth-match : (s : TupleState) (w : List ℕ) (k i : ℕ) (p : Part) (n : Nfa) (x : kept.PatternState) (b : Bool)
      → IsStateOf atoms s w → k < length ps → p ≡ get_or ps k p → p ≡ P.Match i → i < length ns
      → n ≡ get_or ns i n → x ≡ get_or s.patterns.items i x
      → b ≡ is_accepted (tree_of n) s.is_empty (state_view x) → b ≡ is_true (get_or atoms k (LengthMin 0)) w
  truth-match s w k i p n x b h l at q m found is e =
      let tree : get_or (map tree_of ns) i empty ≡ tree_of n =
      get_or-map tree_of ns i n empty m ∙ ap tree_of (sym found) in
      e ∙ accepted-finds s w i n x h m found is ∙ sym (ap (λ t. is_true (Match t) w) tree)
      ∙ sym (ap (λ a. is_true a w) (atom-at k p l at ∙ ap (part_view (map tree_of ns)) q))

  pub truth-length : (s : TupleState) (w : List ℕ) (k n : ℕ) (p : Part) (b : Bool) → IsStateOf atoms s w
      → k < length ps → p ≡ get_or ps k p → p ≡ P.Length n → b ≡ nat_le n s.length
      → b ≡ is_true (get_or atoms k (LengthMin 0)) w
  truth-length s w k n p b h l at q e =
      let a : get_or atoms k (LengthMin 0) ≡ LengthMin n = atom-at k p l at ∙ ap (part_view (map tree_of ns)) q in
      let g : least_length (get_or atoms k (LengthMin 0)) ≤ greatest_least atoms =
      least-within atoms k (LengthMin 0) (omega (arith, l, length-map ps (part_view (map tree_of ns)))) in
      e ∙ ap (nat_le n) h.length
      ∙ cut n (length w) (greatest_least atoms) (subst (λ z. least_length z ≤ greatest_least atoms) a g)
      ∙ sym (ap (λ a. is_true a w) a) where
        cut : (n m g : ℕ) → n ≤ g → nat_le n (min m g) ≡ nat_le n m
        cut n m g l = grind (arith, l)

        least-within : (atoms : List Atom) (k : ℕ) (a : Atom) → k < length atoms
            → least_length (get_or atoms k a) ≤ greatest_least atoms
        least-within [] k a l = absurd (omega (arith, l))
        least-within (b ∷ atoms) zero a l = omega arith
        least-within (b ∷ atoms) (suc k) a l =
            let less = least-within atoms k a (omega (arith, l)) in omega (arith, less)

  pub truth-words : (s : TupleState) (w : List ℕ) (k : ℕ) (ws : List (List ℕ)) (p : Part) (ends : List (ℕ × ℕ))
      (b : Bool)
      → IsStateOf atoms s w → k < length ps → p ≡ get_or ps k p → p ≡ P.Words ws → AreEnds atoms ends
      → b ≡ option_map_or (λ n. list_any (same_edge (n, k)) ends) s.node false
      → b ≡ is_true (get_or atoms k (LengthMin 0)) w
  truth-words s w k ws p ends b h l at q found e =
      let a : get_or atoms k (LengthMin 0) ≡ Words ws = atom-at k p l at ∙ ap (part_view (map tree_of ns)) q in
      let inside : (u : List ℕ) → IsIn u ws → IsIn u (listed atoms) =
      λ u i. atom-listed atoms (Words ws) u
      (subst (λ z. IsIn z atoms) a
      (get_or-in atoms k (LengthMin 0) (omega (arith, l, length-map ps (part_view (map tree_of ns)))))) i in
      e ∙ ap (λ o. option_map_or (λ n. list_any (same_edge (n, k)) ends) o false) h.node
      ∙ by (node_of (listed atoms) w) refl a inside ∙ sym (ap (λ a. is_true a w) a) where
        by : (o : Option ℕ) → node_of (listed atoms) w ≡ o → get_or atoms k (LengthMin 0) ≡ Words ws
            → ((u : List ℕ) → IsIn u ws → IsIn u (listed atoms))
            → option_map_or (λ n. list_any (same_edge (n, k)) ends) o false ≡ list_any (same_word w) ws
        by None f a inside = none ws inside where
          none : (ws : List (List ℕ)) → ((u : List ℕ) → IsIn u ws → IsIn u (listed atoms))
              → false ≡ list_any (same_word w) ws
          none ws inside = never ws (λ u i. prefix-has (listed atoms) u u (inside u i) (whole_prefix u))
              ∙ ap (λ o. list_any (λ u. same_node (node_of (listed atoms) u) o) ws) (sym f)
              ∙ node-any (listed atoms) ws w inside where
                never : (ws : List (List ℕ))
                    → ((u : List ℕ) → IsIn u ws → (m : ℕ) × (node_of (listed atoms) u ≡ Some m))
                    → false ≡ list_any (λ u. same_node (node_of (listed atoms) u) None) ws
                never [] h = refl
                never (u ∷ ws) h =
                    let (m, e) = h u (inl refl) in
                    never ws (λ v i. h v (inr i))
                    ∙ ap (λ o. same_node o None || list_any (λ u. same_node (node_of (listed atoms) u) None) ws) (sym e)
        by (Some n) f a inside =
            found n k ∙ ap (λ x. ends_at (listed atoms) (letters_of x) n) a
            ∙ ap (λ o. list_any (λ u. same_node (node_of (listed atoms) u) o) ws) (sym f)
            ∙ node-any (listed atoms) ws w inside

-- ---- words of one state
patterns-same : (atoms : List Atom) (v w : List ℕ) → map (atom_state v) atoms ≡ map (atom_state w) atoms
    → pattern_states atoms v ≡ pattern_states atoms w
patterns-same [] v w e = refl
patterns-same (Match t ∷ atoms) v w e =
    let q : pattern_state t v ≡ pattern_state t w = cc e in
    ap₂ (λ x xs. x ∷ xs) q (patterns-same atoms v w (cc e))
patterns-same (Words ws ∷ atoms) v w e = patterns-same atoms v w (cc e)
patterns-same (LengthMin n ∷ atoms) v w e = patterns-same atoms v w (cc e)

pub state-same : (atoms : List Atom) (s : TupleState) (v w : List ℕ) → word_state atoms v ≡ word_state atoms w
    → IsStateOf atoms s v → IsStateOf atoms s w
state-same atoms s v w e h = record {
  empty = h.empty ∙ ap (λ x. x.is_empty) e;
  patterns = h.patterns ∙ patterns-same atoms v w (ap (λ x. x.parts) e);
  node = h.node ∙ state-node atoms v w (ap (λ x. x.is_empty) e) (ap (λ x. x.parts) e);
  length = h.length ∙ ap (λ x. x.length) e;
}

pub step-done : (atoms : List Atom) (s made : TupleState) (first c : ℕ) (w : List ℕ) → IsStateOf atoms s w
    → false ≡ made.is_empty → map state_view made.patterns.items ≡ pattern_states atoms (w ++ first ∷ [])
    → made.node ≡ child_of (edges_of (listed atoms)) s.node first
    → made.length ≡ min (s.length + 1) (greatest_least atoms) → are_alike (dividers atoms) first c ≡ true
    → IsStateOf atoms made (w ++ c ∷ [])
step-done atoms s made first c w h e p n l a =
    state-same atoms made (w ++ first ∷ []) (w ++ c ∷ []) (state_next atoms w w first c refl a) (record {
      empty = sym e ∙ sym (not_empty w first);
      patterns = p;
      node =
          n ∙ ap (λ o. child_of (edges_of (listed atoms)) o first) h.node
          ∙ sym (walk-append (edges_of (listed atoms)) (Some 0) w (first ∷ []));
      length = omega (arith, l, h.length, length-append w (first ∷ []));
    })

-- the first character of a class is like each of it
pub first-alike : (atoms : List Atom) (classes : List Class) (k : ℕ) (x : Class) (d : ℕ)
    → map first_of classes ≡ class_firsts atoms → k < class_count atoms → x ≡ get_or classes k x
    → is_in_class atoms k d ≡ true → are_alike (dividers atoms) x.first d ≡ true
first-alike atoms classes k x d firsts within at member =
    let inside : k < length classes = omega (arith, within, ap (length {A = ℕ}) firsts, length-map classes first_of) in
    let first : x.first ≡ get_or (class_firsts atoms) k 0 =
    ap first_of at ∙ sym (get_or-map first_of classes k x 0 inside) ∙ ap (λ (l : List ℕ). get_or l k 0) firsts in
    ap (λ n. are_alike (dividers atoms) n d) first
    ∙ (and_parts (is_scalar d) (are_alike (dividers atoms) (get_or (class_firsts atoms) k 0) d) member).1
