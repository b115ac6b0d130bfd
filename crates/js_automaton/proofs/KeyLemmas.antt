-- States as keys: for states of words the test of two states is that of the words' states.
use Rattle.std.proofs.Common.{◌≡◌, ℕ, ◌&&◌, List, [], ◌∷◌, Option, Some, None, map, nat_eq, Decides, refl, sym, ◌∙◌, ap, ap₂, eqb-true, eq-eqb}
use Rattle.std.specs.Bool.{beq}
use Rattle.std.specs.Cmp.{unsigned_Decides, both_ways}
use Rattle.std.specs.Cmp.Lexicographic.{pointwise}
use Rattle.std.specs.Option.{option_eq}
use Rattle.std.proofs.lemmas.Bool.{and_parts, and_from}
use Rattle.word_states.specs.Atom.{Atom, Match, Words, LengthMin}
use Rattle.word_states.specs.PatternState.{pattern_state}
use Rattle.word_states.specs.WordState.{atom_state, matching, word_state, have_same_state}
use Rattle.list_laws.proofs.Lists.{in_left, in_right}
use Rattle.list_laws.specs.In.{IsIn}
use Rattle.word_laws.proofs.States.{state_decides, whole_state}
use Rattle.js_nfa.specs.declared.state.PatternState as kept
use Rattle.js_nfa.specs.View.{state_view}
use Rattle.js_nfa.specs.StateLaws.{same_pattern_state-decides}
use Rattle.js_automaton.specs.declared.state.TupleState.{TupleState}
use Rattle.js_automaton.specs.Keys.{same_pattern, same_tuple}
use Rattle.js_automaton.specs.Trie.{node_of, listed}
use Rattle.js_automaton.specs.Tuple.{pattern_states, IsStateOf}
use Rattle.js_automaton.proofs.NodeLemmas.{node-words}
use Rattle.js_automaton.proofs.TupleLemmas.{state-same}
use Rattle.list_laws.proofs.Booleans.{beq-decides}

patterns-decide : (ps qs : List kept.PatternState)
    → Decides (pointwise same_pattern ps qs) (map state_view ps ≡ map state_view qs)
patterns-decide [] [] = ((λ e. refl), (λ e. refl))
patterns-decide [] (q ∷ qs) = ((λ e. cc e), (λ e. cc e))
patterns-decide (p ∷ ps) [] = ((λ e. cc e), (λ e. cc e))
patterns-decide (p ∷ ps) (q ∷ qs) =
    let d = same_pattern_state-decides (state_view p) (state_view q) in
    let r = patterns-decide ps qs in (
      (λ e.
          let (f, g) = and_parts (same_pattern p q) (pointwise same_pattern ps qs) e in
          ap₂ (λ s ss. s ∷ ss) (d.0 f) (r.0 g)),
      (λ e. and_from (same_pattern p q) (pointwise same_pattern ps qs) (d.1 (cc e)) (r.1 (cc e))),
    )

nodes-decide : (m n : Option ℕ) → Decides (option_eq nat_eq m n) (m ≡ n)
nodes-decide None None = ((λ e. refl), (λ e. refl))
nodes-decide None (Some n) = ((λ e. cc e), (λ e. cc e))
nodes-decide (Some m) None = ((λ e. cc e), (λ e. cc e))
nodes-decide (Some m) (Some n) = ((λ e. ap Some (eqb-true m n e)), (λ e. eq-eqb m n (cc e)))

-- the parts of words are determined by the patterns' states and the node
parts-same : (all : List (List ℕ)) (atoms : List Atom) (v w : List ℕ)
    → ((u : List ℕ) → IsIn u (listed atoms) → IsIn u all) → pattern_states atoms v ≡ pattern_states atoms w
    → node_of all v ≡ node_of all w → map (atom_state v) atoms ≡ map (atom_state w) atoms
parts-same all [] v w inside p n = refl
parts-same all (Match t ∷ atoms) v w inside p n =
    let q : pattern_state t v ≡ pattern_state t w = cc p in
    ap₂ (λ x xs. matching x ∷ xs) q (parts-same all atoms v w inside (cc p) n)
parts-same all (Words ws ∷ atoms) v w inside p n =
    ap₂ (λ x xs. x ∷ xs) (node-words all ws v w n (λ u i. inside u (in_left u ws (listed atoms) i)))
    (parts-same all atoms v w (λ u i. inside u (in_right u ws (listed atoms) i)) p n)
parts-same all (LengthMin m ∷ atoms) v w inside p n =
    ap (λ xs. atom_state w (LengthMin m) ∷ xs) (parts-same all atoms v w inside p n)

-- the test of two kept states decides whether the states of their words are equal
pub tuple-decides : (atoms : List Atom) (x y : TupleState) (v w : List ℕ) → IsStateOf atoms x v → IsStateOf atoms y w
    → Decides (same_tuple x y) (word_state atoms v ≡ word_state atoms w)
tuple-decides atoms x y v w h k =
    let b = beq-decides x.is_empty y.is_empty in
    let p = patterns-decide x.patterns.items y.patterns.items in
    let o = nodes-decide x.node y.node in
    let n = unsigned_Decides x.length y.length in
    let last = option_eq nat_eq x.node y.node && nat_eq x.length y.length in
    let rest = pointwise same_pattern x.patterns.items y.patterns.items && last in (
      (λ e.
          let (f, r) = and_parts (beq x.is_empty y.is_empty) rest e in
          let (g, l) = and_parts (pointwise same_pattern x.patterns.items y.patterns.items) last r in
          let (i, j) = and_parts (option_eq nat_eq x.node y.node) (nat_eq x.length y.length) l in
          whole_state (word_state atoms v) (word_state atoms w) (sym h.empty ∙ b.0 f ∙ k.empty)
          (parts-same (listed atoms) atoms v w (λ u i. i) (sym h.patterns ∙ p.0 g ∙ k.patterns)
          (sym h.node ∙ o.0 i ∙ k.node))
          (sym h.length ∙ n.0 j ∙ k.length)),
      (λ e.
          let m = state-same atoms x v w e h in
          and_from (beq x.is_empty y.is_empty) rest (b.1 (m.empty ∙ sym k.empty))
          (and_from (pointwise same_pattern x.patterns.items y.patterns.items) last (p.1 (m.patterns ∙ sym k.patterns))
          (and_from (option_eq nat_eq x.node y.node) (nat_eq x.length y.length) (o.1 (m.node ∙ sym k.node))
          (n.1 (m.length ∙ sym k.length))))),
    )

pub tuple-words : (atoms : List Atom) (x y : TupleState) (v w : List ℕ) → IsStateOf atoms x v → IsStateOf atoms y w
    → same_tuple x y ≡ have_same_state atoms v w
tuple-words atoms x y v w h k =
    let d = tuple-decides atoms x y v w h k in
    let s = state_decides (word_state atoms v) (word_state atoms w) in
    both_ways (same_tuple x y) (have_same_state atoms v w) (λ e. s.1 (d.0 e)) (λ e. d.1 (s.0 e))
