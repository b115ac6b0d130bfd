-- The state of a word: the test of two states, what one more character makes of a state, and what a state determines.
use Rattle.std.proofs.Common.{◌≡◌, ℕ, List, ◌&&◌, Option, Some, None, Decides, nat_eq, refl, ap, ap₂, eqb-true, eq-eqb}
use Rattle.std.specs.Bool.{beq}
use Rattle.std.specs.Cmp.{IsEquivalence, decided, unsigned_Decides}
use Rattle.std.specs.Cmp.Lexicographic.{pointwise, pointwise_decides}
use Rattle.std.proofs.lemmas.Bool.{and_parts, and_from}
use Rattle.word_states.specs.Atom.{Atom, same_word}
use Rattle.word_states.specs.PatternState.{PatternState, done, reading}
use Rattle.word_states.specs.WordState.{AtomState, matching, beginning, counting, WordState, word_state, same_pattern_state, same_length, same_atom_state, same_state, have_same_state}
use Rattle.list_laws.proofs.Booleans.{beq-decides}

-- ---- the tests decide equality
pub word_decides : (v w : List ℕ) → Decides (same_word v w) (v ≡ w)
word_decides = pointwise_decides unsigned_Decides

pub word_laws : IsEquivalence same_word
word_laws = decided same_word word_decides

pattern_decides : (x y : PatternState) → Decides (same_pattern_state x y) (x ≡ y)
pattern_decides done done = ((λ e. refl), (λ e. refl))
pattern_decides done (reading qs) = ((λ e. cc e), (λ e. cc e))
pattern_decides (reading ps) done = ((λ e. cc e), (λ e. cc e))
pattern_decides (reading ps) (reading qs) =
    let d = word_decides ps qs in
    ((λ e. ap reading (d.0 e)), (λ e. d.1 (cc e)))

length_decides : (m n : Option ℕ) → Decides (same_length m n) (m ≡ n)
length_decides None None = ((λ e. refl), (λ e. refl))
length_decides None (Some n) = ((λ e. cc e), (λ e. cc e))
length_decides (Some m) None = ((λ e. cc e), (λ e. cc e))
length_decides (Some m) (Some n) = ((λ e. ap Some (eqb-true m n e)), (λ e. eq-eqb m n (cc e)))

part_decides : (x y : AtomState) → Decides (same_atom_state x y) (x ≡ y)
part_decides (matching x) (matching y) =
    let d = pattern_decides x y in
    ((λ e. ap matching (d.0 e)), (λ e. d.1 (cc e)))
part_decides (matching x) (beginning ws n) = ((λ e. cc e), (λ e. cc e))
part_decides (matching x) counting = ((λ e. cc e), (λ e. cc e))
part_decides (beginning vs m) (matching y) = ((λ e. cc e), (λ e. cc e))
part_decides (beginning vs m) (beginning ws n) =
    let d = pointwise_decides word_decides vs ws in
    let l = length_decides m n in (
      (λ e. let (a, b) = and_parts (pointwise same_word vs ws) (same_length m n) e in ap₂ beginning (d.0 a) (l.0 b)),
      (λ e. and_from (pointwise same_word vs ws) (same_length m n) (d.1 (cc e)) (l.1 (cc e))),
    )
part_decides (beginning vs m) counting = ((λ e. cc e), (λ e. cc e))
part_decides counting (matching y) = ((λ e. cc e), (λ e. cc e))
part_decides counting (beginning ws n) = ((λ e. cc e), (λ e. cc e))
part_decides counting counting = ((λ e. refl), (λ e. refl))

pub whole_state : (x y : WordState) → x.is_empty ≡ y.is_empty → x.parts ≡ y.parts → x.length ≡ y.length → x ≡ y
whole_state x y a b c = λ i. record { is_empty = a i; parts = b i; length = c i }

pub state_decides : (x y : WordState) → Decides (same_state x y) (x ≡ y)
state_decides x y =
    let b = beq-decides x.is_empty y.is_empty in
    let p = pointwise_decides part_decides x.parts y.parts in
    let n = unsigned_Decides x.length y.length in
    let front = beq x.is_empty y.is_empty && pointwise same_atom_state x.parts y.parts in (
      (λ e.
          let (f, k) = and_parts front (nat_eq x.length y.length) e in
          let (h, j) = and_parts (beq x.is_empty y.is_empty) (pointwise same_atom_state x.parts y.parts) f in
          whole_state x y (b.0 h) (p.0 j) (n.0 k)),
      (λ e. and_from front (nat_eq x.length y.length)
          (and_from (beq x.is_empty y.is_empty) (pointwise same_atom_state x.parts y.parts)
          (b.1 (ap (λ s. s.is_empty) e)) (p.1 (ap (λ s. s.parts) e)))
          (n.1 (ap (λ s. s.length) e))),
    )

-- having the same state is an equivalence of words
pub same_laws : (atoms : List Atom) → IsEquivalence (have_same_state atoms)
same_laws atoms =
    let laws = decided same_state state_decides in
    record {
      refl = λ v. laws.refl (word_state atoms v);
      symm = λ v w. laws.symm (word_state atoms v) (word_state atoms w);
      congr = λ u v w. laws.congr (word_state atoms u) (word_state atoms v) (word_state atoms w);
    }
