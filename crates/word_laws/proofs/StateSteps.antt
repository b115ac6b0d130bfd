-- What one more character makes of a state is known of the state and the character's class, and so is the truth of
-- each atom.
use Rattle.std.proofs.Common.{◌≡◌, ℕ, suc, ◌+◌, ◌≤◌, ◌⊎◌, inl, inr, List, [], ◌∷◌, ◌++◌, Bool, true, false, ◌&&◌, Some, map, filter, length, nat_eq, nat_le, min, refl, ap, ap₂, sym, ◌∙◌, subst, eqb-true, eq-eqb, length-append, arith}
use Rattle.std.specs.List.{list_any}
use Rattle.std.proofs.lemmas.Bool.{and_parts, and_from, or_cases, or_left, le-leb, leb-true}
use Rattle.patterns.specs.CharSet.{has}
use Rattle.patterns.specs.Decision.{is_empty}
use Rattle.patterns.specs.Tree.{Tree}
use Rattle.word_states.specs.Atom.{Atom, Match, Words, LengthMin, same_word, is_true}
use Rattle.word_states.specs.Classes.{are_alike, divider_sets, dividers}
use Rattle.word_states.specs.Position.{sets_of}
use Rattle.word_states.specs.PatternState.{pattern_state}
use Rattle.word_states.specs.WordState.{is_prefix, matching, begun, atom_state, least_length, greatest_least, word_state}
use Rattle.word_states.specs.Rows.{signature_of}
use Rattle.state_laws.proofs.Alike.{same_state_of_same, same_truth_of_same}
use Rattle.word_laws.proofs.Mentions as M
use Rattle.list_laws.proofs.Lists.{in_flat_map, in_map, filter_head, filter_none}
use Rattle.list_laws.specs.In.{IsIn}
use Rattle.word_laws.proofs.Classes.{alike_at, alike_parts, alike_laws}
use Rattle.word_laws.proofs.States.{word_decides, word_laws, whole_state}
use Rattle.state_laws.proofs.States.{not_empty}

-- ---- listed words that a word begins
pub shorter_prefix : (v : List ℕ) (c : ℕ) (x : List ℕ) → is_prefix (v ++ c ∷ []) x ≡ true → is_prefix v x ≡ true
shorter_prefix [] c x e = refl
shorter_prefix (a ∷ v) c [] e = cc e
shorter_prefix (a ∷ v) c (b ∷ x) e =
    let (f, g) = and_parts (nat_eq a b) (is_prefix (v ++ c ∷ []) x) e in
    and_from (nat_eq a b) (is_prefix v x) f (shorter_prefix v c x g)

letter_in : (v : List ℕ) (c : ℕ) (x : List ℕ) → is_prefix (v ++ c ∷ []) x ≡ true → IsIn c x
letter_in [] c [] e = cc e
letter_in [] c (b ∷ x) e = let (f, g) = and_parts (nat_eq c b) true e in inl (eqb-true c b f)
letter_in (a ∷ v) c [] e = cc e
letter_in (a ∷ v) c (b ∷ x) e =
    let (f, g) = and_parts (nat_eq a b) (is_prefix (v ++ c ∷ []) x) e in inr (letter_in v c x g)

same_prefix : (v w x : List ℕ) → is_prefix v x ≡ true → is_prefix w x ≡ true → length v ≡ length w → v ≡ w
same_prefix [] [] x e f l = refl
same_prefix [] (b ∷ w) x e f l = absurd (let q : 0 ≡ suc (length w) = l in omega (arith, q))
same_prefix (a ∷ v) [] x e f l = absurd (let q : suc (length v) ≡ 0 = l in omega (arith, q))
same_prefix (a ∷ v) (b ∷ w) [] e f l = cc e
same_prefix (a ∷ v) (b ∷ w) (y ∷ x) e f l =
    let (g, h) = and_parts (nat_eq a y) (is_prefix v x) e in
    let (i, j) = and_parts (nat_eq b y) (is_prefix w x) f in
    ap₂ (λ c u. c ∷ u) (eqb-true a y g ∙ sym (eqb-true b y i))
    (same_prefix v w x h j (let q : suc (length v) ≡ suc (length w) = l in omega (arith, q)))

pub whole_prefix : (v : List ℕ) → is_prefix v v ≡ true
whole_prefix [] = refl
whole_prefix (a ∷ v) = and_from (nat_eq a a) (is_prefix v v) (eq-eqb a a refl) (whole_prefix v)

-- where the parts of two words are equal, no listed word begins with either, or the words are equal
pub begun_cases : (ws : List (List ℕ)) (v w : List ℕ) → atom_state v (Words ws) ≡ atom_state w (Words ws)
    → ((filter (is_prefix v) ws ≡ []) × (filter (is_prefix w) ws ≡ [])) ⊎ (v ≡ w)
begun_cases ws v w e = go (filter (is_prefix v) ws) (filter (is_prefix w) ws) refl refl e where
  go : (xs ys : List (List ℕ)) → filter (is_prefix v) ws ≡ xs → filter (is_prefix w) ws ≡ ys → begun xs v ≡ begun ys w
      → ((filter (is_prefix v) ws ≡ []) × (filter (is_prefix w) ws ≡ [])) ⊎ (v ≡ w)
  go [] [] f g h = inl (f, g)
  go [] (y ∷ ys) f g h = absurd (let q : [] ≡ y ∷ ys = cc h in cc q)
  go (x ∷ xs) [] f g h = absurd (let q : x ∷ xs ≡ [] = cc h in cc q)
  go (x ∷ xs) (y ∷ ys) f g h =
      let p : x ≡ y = cc h in
      let q : Some (length v) ≡ Some (length w) = cc h in
      let l : length v ≡ length w = cc q in
      inr (same_prefix v w x (filter_head (is_prefix v) ws x xs f).0
      (subst (λ z. is_prefix w z ≡ true) (sym p) (filter_head (is_prefix w) ws y ys g).0) l)

none_longer : (ws : List (List ℕ)) (v : List ℕ) (c : ℕ) → filter (is_prefix v) ws ≡ []
    → filter (is_prefix (v ++ c ∷ [])) ws ≡ []
none_longer ws v c e = go (filter (is_prefix (v ++ c ∷ [])) ws) refl where
  go : (xs : List (List ℕ)) → filter (is_prefix (v ++ c ∷ [])) ws ≡ xs → xs ≡ []
  go [] f = refl
  go (x ∷ xs) f =
      let (t, i) = filter_head (is_prefix (v ++ c ∷ [])) ws x xs f in
      absurd (filter_none (is_prefix v) ws x e i (shorter_prefix v c x t))

own_letter : (c : ℕ) → has ((c, c) ∷ []) c ≡ true
own_letter c =
    let l : nat_le c c ≡ true = le-leb c c (omega arith) in
    or_left (nat_le c c && nat_le c c) false (and_from (nat_le c c) (nat_le c c) l l)

one_letter : (c d : ℕ) → has ((c, c) ∷ []) d ≡ true → c ≡ d
one_letter c d e = elim (or_cases (nat_le c d && nat_le d c) false e) [
  | inl t ↦
      let (a, b) = and_parts (nat_le c d) (nat_le d c) t in
      let l : c ≤ d = leb-true c d a in
      let m : d ≤ c = leb-true d c b in
      omega arith
  | inr f ↦ cc f
]

-- only a letter is like a letter
alike_letter : (ws : List (List ℕ)) (x : List ℕ) (c d : ℕ) → IsIn x ws → IsIn c x
    → are_alike (divider_sets (Words ws)) c d ≡ true → c ≡ d
alike_letter ws x c d i j e =
    let s : IsIn ((c, c) ∷ []) (divider_sets (Words ws)) =
    in_flat_map (map (λ c. (c, c) ∷ [])) ((c, c) ∷ []) x ws i (in_map (λ c. (c, c) ∷ []) c x j) in
    let h : has ((c, c) ∷ []) c ≡ has ((c, c) ∷ []) d = alike_at (divider_sets (Words ws)) c d ((c, c) ∷ []) e s in
    one_letter c d (sym h ∙ own_letter c)

words_next : (ws : List (List ℕ)) (v w : List ℕ) (c d : ℕ) → atom_state v (Words ws) ≡ atom_state w (Words ws)
    → are_alike (divider_sets (Words ws)) c d ≡ true → atom_state (v ++ c ∷ []) (Words ws) ≡ atom_state (w ++ d ∷ [])
    (Words ws)
words_next ws v w c d e k = from (begun_cases ws v w e) where
  same : (xs ys : List (List ℕ)) → filter (is_prefix (v ++ c ∷ [])) ws ≡ xs → filter (is_prefix (v ++ d ∷ [])) ws ≡ ys
      → atom_state (v ++ c ∷ []) (Words ws) ≡ atom_state (v ++ d ∷ []) (Words ws)
  same [] [] f g = ap (λ z. begun z (v ++ c ∷ [])) f ∙ sym (ap (λ z. begun z (v ++ d ∷ [])) g)
  same (x ∷ xs) ys f g =
      let (t, i) = filter_head (is_prefix (v ++ c ∷ [])) ws x xs f in
      ap (λ z. atom_state (v ++ z ∷ []) (Words ws)) (alike_letter ws x c d i (letter_in v c x t) k)
  same [] (y ∷ ys) f g =
      let (t, i) = filter_head (is_prefix (v ++ d ∷ [])) ws y ys g in
      let turned : are_alike (divider_sets (Words ws)) d c ≡ true = (alike_laws (divider_sets (Words ws))).symm d c
      ∙ k in
      ap (λ z. atom_state (v ++ z ∷ []) (Words ws)) (sym (alike_letter ws y d c i (letter_in v d y t) turned))

  from : ((filter (is_prefix v) ws ≡ []) × (filter (is_prefix w) ws ≡ [])) ⊎ (v ≡ w)
      → atom_state (v ++ c ∷ []) (Words ws) ≡ atom_state (w ++ d ∷ []) (Words ws)
  from (inl (a, b)) =
      ap (λ z. begun z (v ++ c ∷ [])) (none_longer ws v c a) ∙ sym
      (ap (λ z. begun z (w ++ d ∷ [])) (none_longer ws w d b))
  from (inr q) =
      same (filter (is_prefix (v ++ c ∷ [])) ws) (filter (is_prefix (v ++ d ∷ [])) ws) refl refl
      ∙ ap (λ z. atom_state (z ++ d ∷ []) (Words ws)) q

words_truth : (ws : List (List ℕ)) (v w : List ℕ) → atom_state v (Words ws) ≡ atom_state w (Words ws)
    → is_true (Words ws) v ≡ is_true (Words ws) w
words_truth ws v w e = from (begun_cases ws v w e) where
  unlisted : (v : List ℕ) → filter (is_prefix v) ws ≡ [] → list_any (same_word v) ws ≡ false
  unlisted v f = go (list_any (same_word v) ws) refl where
    go : (b : Bool) → list_any (same_word v) ws ≡ b → b ≡ false
    go true t =
        let (x, i, s) = M.in_has same_word word_laws v ws t in
        absurd (filter_none (is_prefix v) ws x f i (subst (λ z. is_prefix v z ≡ true) ((word_decides v x).0 s)
        (whole_prefix v)))
    go false t = refl

  from : ((filter (is_prefix v) ws ≡ []) × (filter (is_prefix w) ws ≡ [])) ⊎ (v ≡ w)
      → is_true (Words ws) v ≡ is_true (Words ws) w
  from (inl (a, b)) = unlisted v a ∙ sym (unlisted w b)
  from (inr q) = ap (λ z. is_true (Words ws) z) q

-- ---- lengths, cut where no greater one is required
length_next : (v w : List ℕ) (c d g : ℕ) → min (length v) g ≡ min (length w) g
    → min (length (v ++ c ∷ [])) g ≡ min (length (w ++ d ∷ [])) g
length_next v w c d g e =
    let a : length (v ++ c ∷ []) ≡ length v + 1 = length-append v (c ∷ []) in
    let b : length (w ++ d ∷ []) ≡ length w + 1 = length-append w (d ∷ []) in
    rw (a, b) (omega (arith, e))

length_truth : (m n k g : ℕ) → k ≤ g → min m g ≡ min n g → nat_le k m ≡ nat_le k n
length_truth m n k g l e = grind (arith, l, e)

-- ---- all atoms at once
pattern_next : (t : Tree) (v w : List ℕ) (c d : ℕ) → is_empty v ≡ is_empty w → pattern_state t v ≡ pattern_state t w
    → are_alike (sets_of t) c d ≡ true → pattern_state t (v ++ c ∷ []) ≡ pattern_state t (w ++ d ∷ [])
pattern_next t v w c d n e k = same_state_of_same t v w c d n e (λ s i. alike_at (sets_of t) c d s k i)

atom_next : (a : Atom) (v w : List ℕ) (c d : ℕ) → is_empty v ≡ is_empty w → atom_state v a ≡ atom_state w a
    → are_alike (divider_sets a) c d ≡ true → atom_state (v ++ c ∷ []) a ≡ atom_state (w ++ d ∷ []) a
atom_next (Match t) v w c d n e k = ap matching (pattern_next t v w c d n (cc e) k)
atom_next (Words ws) v w c d n e k = words_next ws v w c d e k
atom_next (LengthMin m) v w c d n e k = refl

atoms_next : (atoms : List Atom) (v w : List ℕ) (c d : ℕ) → is_empty v ≡ is_empty w
    → map (atom_state v) atoms ≡ map (atom_state w) atoms
    → are_alike (dividers atoms) c d ≡ true → map (atom_state (v ++ c ∷ [])) atoms ≡ map
    (atom_state (w ++ d ∷ [])) atoms
atoms_next [] v w c d n e k = refl
atoms_next (a ∷ atoms) v w c d n e k =
    let (f, g) = alike_parts (divider_sets a) (dividers atoms) c d k in
    ap₂ (λ x xs. x ∷ xs) (atom_next a v w c d n (cc e) f) (atoms_next atoms v w c d n (cc e) g)

-- the state after one more character is known of the state and the character's class
pub state_next : (atoms : List Atom) (v w : List ℕ) (c d : ℕ) → word_state atoms v ≡ word_state atoms w
    → are_alike (dividers atoms) c d ≡ true → word_state atoms (v ++ c ∷ []) ≡ word_state atoms (w ++ d ∷ [])
state_next atoms v w c d e k =
    let n : is_empty v ≡ is_empty w = ap (λ s. s.is_empty) e in
    whole_state (word_state atoms (v ++ c ∷ [])) (word_state atoms (w ++ d ∷ []))
    (not_empty v c ∙ sym (not_empty w d))
    (atoms_next atoms v w c d n (ap (λ s. s.parts) e) k)
    (length_next v w c d (greatest_least atoms) (ap (λ s. s.length) e))

atoms_truth : (atoms : List Atom) (g : ℕ) (v w : List ℕ) → greatest_least atoms ≤ g → is_empty v ≡ is_empty w
    → map (atom_state v) atoms ≡ map (atom_state w) atoms → min (length v) g ≡ min (length w) g
    → signature_of atoms v ≡ signature_of atoms w
atoms_truth [] g v w l n e m = refl
atoms_truth (a ∷ atoms) g v w l n e m =
    ap₂ (λ x xs. x ∷ xs) (one a (cc e) (omega (arith, l))) (atoms_truth atoms g v w (omega (arith, l)) n (cc e) m) where
      one : (a : Atom) → atom_state v a ≡ atom_state w a → least_length a ≤ g → is_true a v ≡ is_true a w
      one (Match t) f k = same_truth_of_same t v w n (cc f)
      one (Words ws) f k = words_truth ws v w f
      one (LengthMin j) f k = length_truth (length v) (length w) j g k m

-- equal states have equal truths of all atoms
pub state_truth : (atoms : List Atom) (v w : List ℕ) → word_state atoms v ≡ word_state atoms w
    → signature_of atoms v ≡ signature_of atoms w
state_truth atoms v w e =
    atoms_truth atoms (greatest_least atoms) v w (omega arith) (ap (λ s. s.is_empty) e) (ap (λ s. s.parts) e)
    (ap (λ s. s.length) e)
