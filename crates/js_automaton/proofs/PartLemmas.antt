-- Parts and patterns: the parts of patterns have their places in order, so the patterns' states are those of the atoms.
use Rattle.std.proofs.Common.{◌≡◌, ℕ, zero, suc, ◌+◌, ◌<◌, ◌≤◌, true, nat_eq, List, [], ◌∷◌, ◌++◌, map, flat_map, length, drop, get_or, refl, sym, ◌∙◌, ap, ap₂, arith}
use Rattle.std.proofs.lemmas.Bool.{eqb-true, eq-eqb, and_parts, and_from}
use Rattle.std.proofs.lemmas.List.{map-append, length-map, get_or_append_left}
use Rattle.patterns.specs.Tree.{Tree, empty}
use Rattle.word_states.specs.Atom.{Match, Words, LengthMin}
use Rattle.word_states.specs.PatternState.{pattern_state}
use Rattle.std.proofs.Math.Seq.{get_or-append_seam}
use Rattle.js_nfa.specs.declared.nfa.Nfa.{Nfa}
use Rattle.js_nfa.specs.View.{tree_of}
use Rattle.js_automaton.specs.declared.part.Part.{Part}
use Rattle.js_automaton.specs.declared.part.Part.TheVariants as P
use Rattle.js_automaton.specs.Letters.{letters_of}
use Rattle.js_automaton.specs.Parts.{part_view, atoms_made, are_placed, part_words}
use Rattle.js_automaton.specs.Trie.{listed}
use Rattle.js_automaton.specs.Tuple.{pattern_states}
use Rattle.std.proofs.lemmas.Simd.{map-map}

-- ---- lists
pub drop_next : {A : Type 0} (i : ℕ) (xs : List A) (d : A) → i < length xs → drop i xs ≡ get_or xs i d ∷ drop (suc i) xs
drop_next i [] d l = absurd (omega (arith, l))
drop_next zero (x ∷ xs) d l = refl
drop_next (suc i) (x ∷ xs) d l = drop_next i xs d (omega (arith, l))

pub drop_more : {A : Type 0} (i : ℕ) (xs : List A) (x : A) → i < length xs → x ≡ get_or xs i x
    → drop i xs ≡ x ∷ drop (i + 1) xs
drop_more i xs x l e =
    let n : suc i ≡ i + 1 = omega arith in
    drop_next i xs x l ∙ ap₂ (λ y j. y ∷ drop j xs) (sym e) n

pub drop_past : {A : Type 0} (i : ℕ) (xs : List A) → length xs ≤ i → drop i xs ≡ []
drop_past zero [] l = refl
drop_past (suc i) [] l = refl
drop_past zero (x ∷ xs) l = absurd (omega (arith, l))
drop_past (suc i) (x ∷ xs) l = drop_past i xs (omega (arith, l))

-- ---- places
placed-le : (k : ℕ) (ps : List Part) (n : ℕ) → are_placed k ps n ≡ true → k ≤ n
placed-le k [] n e = let q = eqb-true k n e in omega (arith, q)
placed-le k (P.Match i ∷ ps) n e =
    let l = placed-le (suc k) ps n (and_parts (nat_eq i k) (are_placed (suc k) ps n) e).1 in omega (arith, l)
placed-le k (P.Words l ∷ ps) n e = placed-le k ps n e
placed-le k (P.Length m ∷ ps) n e = placed-le k ps n e

pub placed-match : (k : ℕ) (ps : List Part) (n : ℕ) → are_placed k ps n ≡ true
    → are_placed k (ps ++ P.Match n ∷ []) (suc n) ≡ true
placed-match k [] n e =
    let q : k ≡ n = eqb-true k n e in
    and_from (nat_eq n k) (nat_eq (suc k) (suc n)) (eq-eqb n k (sym q)) (eq-eqb (suc k) (suc n) (ap suc q))
placed-match k (P.Match i ∷ ps) n e =
    let (a, b) = and_parts (nat_eq i k) (are_placed (suc k) ps n) e in
    and_from (nat_eq i k) (are_placed (suc k) (ps ++ P.Match n ∷ []) (suc n)) a (placed-match (suc k) ps n b)
placed-match k (P.Words l ∷ ps) n e = placed-match k ps n e
placed-match k (P.Length m ∷ ps) n e = placed-match k ps n e

pub placed-words : (k : ℕ) (ps : List Part) (n : ℕ) (ws : List (List ℕ)) → are_placed k ps n ≡ true
    → are_placed k (ps ++ P.Words ws ∷ []) n ≡ true
placed-words k [] n ws e = e
placed-words k (P.Match i ∷ ps) n ws e =
    let (a, b) = and_parts (nat_eq i k) (are_placed (suc k) ps n) e in
    and_from (nat_eq i k) (are_placed (suc k) (ps ++ P.Words ws ∷ []) n) a (placed-words (suc k) ps n ws b)
placed-words k (P.Words l ∷ ps) n ws e = placed-words k ps n ws e
placed-words k (P.Length m ∷ ps) n ws e = placed-words k ps n ws e

pub placed-length : (k : ℕ) (ps : List Part) (n m : ℕ) → are_placed k ps n ≡ true
    → are_placed k (ps ++ P.Length m ∷ []) n ≡ true
placed-length k [] n m e = e
placed-length k (P.Match i ∷ ps) n m e =
    let (a, b) = and_parts (nat_eq i k) (are_placed (suc k) ps n) e in
    and_from (nat_eq i k) (are_placed (suc k) (ps ++ P.Length m ∷ []) n) a (placed-length (suc k) ps n m b)
placed-length k (P.Words l ∷ ps) n m e = placed-length k ps n m e
placed-length k (P.Length j ∷ ps) n m e = placed-length k ps n m e

-- the pattern of a part is one of the patterns that are there
pub placed-at : (k : ℕ) (ps : List Part) (n j i : ℕ) (x : Part) → are_placed k ps n ≡ true → j < length ps
    → get_or ps j x ≡ P.Match i → i < n
placed-at k [] n j i x e l q = absurd (omega (arith, l))
placed-at k (P.Match h ∷ ps) n zero i x e l q =
    let (a, b) = and_parts (nat_eq h k) (are_placed (suc k) ps n) e in
    let c = placed-le (suc k) ps n b in
    let d = eqb-true h k a in
    let s : h ≡ i = cc q in omega (arith, c, d, s)
placed-at k (P.Words l ∷ ps) n zero i x e m q = cc q
placed-at k (P.Length l ∷ ps) n zero i x e m q = cc q
placed-at k (P.Match h ∷ ps) n (suc j) i x e l q =
    placed-at (suc k) ps n j i x (and_parts (nat_eq h k) (are_placed (suc k) ps n) e).1 (omega (arith, l)) q
placed-at k (P.Words w ∷ ps) n (suc j) i x e l q = placed-at k ps n j i x e (omega (arith, l)) q
placed-at k (P.Length m ∷ ps) n (suc j) i x e l q = placed-at k ps n j i x e (omega (arith, l)) q

-- ---- atoms
-- one more pattern changes no part before
atoms-grow : (ts : List Tree) (t : Tree) (k : ℕ) (ps : List Part) → are_placed k ps (length ts) ≡ true
    → map (part_view (ts ++ t ∷ [])) ps ≡ map (part_view ts) ps
atoms-grow ts t k [] e = refl
atoms-grow ts t k (P.Match i ∷ ps) e =
    let (a, b) = and_parts (nat_eq i k) (are_placed (suc k) ps (length ts)) e in
    let l = placed-le (suc k) ps (length ts) b in
    let q = eqb-true i k a in
    ap₂ (λ x xs. Match x ∷ xs) (get_or_append_left ts (t ∷ []) empty i (omega (arith, l, q)))
    (atoms-grow ts t (suc k) ps b)
atoms-grow ts t k (P.Words w ∷ ps) e = ap (λ xs. Words w ∷ xs) (atoms-grow ts t k ps e)
atoms-grow ts t k (P.Length n ∷ ps) e = ap (λ xs. LengthMin n ∷ xs) (atoms-grow ts t k ps e)

pub atoms-match : (ns : List Nfa) (ps : List Part) (n : Nfa) → are_placed 0 ps (length ns) ≡ true
    → atoms_made (ns ++ n ∷ []) (ps ++ P.Match (length ns) ∷ []) ≡ atoms_made ns ps ++ Match (tree_of n) ∷ []
atoms-match ns ps n e =
    let ts = map tree_of ns in
    let long : length ts ≡ length ns = length-map ns tree_of in
    ap (λ us. map (part_view us) (ps ++ P.Match (length ns) ∷ [])) (map-append tree_of ns (n ∷ []))
    ∙ map-append (part_view (ts ++ tree_of n ∷ [])) ps (P.Match (length ns) ∷ [])
    ∙ ap₂ (λ xs x. xs ++ Match x ∷ []) (atoms-grow ts (tree_of n) 0 ps (ap (are_placed 0 ps) long ∙ e))
    (ap (λ i. get_or (ts ++ tree_of n ∷ []) i empty) (sym long) ∙ get_or-append_seam ts (tree_of n) [] empty)

pub atoms-part : (ns : List Nfa) (ps : List Part) (p : Part)
    → atoms_made ns (ps ++ p ∷ []) ≡ atoms_made ns ps ++ part_view (map tree_of ns) p ∷ []
atoms-part ns ps p = map-append (part_view (map tree_of ns)) ps (p ∷ [])

-- ---- states of patterns
states-made : (ts : List Tree) (k : ℕ) (ps : List Part) (w : List ℕ) → are_placed k ps (length ts) ≡ true
    → pattern_states (map (part_view ts) ps) w ≡ map (λ t. pattern_state t w) (drop k ts)
states-made ts k [] w e =
    let q = eqb-true k (length ts) e in sym (ap (map (λ t. pattern_state t w)) (drop_past k ts (omega (arith, q))))
states-made ts k (P.Match i ∷ ps) w e =
    let (a, b) = and_parts (nat_eq i k) (are_placed (suc k) ps (length ts)) e in
    let l = placed-le (suc k) ps (length ts) b in
    ap₂ (λ j xs. pattern_state (get_or ts j empty) w ∷ xs) (eqb-true i k a) (states-made ts (suc k) ps w b)
    ∙ sym (ap (map (λ t. pattern_state t w)) (drop_next k ts empty (omega (arith, l))))
states-made ts k (P.Words l ∷ ps) w e = states-made ts k ps w e
states-made ts k (P.Length n ∷ ps) w e = states-made ts k ps w e

-- the atoms' patterns are these
pub patterns-made : (ns : List Nfa) (ps : List Part) (w : List ℕ) → are_placed 0 ps (length ns) ≡ true
    → pattern_states (atoms_made ns ps) w ≡ map (λ n. pattern_state (tree_of n) w) ns
patterns-made ns ps w e =
    states-made (map tree_of ns) 0 ps w (ap (are_placed 0 ps) (length-map ns tree_of) ∙ e)
    ∙ map-map (λ t. pattern_state t w) tree_of ns

-- ---- words
pub words-made : (ts : List Tree) (ps : List Part) → listed (map (part_view ts) ps) ≡ flat_map part_words ps
words-made ts [] = refl
words-made ts (P.Match i ∷ ps) = words-made ts ps
words-made ts (P.Words l ∷ ps) = ap (λ xs. l ++ xs) (words-made ts ps)
words-made ts (P.Length n ∷ ps) = words-made ts ps

pub words-at : (ts : List Tree) (ps : List Part) (k : ℕ)
    → letters_of (get_or (map (part_view ts) ps) k (LengthMin 0)) ≡ part_words (get_or ps k (P.Length 0))
words-at ts [] zero = refl
words-at ts [] (suc k) = refl
words-at ts (P.Match i ∷ ps) zero = refl
words-at ts (P.Words l ∷ ps) zero = refl
words-at ts (P.Length n ∷ ps) zero = refl
words-at ts (p ∷ ps) (suc k) = words-at ts ps k
