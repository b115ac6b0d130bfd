-- The steps by which the trie is made, and by which the nodes where listed words end are found.
use Rattle.std.proofs.Common.{◌≡◌, ℕ, zero, suc, ◌+◌, ◌<◌, ◌≤◌, Bool, true, false, ◌&&◌, ◌||◌, nat_eq, nat_lt, if◌then◌else◌, List, [], ◌∷◌, ◌++◌, Option, Some, None, flat_map, length, take, drop, get_or, refl, sym, ◌∙◌, ap, ap₂, arith}
use Rattle.std.specs.List.{list_any, position_or_len}
use Rattle.std.proofs.lemmas.Bool.Decides.{nat_tests}
use Rattle.std.proofs.lemmas.List.{take_more, take_all}
use Rattle.std.proofs.lemmas.List.Folds.{list_any-append}
use Rattle.word_states.specs.Mention.{mention}
use Rattle.js_automaton.specs.declared.part.Part.{Part}
use Rattle.js_automaton.specs.declared.part.Part.TheVariants as P
use Rattle.js_automaton.specs.Parts.{part_words}
use Rattle.js_automaton.specs.Trie.{same_edge, same_node, child_of, walk, with_word, with_words, edges_of, ends_at}
use Rattle.js_automaton.proofs.PartLemmas.{drop_more, drop_past}
use Rattle.std.proofs.lemmas.Bool.{or_right}
use Rattle.std.proofs.Math.Bool.{or-false}
use Rattle.list_laws.proofs.Numbers.{nat_eq_comm}

-- ---- the trie
pub add-step : (E F : List (ℕ × ℕ)) (w : List ℕ) (i n c place : ℕ) → i < length w → c ≡ get_or w i c
    → F ≡ mention same_edge E (n, c) → place ≡ position_or_len (same_edge (n, c)) E
    → with_word F (place + 1) (drop (i + 1) w) ≡ with_word E n (drop i w)
add-step E F w i n c place l at e p =
    let q : place + 1 ≡ suc (position_or_len (same_edge (n, c)) E) = omega (arith, p) in
    ap₂ (λ z m. with_word z m (drop (i + 1) w)) e q ∙ sym (ap (with_word E n) (drop_more i w c l at))

pub add-all : (E : List (ℕ × ℕ)) (w : List ℕ) (i n : ℕ) → length w ≤ i → with_word E n (drop i w) ≡ E
add-all E w i n l = ap (with_word E n) (drop_past i w l)

pub walk-step : (E : List (ℕ × ℕ)) (w : List ℕ) (i c : ℕ) (o p : Option ℕ) → i < length w → c ≡ get_or w i c
    → p ≡ child_of E o c → walk E p (drop (i + 1) w) ≡ walk E o (drop i w)
walk-step E w i c o p l at e =
    ap (λ z. walk E z (drop (i + 1) w)) e ∙ sym (ap (walk E o) (drop_more i w c l at))

pub walk-all : (E : List (ℕ × ℕ)) (w : List ℕ) (i : ℕ) (o : Option ℕ) → length w ≤ i → walk E o (drop i w) ≡ o
walk-all E w i o l = ap (walk E o) (drop_past i w l)

pub words-step : (E F : List (ℕ × ℕ)) (ws : List (List ℕ)) (i : ℕ) (x : List ℕ) → i < length ws → x ≡ get_or ws i x
    → F ≡ with_word E 0 x → with_words F (drop (i + 1) ws) ≡ with_words E (drop i ws)
words-step E F ws i x l at e =
    ap (λ z. with_words z (drop (i + 1) ws)) e ∙ sym (ap (with_words E) (drop_more i ws x l at))

pub words-all : (E : List (ℕ × ℕ)) (ws : List (List ℕ)) (i : ℕ) → length ws ≤ i → with_words E (drop i ws) ≡ E
words-all E ws i l = ap (with_words E) (drop_past i ws l)

words-append : (E : List (ℕ × ℕ)) (xs ys : List (List ℕ)) → with_words E (xs ++ ys) ≡ with_words (with_words E xs) ys
words-append E [] ys = refl
words-append E (x ∷ xs) ys = words-append (with_word E 0 x) xs ys

pub parts-step : (E F : List (ℕ × ℕ)) (ps : List Part) (i : ℕ) (p : Part) → i < length ps → p ≡ get_or ps i p
    → F ≡ with_words E (part_words p)
    → with_words F (flat_map part_words (drop (i + 1) ps)) ≡ with_words E (flat_map part_words (drop i ps))
parts-step E F ps i p l at e =
    ap (λ z. with_words z (flat_map part_words (drop (i + 1) ps))) e
    ∙ sym (words-append E (part_words p) (flat_map part_words (drop (i + 1) ps)))
    ∙ sym (ap (λ qs. with_words E (flat_map part_words qs)) (drop_more i ps p l at))

pub parts-first : (ps : List Part) → with_words [] (flat_map part_words ps) ≡ edges_of (flat_map part_words ps)
unfolding edges_of
parts-first ps = refl

pub parts-all : (E : List (ℕ × ℕ)) (ps : List Part) (i : ℕ) → length ps ≤ i
    → with_words E (flat_map part_words (drop i ps)) ≡ E
parts-all E ps i l = ap (λ qs. with_words E (flat_map part_words qs)) (drop_past i ps l)

-- ---- the ends of words
any-insert : (xs : List (ℕ × ℕ)) (x y : ℕ × ℕ)
    → ((a b c : ℕ × ℕ) → same_edge a b ≡ true → same_edge b c ≡ true → same_edge a c ≡ true)
    → list_any (same_edge y) (mention same_edge xs x) ≡ (list_any (same_edge y) xs || same_edge y x)
any-insert xs x y trans = go (list_any (same_edge x) xs) refl where
  or_none : (a b : Bool) → (a || (b || false)) ≡ (a || b)
  or_none true b = refl
  or_none false true = refl
  or_none false false = refl

  member : (xs : List (ℕ × ℕ)) → list_any (same_edge x) xs ≡ true → same_edge y x ≡ true
      → list_any (same_edge y) xs ≡ true
  member [] e t = cc e
  member (z ∷ xs) e t = by (same_edge x z) refl e (λ f. member xs f t) where
    by : (b : Bool) → same_edge x z ≡ b → (b || list_any (same_edge x) xs) ≡ true
        → (list_any (same_edge x) xs ≡ true → list_any (same_edge y) xs ≡ true)
        → (same_edge y z || list_any (same_edge y) xs) ≡ true
    by true s f h = ap (λ b. b || list_any (same_edge y) xs) (trans y x z t s)
    by false s f h = or_right (same_edge y z) (list_any (same_edge y) xs) (h f)

  go : (b : Bool) → list_any (same_edge x) xs ≡ b
      → list_any (same_edge y) (if b then xs else xs ++ x ∷ []) ≡ (list_any (same_edge y) xs || same_edge y x)
  go true e = by (same_edge y x) refl where
    by : (b : Bool) → same_edge y x ≡ b → list_any (same_edge y) xs ≡ (list_any (same_edge y) xs || b)
    by true t = member xs e t ∙ sym (ap (λ a. a || true) (member xs e t))
    by false t = sym (or-false (list_any (same_edge y) xs))
  go false e = list_any-append (same_edge y) xs (x ∷ []) ∙ or_none (list_any (same_edge y) xs) (same_edge y x)

edge-trans : (a b c : ℕ × ℕ) → same_edge a b ≡ true → same_edge b c ≡ true → same_edge a c ≡ true
edge-trans a b c e f = grind (arith, nat_tests, e, f)

-- the nodes of the first words
abbrev pub ended : List (ℕ × ℕ) → List (List ℕ) → ℕ → Bool
ended E ws n = list_any (λ u. same_node (walk E (Some 0) u) (Some n)) ws

one-more : (E : List (ℕ × ℕ)) (ws : List (List ℕ)) (i n : ℕ) (x : List ℕ) → i < length ws → x ≡ get_or ws i x
    → ended E (take (i + 1) ws) n ≡ (ended E (take i ws) n || same_node (walk E (Some 0) x) (Some n))
one-more E ws i n x l at =
    let p : List ℕ → Bool = λ u. same_node (walk E (Some 0) u) (Some n) in
    ap (list_any p) (take_more ws i x l ∙ ap (λ y. take i ws ++ y ∷ []) (sym at))
    ∙ list_any-append p (take i ws) (x ∷ []) ∙ or_none (list_any p (take i ws)) (p x) where
      or_none : (a b : Bool) → (a || (b || false)) ≡ (a || b)
      or_none true b = refl
      or_none false true = refl
      or_none false false = refl

pub ends-first : (E : List (ℕ × ℕ)) (ws : List (List ℕ)) (n : ℕ) (a p : Bool) → a ≡ (a || (p && ended E (take 0 ws) n))
ends-first E ws n true p = refl
ends-first E ws n false true = refl
ends-first E ws n false false = refl

pub ends-some : (E : List (ℕ × ℕ)) (ws : List (List ℕ)) (i n k m place : ℕ) (x : List ℕ) (old keys new : List (ℕ × ℕ))
    → i < length ws → x ≡ get_or ws i x → walk E (Some 0) x ≡ Some m → new ≡ mention same_edge keys (m, place)
    → list_any (same_edge (n, k)) keys
    ≡ (list_any (same_edge (n, k)) old || (nat_eq k place && ended E (take i ws) n))
    → list_any (same_edge (n, k)) new
    ≡ (list_any (same_edge (n, k)) old || (nat_eq k place && ended E (take (i + 1) ws) n))
ends-some E ws i n k m place x old keys new l at found e h =
    ap (list_any (same_edge (n, k))) e ∙ any-insert keys (m, place) (n, k) edge-trans
    ∙ ap₂ (λ a b. a || (b && nat_eq k place)) h (nat_eq_comm n m)
    ∙ mix (list_any (same_edge (n, k)) old) (nat_eq k place) (ended E (take i ws) n) (nat_eq m n)
    ∙ ap (λ b. list_any (same_edge (n, k)) old || (nat_eq k place && (ended E (take i ws) n || same_node b (Some n))))
    (sym found)
    ∙ ap (λ b. list_any (same_edge (n, k)) old || (nat_eq k place && b)) (sym (one-more E ws i n x l at)) where
      mix : (a p b c : Bool) → ((a || (p && b)) || (c && p)) ≡ (a || (p && (b || c)))
      mix true p b c = refl
      mix false true true c = refl
      mix false true false true = refl
      mix false true false false = refl
      mix false false b true = refl
      mix false false b false = refl

pub ends-none : (E : List (ℕ × ℕ)) (ws : List (List ℕ)) (i n k place : ℕ) (x : List ℕ) (old keys : List (ℕ × ℕ))
    → i < length ws → x ≡ get_or ws i x → walk E (Some 0) x ≡ None
    → list_any (same_edge (n, k)) keys
    ≡ (list_any (same_edge (n, k)) old || (nat_eq k place && ended E (take i ws) n))
    → list_any (same_edge (n, k)) keys
    ≡ (list_any (same_edge (n, k)) old || (nat_eq k place && ended E (take (i + 1) ws) n))
ends-none E ws i n k place x old keys l at lost h =
    h ∙ ap (λ b. list_any (same_edge (n, k)) old || (nat_eq k place && b))
    (sym (or-false (ended E (take i ws) n))
    ∙ ap (λ b. ended E (take i ws) n || same_node b (Some n)) (sym lost)
    ∙ sym (one-more E ws i n x l at))

pub ends-all : (E : List (ℕ × ℕ)) (ws : List (List ℕ)) (i n k place : ℕ) (old keys : List (ℕ × ℕ)) → length ws ≤ i
    → list_any (same_edge (n, k)) keys
    ≡ (list_any (same_edge (n, k)) old || (nat_eq k place && ended E (take i ws) n))
    → list_any (same_edge (n, k)) keys
    ≡ (list_any (same_edge (n, k)) old || (nat_eq k place && ended E ws n))
ends-all E ws i n k place old keys l h =
    h ∙ ap (λ us. list_any (same_edge (n, k)) old || (nat_eq k place && ended E us n)) (take_all i ws l)

-- ---- the ends of all lists
abbrev pub ends_of_part : List (List ℕ) → List Part → ℕ → ℕ → Bool
ends_of_part all ps k n = ends_at all (part_words (get_or ps k (P.Length 0))) n

-- the pairs of the parts before place i
abbrev pub AreEndsBefore : List (List ℕ) → List Part → List (ℕ × ℕ) → ℕ → Type 0
AreEndsBefore all ps keys i =
    (n k : ℕ) → list_any (same_edge (n, k)) keys ≡ (nat_lt k i && ends_of_part all ps k n)

pub before-first : (all : List (List ℕ)) (ps : List Part) (keys : List (ℕ × ℕ)) → keys ≡ []
    → AreEndsBefore all ps keys 0
before-first all ps keys e n k =
    let f : nat_lt k 0 ≡ false = grind (arith, nat_tests) in
    ap (list_any (same_edge (n, k))) e ∙ sym (ap (λ b. b && ends_of_part all ps k n) f)

get_at : (ps : List Part) (i : ℕ) (p d : Part) → i < length ps → p ≡ get_or ps i p → get_or ps i d ≡ p
get_at ps i p d l at = by ps i l ∙ sym at where
  by : (ps : List Part) (i : ℕ) → i < length ps → get_or ps i d ≡ get_or ps i p
  by [] i l = absurd (omega (arith, l))
  by (q ∷ ps) zero l = refl
  by (q ∷ ps) (suc i) l = by ps i (omega (arith, l))

before-step : (k i : ℕ) (x y : Bool) → (k ≡ i → x ≡ y)
    → ((nat_lt k i && x) || (nat_eq k i && y)) ≡ (nat_lt k (i + 1) && x)
before-step k i x y e = go (nat_eq k i) refl where
  go : (b : Bool) → nat_eq k i ≡ b → ((nat_lt k i && x) || (b && y)) ≡ (nat_lt k (i + 1) && x)
  go true t =
      let q : k ≡ i = grind (arith, nat_tests, t) in
      let f : nat_lt k i ≡ false = grind (arith, nat_tests, q) in
      let g : nat_lt k (i + 1) ≡ true = grind (arith, nat_tests, q) in
      ap (λ b. (b && x) || y) f ∙ sym (e q) ∙ sym (ap (λ b. b && x) g)
  go false t =
      let f : nat_lt k i ≡ nat_lt k (i + 1) = grind (arith, nat_tests, t) in
      or-false (nat_lt k i && x) ∙ ap (λ b. b && x) f

pub before-words : (all : List (List ℕ)) (ps : List Part) (keys new : List (ℕ × ℕ)) (E : List (ℕ × ℕ)) (i : ℕ)
    (p : Part) (ws : List (List ℕ)) → i < length ps → p ≡ get_or ps i p → p ≡ P.Words ws → E ≡ edges_of all
    → ((n k : ℕ) → list_any (same_edge (n, k)) new ≡ (list_any (same_edge (n, k)) keys || (nat_eq k i && ended E ws n)))
    → AreEndsBefore all ps keys i → AreEndsBefore all ps new (i + 1)
before-words all ps keys new E i p ws l at q edges more h n k =
    more n k ∙ ap (λ b. b || (nat_eq k i && ended E ws n)) (h n k)
    ∙ before-step k i (ends_of_part all ps k n) (ended E ws n) (λ e.
    ap (λ j. ends_of_part all ps j n) e
    ∙ ap (λ x. ends_at all (part_words x) n) (get_at ps i p (P.Length 0) l at ∙ q)
    ∙ sym (ap (λ z. ended z ws n) edges))

pub before-other : (all : List (List ℕ)) (ps : List Part) (keys : List (ℕ × ℕ)) (i : ℕ) (p : Part)
    → i < length ps → p ≡ get_or ps i p → part_words p ≡ [] → AreEndsBefore all ps keys i
    → AreEndsBefore all ps keys (i + 1)
before-other all ps keys i p l at q h n k =
    h n k ∙ none (nat_lt k i && ends_of_part all ps k n) (nat_eq k i)
    ∙ before-step k i (ends_of_part all ps k n) false (λ e.
    ap (λ j. ends_of_part all ps j n) e
    ∙ ap (λ x. ends_at all (part_words x) n) (get_at ps i p (P.Length 0) l at) ∙ ap (λ x. ends_at all x n) q) where
      none : (a b : Bool) → a ≡ (a || (b && false))
      none true b = refl
      none false true = refl
      none false false = refl

pub before-all : (all : List (List ℕ)) (ps : List Part) (keys : List (ℕ × ℕ)) (i : ℕ) → length ps ≤ i
    → AreEndsBefore all ps keys i
    → (n k : ℕ) → list_any (same_edge (n, k)) keys ≡ ends_at all (part_words (get_or ps k (P.Length 0))) n
before-all all ps keys i l h n k = h n k ∙ go (nat_lt k i) refl where
  past : (ps : List Part) (k : ℕ) (d : Part) → length ps ≤ k → get_or ps k d ≡ d
  past [] zero d l = refl
  past [] (suc k) d l = refl
  past (p ∷ ps) zero d l = absurd (omega (arith, l))
  past (p ∷ ps) (suc k) d l = past ps k d (omega (arith, l))

  go : (b : Bool) → nat_lt k i ≡ b → (b && ends_of_part all ps k n) ≡ ends_of_part all ps k n
  go true t = refl
  go false t =
      let m : i ≤ k = grind (arith, nat_tests, t) in
      sym (ap (λ x. ends_at all (part_words x) n) (past ps k (P.Length 0) (omega (arith, l, m))))
