-- What is found of the rows grows by one mention at a time. Key lemma: `found-class`, one more class of a row.
use Rattle.std.proofs.Common.{◌≡◌, ℕ, zero, suc, ◌+◌, ◌*◌, ◌<◌, ◌≤◌, ◌⊎◌, inl, inr, List, [], ◌∷◌, ◌++◌, Bool, true, false, ◌||◌, not, cond, if◌then◌else◌, Some, slice_get, map, flat_map, take, get_or, length, refl, sym, ◌∙◌, ap, ap₂, subst, append-nil, append_assoc, length-append, arith}
use Rattle.std.specs.List.{list_any, list_all, position_or_len}
use Rattle.std.proofs.lemmas.Bool.{and_parts, and_from}
use Rattle.std.proofs.lemmas.List.{map-append, length-map, get_or-map, take-append-le, get_or_append_left, get_or-append-add}
use Rattle.std.proofs.lemmas.List.Concat.{flat_map-append}
use Rattle.std.proofs.lemmas.List.Sums.{position_or_len_is}
use Rattle.std.proofs.lemmas.Map.Keys.{apart_from_distinct}
use Rattle.std.proofs.lemmas.Option.{get_or_from_slice_get}
use Rattle.patterns.specs.CharSet.{is_scalar}
use Rattle.word_states.specs.Atom.{Atom, LengthMin, is_true}
use Rattle.word_states.specs.Classes.{are_alike, dividers, class_firsts, class_count, class_of, is_in_class}
use Rattle.word_states.specs.Mention.{mention, mention_all}
use Rattle.word_states.specs.WordState.{have_same_state}
use Rattle.word_states.specs.Rows.{HaveStates, row_of, targets_of, signature_of}
use Rattle.word_laws.proofs.Mentions as M
use Rattle.word_laws.proofs.Rows as R
use Rattle.word_laws.proofs.RowLaws.{rows_bound, rows_words, rows_apart, row_below, row_truth, row_next}
use Rattle.std.proofs.Math.Seq.{take-suc, take-length}
use Rattle.list_laws.proofs.Lists.{get_or-in}
use Rattle.list_laws.specs.In.{IsIn}
use Rattle.word_laws.proofs.Classes.{alike_laws, firsts_scalar}
use Rattle.word_laws.proofs.States.{same_laws}
use Rattle.indexmap.specs.IndexSet.{insert_key}
use Rattle.js_automaton.specs.declared.state.TupleState.{TupleState}
use Rattle.js_automaton.specs.Tuple.{IsStateOf}
use Rattle.js_automaton.specs.Keys.{same_tuple}
use Rattle.js_automaton.specs.Building.{AreStates, longer_words, words_before, IsFound, HaveRows}
use Rattle.js_automaton.proofs.KeyLemmas.{tuple-words}
use Rattle.std.proofs.lemmas.Simd.{map-map}

-- ---- lists
pub all-end : {A : Type 0} (p : A → Bool) (xs : List A) (x : A) → list_all p xs ≡ true → p x ≡ true
    → list_all p (xs ++ x ∷ []) ≡ true
all-end p [] x e f = and_from (p x) true f refl
all-end p (y ∷ xs) x e f =
    let (g, h) = and_parts (p y) (list_all p xs) e in
    and_from (p y) (list_all p (xs ++ x ∷ [])) g (all-end p xs x h f)

pub all-at : {A : Type 0} (p : A → Bool) (xs : List A) (i : ℕ) (d : A) → list_all p xs ≡ true → i < length xs
    → p (get_or xs i d) ≡ true
all-at p [] i d e l = absurd (omega (arith, l))
all-at p (x ∷ xs) zero d e l = (and_parts (p x) (list_all p xs) e).0
all-at p (x ∷ xs) (suc i) d e l = all-at p xs i d (and_parts (p x) (list_all p xs) e).1 (omega (arith, l))

-- what is found in a beginning has the same place in the whole
place-left : {A : Type 0} (p : A → Bool) (xs ys : List A) → list_any p xs ≡ true
    → position_or_len p (xs ++ ys) ≡ position_or_len p xs
place-left p [] ys h = cc h
place-left p (x ∷ xs) ys h = go (p x) h (place-left p xs ys) where
  go : (b : Bool) → (b || list_any p xs) ≡ true
      → (list_any p xs ≡ true → position_or_len p (xs ++ ys) ≡ position_or_len p xs)
      → cond (not b) (1 + position_or_len p (xs ++ ys)) 0 ≡ cond (not b) (1 + position_or_len p xs) 0
  go true e r = refl
  go false e r = ap (λ n. 1 + n) (r e)

-- an element that is appended has the place that was free
place-end : {A : Type 0} (p : A → Bool) (xs : List A) (x : A) → p x ≡ true
    → position_or_len p (xs ++ x ∷ []) ≡ position_or_len p xs
place-end p [] x e = ap (λ b. cond (not b) (1 + 0) 0) e
place-end p (y ∷ xs) x e = ap (λ n. cond (not (p y)) (1 + n) 0) (place-end p xs x e)

map-flat : {A B C : Type 0} (f : B → C) (g : A → List B) (h : A → List C) (xs : List A) → ((x : A) → map f (g x) ≡ h x)
    → map f (flat_map g xs) ≡ flat_map h xs
map-flat f g h [] e = refl
map-flat f g h (x ∷ xs) e = map-append f (g x) (flat_map g xs) ∙ ap₂ (λ ys zs. ys ++ zs) (e x) (map-flat f g h xs e)

-- ---- lists of lists of one length
pub flat-length : {A B : Type 0} (f : A → List B) (n : ℕ) → ((x : A) → length (f x) ≡ n) → (xs : List A)
    → length (flat_map f xs) ≡ length xs * n
flat-length f n e [] = omega arith
flat-length f n e (x ∷ xs) =
    let p = length-append (f x) (flat_map f xs) in
    let q = flat-length f n e xs in
    let r = e x in
    p ∙ ap₂ (λ a b. a + b) r q ∙ more (length xs) n where
      more : (m n : ℕ) → n + m * n ≡ suc m * n
      more m n = grind arith

pub flat-get : {A B : Type 0} (f : A → List B) (n : ℕ) → ((x : A) → length (f x) ≡ n) → (xs : List A) (r k : ℕ) (d : B)
    (a : A) → r < length xs → k < n → get_or (flat_map f xs) (r * n + k) d ≡ get_or (f (get_or xs r a)) k d
flat-get f n e [] r k d a l m = absurd (omega (arith, l))
flat-get f n e (x ∷ xs) zero k d a l m =
    let q : 0 * n + k ≡ k = omega arith in
    let b = e x in
    ap (λ j. get_or (f x ++ flat_map f xs) j d) q ∙ get_or_append_left (f x) (flat_map f xs) d k (omega (arith, b, m))
flat-get f n e (x ∷ xs) (suc r) k d a l m =
    ap (λ j. get_or (f x ++ flat_map f xs) j d) (more r n (length (f x)) k (e x))
    ∙ get_or-append-add (f x) (flat_map f xs) (r * n + k) d
    ∙ flat-get f n e xs r k d a (omega (arith, l)) m where
      more : (r n m k : ℕ) → m ≡ n → suc r * n + k ≡ m + (r * n + k)
      more r n m k q = grind (arith, q)

pub place-within : (r k m n : ℕ) → r < m → k < n → r * n + k < m * n
place-within r k zero n l h = absurd (omega (arith, l))
place-within zero k (suc m) n l h = let q = more m n in omega (arith, q, h) where
  more : (m n : ℕ) → suc m * n ≡ n + m * n
  more m n = grind arith
place-within (suc r) k (suc m) n l h =
    let p = place-within r k m n (omega (arith, l)) h in
    let q = more m n in
    let s = more r n in omega (arith, p, q, s) where
      more : (m n : ℕ) → suc m * n ≡ n + m * n
      more m n = grind arith

module _ (atoms : List Atom) where
  abbrev same : List ℕ → List ℕ → Bool
  same = have_same_state atoms

  -- ---- states and their words
  pub states-length : (keys : List TupleState) (rows : List (List ℕ)) → AreStates atoms keys rows
      → length keys ≡ length rows
  states-length [] [] h = refl
  states-length [] (w ∷ rows) h = absurd h
  states-length (s ∷ keys) [] h = absurd h
  states-length (s ∷ keys) (w ∷ rows) (i, h) = ap suc (states-length keys rows h)

  states-get : (keys : List TupleState) (rows : List (List ℕ)) (i : ℕ) (d : TupleState) → AreStates atoms keys rows
      → i < length rows → IsStateOf atoms (get_or keys i d) (get_or rows i [])
  states-get [] [] i d h l = absurd (omega (arith, l))
  states-get [] (w ∷ rows) i d h l = absurd h
  states-get (s ∷ keys) [] i d h l = absurd h
  states-get (s ∷ keys) (w ∷ rows) zero d (j, h) l = j
  states-get (s ∷ keys) (w ∷ rows) (suc i) d (j, h) l = states-get keys rows i d h (omega (arith, l))

  -- the state that is kept for a row is that of the row's word
  pub states-at : (keys : List TupleState) (rows : List (List ℕ)) (i : ℕ) (s : TupleState) → AreStates atoms keys rows
      → i < length rows → slice_get keys i ≡ Some s → IsStateOf atoms s (get_or rows i [])
  states-at keys rows i s h l e =
      subst (λ z. IsStateOf atoms z (get_or rows i [])) (get_or_from_slice_get keys i s s e)
      (states-get keys rows i s h l)

  states-any : (keys : List TupleState) (rows : List (List ℕ)) (s : TupleState) (x : List ℕ) → AreStates atoms keys rows
      → IsStateOf atoms s x → list_any (same_tuple s) keys ≡ list_any (same x) rows
  states-any [] [] s x h k = refl
  states-any [] (w ∷ rows) s x h k = absurd h
  states-any (t ∷ keys) [] s x h k = absurd h
  states-any (t ∷ keys) (w ∷ rows) s x (i, h) k =
      ap₂ (λ a b. a || b) (tuple-words atoms s t x w k i) (states-any keys rows s x h k)

  states-place : (keys : List TupleState) (rows : List (List ℕ)) (s : TupleState) (x : List ℕ)
      → AreStates atoms keys rows → IsStateOf atoms s x
      → position_or_len (same_tuple s) keys ≡ position_or_len (same x) rows
  states-place [] [] s x h k = refl
  states-place [] (w ∷ rows) s x h k = absurd h
  states-place (t ∷ keys) [] s x h k = absurd h
  states-place (t ∷ keys) (w ∷ rows) s x (i, h) k =
      ap₂ (λ b n. cond (not b) (1 + n) 0) (tuple-words atoms s t x w k i) (states-place keys rows s x h k)

  states-end : (keys : List TupleState) (rows : List (List ℕ)) (s : TupleState) (x : List ℕ) → AreStates atoms keys rows
      → IsStateOf atoms s x → AreStates atoms (keys ++ s ∷ []) (rows ++ x ∷ [])
  states-end [] [] s x h k = (k, tt)
  states-end [] (w ∷ rows) s x h k = absurd h
  states-end (t ∷ keys) [] s x h k = absurd h
  states-end (t ∷ keys) (w ∷ rows) s x (i, h) k = (i, states-end keys rows s x h k)

  -- a state that is inserted is a word that is mentioned
  states-insert : (keys : List TupleState) (rows : List (List ℕ)) (s : TupleState) (x : List ℕ)
      → AreStates atoms keys rows → IsStateOf atoms s x
      → AreStates atoms (insert_key same_tuple keys s) (mention same rows x)
  states-insert keys rows s x h k =
      go (list_any (same_tuple s) keys) (list_any (same x) rows) (states-any keys rows s x h k) where
        go : (a b : Bool) → a ≡ b
            → AreStates atoms (if a then keys else keys ++ s ∷ []) (if b then rows else rows ++ x ∷ [])
        go true true e = h
        go true false e = absurd (cc e)
        go false true e = absurd (cc e)
        go false false e = states-end keys rows s x h k

  words-mention : (rows : List (List ℕ)) (x : List ℕ) → list_all (list_all is_scalar) rows ≡ true
      → list_all is_scalar x ≡ true → list_all (list_all is_scalar) (mention same rows x) ≡ true
  words-mention rows x h k = go (list_any (same x) rows) where
    go : (b : Bool) → list_all (list_all is_scalar) (if b then rows else rows ++ x ∷ []) ≡ true
    go true = h
    go false = all-end (list_all is_scalar) rows x h k

  place-mention : (rows : List (List ℕ)) (x : List ℕ)
      → position_or_len (same x) (mention same rows x) ≡ position_or_len (same x) rows
  place-mention rows x = go (list_any (same x) rows) where
    go : (b : Bool) → position_or_len (same x) (if b then rows else rows ++ x ∷ []) ≡ position_or_len (same x) rows
    go true = refl
    go false = place-end (same x) rows x ((same_laws atoms).refl x)

  -- the rows of words that are found stay when more is found
  rows-stay : (ws rows more : List (List ℕ)) → ((w : List ℕ) → IsIn w ws → list_any (same w) rows ≡ true)
      → map (row_of atoms (rows ++ more)) ws ≡ map (row_of atoms rows) ws
  rows-stay [] rows more h = refl
  rows-stay (w ∷ ws) rows more h =
      ap₂ (λ n ns. n ∷ ns) (place-left (same w) rows more (h w (inl refl)))
      (rows-stay ws rows more (λ v i. h v (inr i)))

  -- ---- the next word that a row mentions
  abbrev pub next_word : List (List ℕ) → ℕ → ℕ → List ℕ
  next_word rows i k = get_or rows i [] ++ get_or (class_firsts atoms) k 0 ∷ []

  first-scalar : (k : ℕ) → k < class_count atoms → is_scalar (get_or (class_firsts atoms) k 0) ≡ true
  first-scalar k l =
      firsts_scalar atoms (get_or (class_firsts atoms) k 0) (get_or-in (class_firsts atoms) k 0 l)

  pub first-member : (k : ℕ) → k < class_count atoms → is_in_class atoms k (get_or (class_firsts atoms) k 0) ≡ true
  first-member k l =
      let c = get_or (class_firsts atoms) k 0 in
      and_from (is_scalar c) (are_alike (dividers atoms) c c) (first-scalar k l) ((alike_laws (dividers atoms)).refl c)

  word-next : (rows : List (List ℕ)) (i k : ℕ) → k < class_count atoms
      → next_word rows i k ≡ get_or (longer_words atoms (get_or rows i [])) k []
  word-next rows i k l = sym (get_or-map (λ c. get_or rows i [] ++ c ∷ []) (class_firsts atoms) k 0 [] l)

  longer-length : (w : List ℕ) → length (longer_words atoms w) ≡ class_count atoms
  longer-length w = length-map (class_firsts atoms) (λ c. w ++ c ∷ [])

  -- the words gone through when the next is mentioned
  before-next : (rows : List (List ℕ)) (i k : ℕ) (x : List ℕ) → i < length rows → k < class_count atoms
      → x ≡ next_word rows i k
      → words_before atoms (mention same rows x) i (k + 1) ≡ words_before atoms rows i k ++ x ∷ []
  before-next rows i k x within l f =
      let row = get_or rows i [] in
      let (X, p) = M.mention_grows same (same_laws atoms) rows x in
      let t : take i (mention same rows x) ≡ take i rows = ap (λ z. take i z) p
      ∙ take-append-le i rows X (omega (arith, within)) in
      let g : get_or (mention same rows x) i [] ≡ row = ap (λ z. get_or z i []) p
      ∙ get_or_append_left rows X [] i within in
      let n : k + 1 ≡ suc k = omega arith in
      let b : k < length (longer_words atoms row) = omega (arith, l, longer-length row) in
      ap (λ j. words_before atoms (mention same rows x) i j) n
      ∙ ap₂ (λ u v. flat_map (longer_words atoms) u ++ take (suc k) (longer_words atoms v)) t g
      ∙ ap (λ z. flat_map (longer_words atoms) (take i rows) ++ z)
      (take-suc (longer_words atoms row) k [] b
      ∙ ap (λ z. take k (longer_words atoms row) ++ z ∷ []) (sym (f ∙ word-next rows i k l)))
      ∙ sym (append_assoc (flat_map (longer_words atoms) (take i rows)) (take k (longer_words atoms row)) (x ∷ []))

  -- ---- what is found
  pub found-start : (keys : List TupleState) (s : TupleState) → IsStateOf atoms s [] → keys ≡ s ∷ []
      → IsFound atoms keys [] 0 0
  found-start keys s h e = record {
    rows = [] ∷ [];
    states = subst (λ z. AreStates atoms z ([] ∷ [])) (sym e) (h, tt);
    words = refl;
    mentioned = refl;
    within = omega arith;
    targets = refl;
  }

  module _ (keys : List TupleState) (numbers : List ℕ) (i k : ℕ) (f : IsFound atoms keys numbers i k) where
    pub found-within : i < length keys
    found-within = let e = states-length keys f.rows f.states in omega (arith, e, f.within)

    -- the state of the row that is gone through
    pub found-state : (s : TupleState) → slice_get keys i ≡ Some s → IsStateOf atoms s (get_or f.rows i [])
    found-state s e = states-at keys f.rows i s f.states f.within e

    has-before : (w : List ℕ) → IsIn w (words_before atoms f.rows i k) → list_any (same w) f.rows ≡ true
    has-before w j =
        subst (λ z. list_any (same w) z ≡ true) (sym f.mentioned)
        (M.mentions_have same (same_laws atoms) [] ([] ∷ words_before atoms f.rows i k) w w (inr j)
        ((same_laws atoms).refl w))

    -- one more class of a row
    pub found-class : (new : List TupleState) (s : TupleState) (n : ℕ) → k < class_count atoms
        → IsStateOf atoms s (next_word f.rows i k) → new ≡ insert_key same_tuple keys s
        → n ≡ position_or_len (same_tuple s) keys → IsFound atoms new (numbers ++ n ∷ []) i (k + 1)
    found-class new s n l h e m =
        let x = next_word f.rows i k in
        let (X, p) = M.mention_grows same (same_laws atoms) f.rows x in
        let rows = mention same f.rows x in
        let longer = longer-length (get_or f.rows i []) in
        let b = R.next_mention same (same_laws atoms) (longer_words atoms) [] f.rows i k x [] (f.mentioned, f.within)
        (omega (arith, l, longer)) (word-next f.rows i k l) in
        let c : suc k ≡ k + 1 = omega arith in
        let old : map (row_of atoms rows) (words_before atoms f.rows i k) ≡ numbers =
        ap (λ z. map (row_of atoms z) (words_before atoms f.rows i k)) p
        ∙ rows-stay (words_before atoms f.rows i k) f.rows X has-before ∙ sym f.targets in
        let one : row_of atoms rows x ≡ n =
        place-mention f.rows x ∙ sym (states-place keys f.rows s x f.states h) ∙ sym m in
        let row = all-at (list_all is_scalar) f.rows i [] f.words f.within in
        record {
          rows = rows;
          states = subst (λ z. AreStates atoms z rows) (sym e) (states-insert keys f.rows s x f.states h);
          words =
              words-mention f.rows x f.words
              (all-end is_scalar (get_or f.rows i []) (get_or (class_firsts atoms) k 0) row (first-scalar k l));
          mentioned = b.0 ∙ ap (λ j. mention_all same [] ([] ∷ words_before atoms rows i j)) c;
          within = b.1;
          targets =
              sym (ap (map (row_of atoms rows)) (before-next f.rows i k x f.within l refl)
              ∙ map-append (row_of atoms rows) (words_before atoms f.rows i k) (x ∷ [])
              ∙ ap₂ (λ ns j. ns ++ j ∷ []) old one);
        }

    -- what is found are states of words
    pub found-states : HaveStates atoms (length keys)
    found-states = (
      f.rows,
      sym (states-length keys f.rows f.states),
      f.words,
      R.building_distinct same (same_laws atoms) (longer_words atoms) [] f.rows i k (f.mentioned, f.within),
    )

  -- one state too many
  pub found-over : (keys : List TupleState) (numbers : List ℕ) (i k : ℕ) (f : IsFound atoms keys numbers i k)
      (s : TupleState) (n : ℕ) → k < class_count atoms → IsStateOf atoms s (next_word f.rows i k)
      → length (insert_key same_tuple keys s) ≡ n → HaveStates atoms n
  found-over keys numbers i k f s n l h e =
      let place = position_or_len (same_tuple s) keys in
      let new = insert_key same_tuple keys s in
      subst (HaveStates atoms) e
      (found-states new (numbers ++ place ∷ []) i (k + 1) (found-class keys numbers i k f new s place l h refl refl))

  -- ---- after a row
  module _ (keys : List TupleState) (numbers : List ℕ) (i : ℕ)
      (f : IsFound atoms keys numbers i (class_count atoms)) where
    building : R.IsBuilding same (same_laws atoms) (longer_words atoms) [] f.rows i
        (length (longer_words atoms (get_or f.rows i [])))
    building =
        subst (λ n. R.IsBuilding same (same_laws atoms) (longer_words atoms) [] f.rows i n)
        (sym (longer-length (get_or f.rows i []))) (f.mentioned, f.within)

    -- all that the rows up to this one mention is gone through
    before-row : words_before atoms f.rows i (class_count atoms) ≡ flat_map (longer_words atoms) (take (suc i) f.rows)
    before-row =
        let row = get_or f.rows i [] in
        let whole : take (class_count atoms) (longer_words atoms row) ≡ longer_words atoms row =
        ap (λ n. take n (longer_words atoms row)) (sym (longer-length row)) ∙ take-length (longer_words atoms row) in
        ap (λ z. flat_map (longer_words atoms) (take i f.rows) ++ z)
        (whole ∙ sym (append-nil (longer_words atoms row)))
        ∙ sym (flat_map-append (longer_words atoms) (take i f.rows) (row ∷ []))
        ∙ ap (λ z. flat_map (longer_words atoms) z) (sym (take-suc f.rows i [] f.within))

    pub found-row : i + 1 < length keys → IsFound atoms keys numbers (i + 1) 0
    found-row l =
        let n : suc i ≡ i + 1 = omega arith in
        let e = states-length keys f.rows f.states in
        let b = R.next_row same (same_laws atoms) (longer_words atoms) [] f.rows i building (omega (arith, l, e)) in
        subst (λ j. IsFound atoms keys numbers j 0) n (record {
          rows = f.rows;
          states = f.states;
          words = f.words;
          mentioned = b.0;
          within = b.1;
          targets =
              f.targets ∙ ap (map (row_of atoms f.rows))
              (before-row ∙ sym (append-nil (flat_map (longer_words atoms) (take (suc i) f.rows))));
        })

    pub found-all : i + 1 ≡ length keys → length keys ≤ 65536 → HaveRows atoms keys numbers
    found-all e few =
        let size = states-length keys f.rows f.states in
        let last : suc i ≡ length f.rows = omega (arith, e, size) in
        let whole : take (suc i) f.rows ≡ f.rows = ap (λ n. take n f.rows) last ∙ take-length f.rows in (
          f.rows,
          (
            R.end_building same (same_laws atoms) (longer_words atoms) [] f.rows i building last,
            omega (arith, few, size),
            f.targets ∙ ap (map (row_of atoms f.rows)) (before-row ∙ ap (flat_map (longer_words atoms)) whole)
                ∙ map-flat (row_of atoms f.rows) (longer_words atoms) (targets_of atoms f.rows) f.rows
                (λ w. map-map (row_of atoms f.rows) (λ c. w ++ c ∷ []) (class_firsts atoms)),
            f.states,
          ),
        )

  -- between two rows: the next is to be gone through, or all are
  abbrev pub IsBetween : List TupleState → List ℕ → ℕ → Type 0
  IsBetween keys numbers i = IsFound atoms keys numbers i 0 ⊎ ((i ≡ length keys) × HaveRows atoms keys numbers)

  pub between-next : (keys : List TupleState) (numbers : List ℕ) (i : ℕ)
      → IsFound atoms keys numbers i (class_count atoms) → length keys ≤ 65536 → IsBetween keys numbers (i + 1)
  between-next keys numbers i f few =
      let l = found-within keys numbers i (class_count atoms) f in
      go (reaches (i + 1) (length keys) (omega (arith, l))) where
        reaches : (m n : ℕ) → m ≤ n → (m < n) ⊎ (m ≡ n)
        reaches m n l = grind (arith, l)

        go : (i + 1 < length keys) ⊎ (i + 1 ≡ length keys) → IsBetween keys numbers (i + 1)
        go (inl l) = inl (found-row keys numbers i f l)
        go (inr e) = inr (e, found-all keys numbers i f e few)

  pub between-end : (keys : List TupleState) (numbers : List ℕ) (i : ℕ) → IsBetween keys numbers i → length keys ≤ i
      → HaveRows atoms keys numbers
  between-end keys numbers i (inl f) l = absurd (let m = found-within keys numbers i 0 f in omega (arith, l, m))
  between-end keys numbers i (inr (e, h)) l = h

  -- ---- all rows
  module _ (keys : List TupleState) (numbers : List ℕ) (h : HaveRows atoms keys numbers) where
    pub all-few : (n : ℕ) → HaveStates atoms n → n ≤ 65536
    all-few n s = let l = rows_bound atoms h.0 h.1.0 n s in omega (arith, l, h.1.1)

    pub all-length : length keys ≡ length h.0
    all-length = states-length keys h.0 h.1.3

    pub all-start : row_of atoms h.0 [] ≡ 0
    all-start =
        let words = flat_map (longer_words atoms) h.0 in
        let (more, p) = M.mentions_grow same (same_laws atoms) ([] ∷ []) words in
        ap (λ z. row_of atoms z []) (h.1.0 ∙ p)
        ∙ ap (λ b. cond (not b) (1 + position_or_len (same []) more) 0) ((same_laws atoms).refl [])

    pub all-below : (w : List ℕ) → list_all is_scalar w ≡ true → row_of atoms h.0 w < length h.0
    all-below = row_below atoms h.0 h.1.0

    -- a row's own word is a word, and leads to it
    pub all-own : (r : ℕ) → r < length h.0
        → (list_all is_scalar (get_or h.0 r []) ≡ true) × (row_of atoms h.0 (get_or h.0 r []) ≡ r)
    all-own r l = (
      rows_words atoms h.0 h.1.0 (get_or h.0 r []) (get_or-in h.0 r [] l),
      position_or_len_is (same (get_or h.0 r [])) h.0 r [] (omega (arith, l))
          (λ k less. (same_laws atoms).symm (get_or h.0 r []) (get_or h.0 k [])
          ∙ apart_from_distinct same h.0 k r [] (rows_apart atoms h.0 h.1.0) less l)
          (λ m. (same_laws atoms).refl (get_or h.0 r [])),
    )

    targets-length : (w : List ℕ) → length (targets_of atoms h.0 w) ≡ class_count atoms
    targets-length w = length-map (class_firsts atoms) (λ c. row_of atoms h.0 (w ++ c ∷ []))

    -- there is a target for each row and class
    pub target-within : (r k : ℕ) → r < length h.0 → k < class_count atoms → r * class_count atoms + k < length numbers
    target-within r k l m =
        let n = ap (length {A = ℕ}) h.1.2 ∙ flat-length (targets_of atoms h.0) (class_count atoms) targets-length h.0 in
        let b = place-within r k (length h.0) (class_count atoms) l m in omega (arith, n, b)

    pub target-at : (r k x : ℕ) → r < length h.0 → k < class_count atoms
        → x ≡ get_or numbers (r * class_count atoms + k) x
        → x ≡ get_or (targets_of atoms h.0 (get_or h.0 r [])) k 0
    target-at r k x l m e =
        let f : ℕ → ℕ = λ c. row_of atoms h.0 (get_or h.0 r [] ++ c ∷ []) in
        e ∙ ap (λ ns. get_or ns (r * class_count atoms + k) x) h.1.2
        ∙ flat-get (targets_of atoms h.0) (class_count atoms) targets-length h.0 r k x [] l m
        ∙ get_or-map f (class_firsts atoms) k 0 x m ∙ sym (get_or-map f (class_firsts atoms) k 0 0 m)

    pub target-below : (r k x : ℕ) → r < length h.0 → k < class_count atoms
        → x ≡ get_or (targets_of atoms h.0 (get_or h.0 r [])) k 0 → x < length h.0
    target-below r k x l m e =
        let w = get_or h.0 r [] in
        let c = get_or (class_firsts atoms) k 0 in
        let q : x ≡ row_of atoms h.0 (w ++ c ∷ []) =
        e ∙ get_or-map (λ c. row_of atoms h.0 (w ++ c ∷ [])) (class_firsts atoms) k 0 0 m in
        let b = all-below (w ++ c ∷ [])
        (all-end is_scalar w c (rows_words atoms h.0 h.1.0 w (get_or-in h.0 r [] l)) (first-scalar k m)) in
        omega (arith, q, b)

    pub target-words : (r k x : ℕ) → x ≡ get_or (targets_of atoms h.0 (get_or h.0 r [])) k 0
        → (w : List ℕ) (c : ℕ) → list_all is_scalar w ≡ true → is_scalar c ≡ true → r ≡ row_of atoms h.0 w
        → k ≡ class_of atoms c → x ≡ row_of atoms h.0 (w ++ c ∷ [])
    target-words r k x e w c s t p q =
        e ∙ ap₂ (λ i j. get_or (targets_of atoms h.0 (get_or h.0 i [])) j 0) p q ∙ row_next atoms h.0 h.1.0 w c s t

    pub truth-at : (i : ℕ) (w : List ℕ) (b : Bool) → i < length atoms → b ≡ is_true (get_or atoms i (LengthMin 0)) w
        → b ≡ get_or (signature_of atoms w) i false
    truth-at i w b l e = e ∙ sym (get_or-map (λ a. is_true a w) atoms i (LengthMin 0) false l)

    pub truth-words : (r i : ℕ) (b : Bool) → i < length atoms
        → b ≡ get_or (signature_of atoms (get_or h.0 r [])) i false
        → (w : List ℕ) → list_all is_scalar w ≡ true → r ≡ row_of atoms h.0 w
        → b ≡ is_true (get_or atoms i (LengthMin 0)) w
    truth-words r i b l e w s p =
        e ∙ ap (λ j. get_or (signature_of atoms (get_or h.0 j [])) i false) p
        ∙ ap (λ bs. get_or bs i false) (row_truth atoms h.0 h.1.0 w s)
        ∙ get_or-map (λ a. is_true a w) atoms i (LengthMin 0) false l
