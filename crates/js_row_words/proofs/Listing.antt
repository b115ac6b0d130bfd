-- The words that lead to marked rows are those that an automaton lists; they are found length by length.
use Rattle.std.proofs.Common.{◌≡◌, ℕ, zero, suc, ◌+◌, ◌-◌, ◌<◌, ◌≤◌, ◌⊎◌, inl, inr, min, List, [], ◌∷◌, ◌++◌, Bool, true, false, cond, map, get_or, length, take, Some, None, Result, Ok, Err, IfOk, refl, ap, ap₂, sym, ◌∙◌, subst, append_assoc, append-nil, arith}
use Rattle.std.specs.List.{range_with_len, slice_get}
use Rattle.std.proofs.lemmas.Bool.{cases_lt, cases_eq}
use Rattle.std.proofs.lemmas.List.{length-take, take_all, take_min, take-append-le, get_or_append_left, get_or_push, length_push}
use Rattle.std.proofs.lemmas.Option.{slice_get_within, get_or_from_slice_get, slice_get-get_or}
use Rattle.list_laws.specs.In.{IsIn}
use Rattle.list_laws.proofs.Lists.{get_or-in}
use Rattle.word_states.specs.Atom.{Atom}
use Rattle.word_states.specs.Classes.{characters}
use Rattle.word_states.specs.WordState.{have_same_state}
use Rattle.word_states.specs.Rows.{AreRows, row_of}
use Rattle.word_laws.proofs.Places.{place_like}
use Rattle.word_laws.proofs.States.{same_laws}
use Rattle.word_laws.proofs.RowLaws.{rows_words}
use Rattle.list_laws.proofs.Counts.{sum_over}
use Rattle.cell_laws.specs.FirstWords.{of_length, shorter}
use Rattle.cell_laws.proofs.Ranks.{counted, word_is}
use Rattle.cell_laws.proofs.Rows.{target_in, row_is, leads_on, one_row, first_row}
use Rattle.cell_laws.proofs.Tables as T
use Rattle.cell_laws.proofs.Characters as C
use Rattle.finders.specs.WordsFound.{far}
use Rattle.js_row_words.specs.RowWords.{is_marked, words_from}
use Rattle.js_row_words.specs.Counts.{to_row, AreNumbers, AreLengths, words_of_length, numbers_by, word_by}
use Rattle.js_row_words.proofs.NumberLaws.{cut_longer}
use Rattle.js_row_words.proofs.WordSteps.{word_same, taken}

take_past : {A : Type 0} (n : ℕ) (xs ys : List A) → length xs ≤ n → take n (xs ++ ys) ≡ xs ++ take (n - length xs) ys
take_past n [] ys l = let e : n ≡ n - 0 = omega arith in ap (λ z. take z ys) e
take_past zero (x ∷ xs) ys l = absurd (omega (arith, l))
take_past (suc n) (x ∷ xs) ys l =
    let e : n - length xs ≡ suc n - suc (length xs) = omega arith in
    ap (λ z. x ∷ z) (take_past n xs ys (omega (arith, l)) ∙ ap (λ z. xs ++ take z ys) e)

module _ (atoms : List Atom) (L : List (List ℕ)) (rows : AreRows atoms L) (marks : List Bool) where
  abbrev pub in_rows : ℕ → Bool
  in_rows r = is_marked atoms L marks (get_or L r [])

  abbrev pub to : ℕ → ℕ → ℕ
  to = to_row atoms L

  abbrev pub listed : ℕ → List (List ℕ)
  listed m = shorter characters to in_rows m 0

  abbrev pub number : ℕ → ℕ → ℕ
  number = words_of_length atoms L marks

  -- words of one state lead to one row
  pub shared : (v w : List ℕ) → have_same_state atoms v w ≡ true
      → is_marked atoms L marks v ≡ is_marked atoms L marks w
  shared v w e = ap (λ r. get_or marks r false) (place_like (have_same_state atoms) (same_laws atoms) v w L e)

  -- a row's word leads to it
  pub own_row : (r : ℕ) → r < length L → row_of atoms L (get_or L r []) ≡ r
  own_row r l =
      let w = get_or L r [] in
      one_row atoms L rows w (row_of atoms L w) r
      (row_is atoms L rows w (rows_words atoms L rows w (get_or-in L r [] l))) (l, (same_laws atoms).refl w)

  pub mark_is : (r : ℕ) → r < length L → in_rows r ≡ get_or marks r false
  mark_is r l = ap (λ z. get_or marks z false) (own_row r l)

  some : 0 < length L
  some = (first_row atoms L rows).0

  closed : (r c : ℕ) → r < length L → IsIn c characters → to r c < length L
  closed = T.closed atoms L (target_in atoms L) (leads_on atoms L rows) (is_marked atoms L marks) shared characters
      (C.different 0x110000) (C.scalars 0x110000) C.whole

  -- the words from row 0 are those that the automaton lists
  pub words_listed : words_from atoms L marks 0 ≡ listed far
  words_listed =
      T.passed atoms L (target_in atoms L) (leads_on atoms L rows) (is_marked atoms L marks) shared characters
      (C.different 0x110000) (C.scalars 0x110000) C.whole 0 (get_or L 0 [])
      (some, (same_laws atoms).refl (get_or L 0 []))
      far

  -- those of fewer letters come first
  listed_more : (m k : ℕ) → (X : List (List ℕ)) × (listed (k + m) ≡ listed m ++ X)
  listed_more m zero = ([], (let e : 0 + m ≡ m = omega arith in ap listed e ∙ sym (append-nil (listed m))))
  listed_more m (suc k) =
      let (X, e) = listed_more m k in
      let q : suc k + m ≡ suc (k + m) = omega arith in (
        X ++ of_length characters to in_rows (k + m) 0,
        ap listed q ∙ ap (λ z. z ++ of_length characters to in_rows (k + m) 0) e
            ∙ append_assoc (listed m) X (of_length characters to in_rows (k + m) 0),
      )

  module _ (count : ℕ) where
    -- what is found when all words of fewer letters are gone through than there are lengths
    pub record IsListing (words : List (List ℕ)) (table : List (List ℕ)) : Type 0 where
      pub found : words ≡ take count (listed (length table))
      pub counts : AreLengths atoms L marks count table
      pub small : length table ≤ far

    pub listing_begins : (words table : List (List ℕ)) → words ≡ [] → table ≡ [] → IsListing words table
    listing_begins words table e f = record {
      found = e ∙ sym (none count) ∙ ap (λ z. take count (listed (length z))) (sym f);
      counts = λ i l. absurd (let q : length table ≡ 0 = ap length f in omega (arith, l, q));
      small = let q : length table ≡ 0 = ap length f in omega (arith, q);
    } where
      none : (n : ℕ) → take {A = List ℕ} n [] ≡ []
      none zero = refl
      none (suc n) = refl

    -- the numbers of the empty word
    pub first_numbers : (table : List (List ℕ)) (numbers : List ℕ) → length table ≡ 0 → length marks ≡ length L
        → AreNumbers (length marks) count (λ r. cond (get_or marks r false) 1 0) numbers
        → AreNumbers (length L) count (number (length table)) numbers
    first_numbers table numbers f n a = subst (λ z. AreNumbers (length L) count (number z) numbers) (sym f) (record {
      size = a.size ∙ n;
      cut = λ r l. a.cut r (omega (arith, l, n)) ∙ ap (λ b. min count (cond b 1 0)) (sym (mark_is r l));
    })

    -- and of words with one letter more than there were
    pub longer_numbers : (table : List (List ℕ)) (m : ℕ) (last longer : List ℕ) → length table ≡ suc m
        → last ≡ get_or table m [] → AreLengths atoms L marks count table
        → AreNumbers (length L) count (λ r. sum_over (λ c. get_or last (to r c) 0) characters) longer
        → AreNumbers (length L) count (number (length table)) longer
    longer_numbers table m last longer e q h a =
        subst (λ z. AreNumbers (length L) count (number z) longer) (sym e)
        (cut_longer characters to in_rows (length L) count m closed last longer
        (subst (λ z. AreNumbers (length L) count (number m) z) (sym q) (h m (omega (arith, e)))) a)

    -- the numbers are right, so word k of a length is found by them
    word_right : (table : List (List ℕ)) → AreLengths atoms L marks count table
        → (k : ℕ) → k < count → k < number (length table) 0
        → get_or (of_length characters to in_rows (length table) 0) k [] ≡ word_by atoms L table k
    word_right table h k l m =
        word_is characters to in_rows (λ i r. min count (number i r)) count (λ i r. cut count (number i r))
        (length table) 0 k l m
        ∙ word_same characters to (length L) closed (λ i r. min count (number i r)) (numbers_by table) (length table) 0
        k
        some (λ i r a b. sym ((h i a).cut r b)) where
          cut : (b x : ℕ) → (min b x ≡ x) ⊎ ((min b x ≡ b) × (b ≤ x))
          cut b x = elim (cases_lt b x) [
            | inl l ↦ inr (grind (arith, l), omega (arith, l))
            | inr l ↦ inl (grind (arith, l))
          ]

    -- the words of one more length
    pub listing_more : (words new table : List (List ℕ)) (numbers : List ℕ) (room : ℕ)
        → IsListing words table → AreNumbers (length L) count (number (length table)) numbers
        → length words < count → count ≤ length (words_from atoms L marks 0)
        → room ≡ min (count - length words) (get_or numbers 0 0)
        → new ≡ words ++ map (word_by atoms L table) (range_with_len 0 room)
        → (next : List (List ℕ)) → next ≡ table ++ numbers ∷ [] → IsListing new next
    listing_more words new table numbers room v right few enough r e next p =
        let m = length table in
        let X = of_length characters to in_rows m 0 in
        let n : length X ≡ number m 0 = counted characters to in_rows m 0 in
        let t : length words ≡ min count (length (listed m)) = ap length v.found ∙ length-take count (listed m) in
        let low : length (listed m) ≤ count = below count (length (listed m)) (length words) t few in
        let all : words ≡ listed m = v.found ∙ take_all count (listed m) low in
        let size : length words ≡ length (listed m) = ap length all in
        let q : room ≡ min (count - length words) (length X) =
        r ∙ ap (min (count - length words)) (right.cut 0 some ∙ ap (min count) (sym n))
        ∙ twice count (length words) (length X) in
        let long : length next ≡ suc m = ap length p ∙ length_push table numbers ∙ (omega arith) in
        record {
          found = e
              ∙ ap (λ z. words ++ z)
              (taken (word_by atoms L table) [] X room (lower (count - length words) (length X) room q)
              (λ k l. word_right table v.counts k (inside count (length words) (length X) room k q l)
              (let j = lower (count - length words) (length X) room q in omega (arith, l, j, n)))
              ∙ ap (λ z. take z X) q ∙ take_min (count - length words) X)
              ∙ ap₂ (λ y z. y ++ take (count - z) X) all size
              ∙ sym (take_past count (listed m) X low)
              ∙ ap (λ z. take count (listed z)) (sym long);
          counts = λ i l. subst (λ z. AreNumbers (length L) count (number i) (get_or z i [])) (sym p)
              (elim (cases_lt i m) [
                | inl h ↦ subst (λ z. AreNumbers (length L) count (number i) z)
                    (sym (get_or_append_left table (numbers ∷ []) [] i h)) (v.counts i h)
                | inr h ↦
                    let s : i ≡ m = omega (arith, l, h, long) in
                    subst (λ z. AreNumbers (length L) count (number i) z)
                    (sym (get_or_push table numbers [] i (sym s)))
                    (subst (λ z. AreNumbers (length L) count (number z) numbers) (sym s) right)
              ]);
          small = elim (cases_eq m far) [
            | inl s ↦
                let d : length (words_from atoms L marks 0) ≡ length (listed m) =
                ap length words_listed ∙ ap (λ z. length (listed z)) (sym s) in
                absurd (omega (arith, d, enough, few, size))
            | inr s ↦ let k = v.small in omega (arith, k, s, long)
          ];
        } where
          below : (b x w : ℕ) → w ≡ min b x → w < b → x ≤ b
          below b x w e l = grind (arith, e, l)

          twice : (b w x : ℕ) → min (b - w) (min b x) ≡ min (b - w) x
          twice b w x = grind arith

          lower : (a x r : ℕ) → r ≡ min a x → r ≤ x
          lower a x r e = grind (arith, e)

          inside : (b w x r k : ℕ) → r ≡ min (b - w) x → k < r → k < b
          inside b w x r k e l = grind (arith, e, l)

    -- as many are found as are requested
    pub listing_ends : (words table : List (List ℕ)) → IsListing words table
        → count ≤ length words → words ≡ take count (words_from atoms L marks 0)
    listing_ends words table v l =
        let m = length table in
        let t : length words ≡ min count (length (listed m)) = ap length v.found ∙ length-take count (listed m) in
        let (X, e) = listed_more m (far - m) in
        let k = v.small in
        let s : far - m + m ≡ far = omega (arith, k) in
        v.found
        ∙ sym (take-append-le count (listed m) X (most count (length (listed m)) (length words) t l))
        ∙ ap (take count) (sym e ∙ ap listed s ∙ sym words_listed) where
          most : (b x w : ℕ) → w ≡ min b x → b ≤ w → b ≤ x
          most b x w e l = grind (arith, e, l)

    -- what is left to be gone through
    pub listing_left : (words table : List (List ℕ)) → IsListing words table
        → length words < count → count ≤ length (words_from atoms L marks 0) → length table < far
    listing_left words table v few enough =
        let m = length table in
        let t : length words ≡ min count (length (listed m)) = ap length v.found ∙ length-take count (listed m) in
        elim (cases_eq m far) [
          | inl s ↦
              let d : length (words_from atoms L marks 0) ≡ length (listed m) =
              ap length words_listed ∙ ap (λ z. length (listed z)) (sym s) in
              absurd (never count (length (listed m)) (length words) t few (omega (arith, d, enough)))
          | inr s ↦ let k = v.small in omega (arith, k, s)
        ] where
          never : (b x w : ℕ) → w ≡ min b x → w < b → b ≤ x → ⊥
          never b x w e l m = grind (arith, e, l, m)

-- what holds of an answer, where there is one
pub if_ok : {A E : Type 0} (r : Result A E) (P Q : A → Type 0) → ((x : A) → P x → Q x) → IfOk r P → IfOk r Q
if_ok (Ok x) P Q h p = h x p
if_ok (Err e) P Q h p = tt

-- the last of a list, or that there is none
pub last_is : {A : Type 0} (xs : List A) (x d : A) → Some x ≡ slice_get xs (length xs - 1)
    → (length xs ≡ suc (length xs - 1)) × (x ≡ get_or xs (length xs - 1) d)
last_is xs x d e =
    let l = slice_get_within xs (length xs - 1) x (sym e) in
    (omega (arith, l), sym (get_or_from_slice_get xs (length xs - 1) x d (sym e)))

pub none_last : {A : Type 0} (xs : List A) → None ≡ slice_get xs (length xs - 1) → length xs ≡ 0
none_last [] e = refl
none_last (x ∷ xs) e =
    let f = slice_get-get_or (x ∷ xs) (length (x ∷ xs) - 1) x (omega arith) in
    let q : None ≡ Some (get_or (x ∷ xs) (length (x ∷ xs) - 1) x) = e ∙ f in cc q
