-- A binary search among names that rise, each before the next one.
use Rattle.std.proofs.Common.{◌≡◌, ◌⊎◌, inl, inr, ℕ, ◌+◌, ◌<◌, ◌≤◌, zero, suc, List, [], ◌∷◌, map, length, get_or, Bool, true, false, ◌&&◌, cond, Some, None, Ordering, Less, Equal, Greater, nat_cmp, chars, encode_utf8_all, IsUtf8, refl, sym, ap, ◌∙◌, arith, true≢false}
use Rattle.std.proofs.lemmas.Bool.{and_parts, cases_lt}
use Rattle.std.proofs.lemmas.Slice.Eq.{bytes_eq-Decides}
use Rattle.std.proofs.Math.ListN.{length-map}
use Rattle.std.proofs.lemmas.List as ListsAt
use Rattle.std.proofs.lemmas.List.Sorted.{searchable_from_sorted}
use Rattle.std.proofs.lemmas.Cmp.{nat_list_cmp_total}
use Rattle.std.proofs.lemmas.Str.{encodes-chars, chars_from_encodes}
use Rattle.std.specs.List.Sorted.{IsSortedBy, IsNonDecreasingBy, IsPartitionPoint}
use Rattle.std.specs.Ordering.{is_lt, ordering_index, ordering_reverse}
use Rattle.documents.specs.Tests.{same_word, comes_before}
use Rattle.documents.specs.Document as D
use Rattle.documents.specs.Json as J
use Rattle.documents.specs.WellFormed as F
use Rattle.documents.proofs.NameOrder.{comes_before-same, comes_before-trans}
use Rattle.std.specs.Cmp.Lexicographic.{slice_cmp}
use Rattle.js_doc.specs.declared.rising.Named.{Named}
use Rattle.js_doc.specs.Names.{names_of, pairs_of}
pub use Rattle.js_doc.specs.Names.{starts_after, rise, find_in}
use Rattle.js_doc.proofs.Levels.{get_or-mapped}
use Rattle.js_doc.proofs.Lookups.{same_word-bytes_eq}
use Rattle.js_doc.proofs.WordOrder.{comes_before-encodes, comes_before-chars, comes_after-chars, same_text}

-- ---- names

-- the first comes before all others
before_all : (k : List ℕ) (ks : List (List ℕ)) → starts_after k ks ≡ true → rise ks ≡ true
    → (j : ℕ) → j < length ks → comes_before k (get_or ks j []) ≡ true
before_all k [] h r j within = absurd (omega arith)
before_all k (l ∷ ls) h r zero within = h
before_all k (l ∷ ls) h r (suc j) within =
    let both = and_parts (starts_after l ls) (rise ls) r in
    comes_before-trans k l (get_or ls j []) h (before_all l ls both.0 both.1 j (omega arith))

pub rising : (ks : List (List ℕ)) → rise ks ≡ true → (i j : ℕ) → i < j → j < length ks
    → comes_before (get_or ks i []) (get_or ks j []) ≡ true
rising [] r i j less within = absurd (omega arith)
rising (k ∷ ks) r i zero less within = absurd (omega arith)
rising (k ∷ ks) r zero (suc j) less within =
    let both = and_parts (starts_after k ks) (rise ks) r in before_all k ks both.0 both.1 j (omega arith)
rising (k ∷ ks) r (suc i) (suc j) less within =
    let both = and_parts (starts_after k ks) (rise ks) r in rising ks both.1 i j (omega arith) (omega arith)

-- names up to one that comes before the word do so too
pub all_before : (ks : List (List ℕ)) (w : List ℕ) (i : ℕ) → rise ks ≡ true → i < length ks
    → comes_before (get_or ks i []) w ≡ true → (k : ℕ) → k < i + 1 → comes_before (get_or ks k []) w ≡ true
all_before ks w i r within h k less = elim (cases_lt k i) [
  | inl l ↦ comes_before-trans (get_or ks k []) (get_or ks i []) w (rising ks r k i l within) h
  | inr g ↦ let same : k ≡ i = omega arith in rw same h
]

-- and names from one on that comes after the word come after it
pub all_after : (ks : List (List ℕ)) (w : List ℕ) (i : ℕ) → rise ks ≡ true → i < length ks
    → comes_before w (get_or ks i []) ≡ true
    → (k : ℕ) → i ≤ k → k < length ks → comes_before w (get_or ks k []) ≡ true
all_after ks w i r within h k more inside = elim (cases_lt i k) [
  | inl l ↦ comes_before-trans w (get_or ks i []) (get_or ks k []) h (rising ks r i k l inside)
  | inr g ↦ let same : k ≡ i = omega arith in rw same h
]

-- ---- members by their names, whatever they have

module _ {A : Type 0} where
  abbrev pub names : List (List ℕ × A) → List (List ℕ)
  names ms = map (λ m. m.0) ms

same_word-from : (v w : List ℕ) → v ≡ w → same_word v w ≡ true
same_word-from v w e = same_word-bytes_eq v w ∙ (bytes_eq-Decides v w).1 e

-- a word is none of those that come before or after it
other_word : (w k : List ℕ) (test : Bool) → same_word w k ≡ test
    → (comes_before k w ≡ true) ⊎ (comes_before w k ≡ true) → test ≡ false
other_word w k false e h = refl
other_word w k true e (inl h) =
    let same = (bytes_eq-Decides w k).0 (sym (same_word-bytes_eq w k) ∙ e) in
    absurd (true≢false (sym h ∙ ap (comes_before k) same ∙ comes_before-same k))
other_word w k true e (inr h) =
    let same = (bytes_eq-Decides w k).0 (sym (same_word-bytes_eq w k) ∙ e) in
    absurd (true≢false (sym h ∙ ap (λ v. comes_before v k) same ∙ comes_before-same k))

different : (w k : List ℕ) → (comes_before k w ≡ true) ⊎ (comes_before w k ≡ true) → same_word w k ≡ false
different w k h = other_word w k (same_word w k) refl h

module _ {A : Type 0} where
  pub named_at : (ms : List (List ℕ × A)) (i : ℕ) (m : List ℕ × A) → i < length ms → m ≡ get_or ms i m
      → get_or (names ms) i [] ≡ m.0
  named_at ms i m within is = ListsAt.get_or-map (λ n. n.0) ms i m [] within ∙ ap (λ n. n.0) (sym is)

  -- the member of that name is the one that is found
  pub found_at : (ms : List (List ℕ × A)) (w : List ℕ) (i : ℕ) (m : List ℕ × A) → rise (names ms) ≡ true
      → i < length ms → m ≡ get_or ms i m → m.0 ≡ w → find_in w ms ≡ Some m.1
  found_at [] w i m r within is named = absurd (omega arith)
  found_at (n ∷ ms) w zero m r within is named =
      let same = same_word-from w n.0 (sym named ∙ ap (λ x. x.0) is) in
      rw same (ap (λ x. Some x.1) (sym is))
  found_at (n ∷ ms) w (suc i) m r within is named =
      let both = and_parts (starts_after n.0 (names ms)) (rise (names ms)) r in
      let inside : i < length ms = omega arith in
      let there : i < length (names ms) = rw length-map inside in
      let at : get_or (names ms) i [] ≡ w = named_at ms i m inside is ∙ named in
      let before = before_all n.0 (names ms) both.0 both.1 i there in
      let other = different w n.0 (inl (ap (comes_before n.0) (sym at) ∙ before)) in
      rw other (found_at ms w i m both.1 inside is named)

  -- a name that each name comes before or after is not found
  pub absent : (ms : List (List ℕ × A)) (w : List ℕ)
      → ((k : ℕ) → k < length ms
      → (comes_before (get_or (names ms) k []) w ≡ true) ⊎ (comes_before w (get_or (names ms) k []) ≡ true))
      → find_in w ms ≡ None
  absent [] w h = refl
  absent (m ∷ ms) w h =
      let other = different w m.0 (h zero (omega arith)) in
      rw other (absent ms w (λ k less. h (suc k) (omega arith)))

-- ---- the search in documents and in JSON values

pub lookup-find_in : (w : List ℕ) (ms : List (List ℕ × D.Document)) → D.lookup w (D.members_of ms) ≡ find_in w ms
lookup-find_in w [] = refl
lookup-find_in w (m ∷ ms) = ap (cond (same_word w m.0) (Some m.1)) (lookup-find_in w ms)

is_before-starts : (k : List ℕ) (ms : List (List ℕ × D.Document))
    → D.is_before k (D.members_of ms) ≡ starts_after k (names ms)
is_before-starts k [] = refl
is_before-starts k (m ∷ ms) = refl

pub names_rise-names : (ms : List (List ℕ × D.Document)) → D.names_rise (D.members_of ms) ≡ rise (names ms)
names_rise-names [] = refl
names_rise-names (m ∷ ms) =
    ap (λ b. b && D.names_rise (D.members_of ms)) (is_before-starts m.0 ms)
    ∙ ap (λ b. starts_after m.0 (names ms) && b) (names_rise-names ms)

pub json_lookup-find_in : (w : List ℕ) (ms : List (List ℕ × J.Json)) → J.lookup w (J.members_of ms) ≡ find_in w ms
json_lookup-find_in w [] = refl
json_lookup-find_in w (m ∷ ms) = ap (cond (same_word w m.0) (Some m.1)) (json_lookup-find_in w ms)

json_is_before-starts : (k : List ℕ) (ms : List (List ℕ × J.Json))
    → F.is_before k (J.members_of ms) ≡ starts_after k (names ms)
json_is_before-starts k [] = refl
json_is_before-starts k (m ∷ ms) = refl

pub json_names_rise-names : (ms : List (List ℕ × J.Json)) → F.names_rise (J.members_of ms) ≡ rise (names ms)
json_names_rise-names [] = refl
json_names_rise-names (m ∷ ms) =
    ap (λ b. b && F.names_rise (J.members_of ms)) (json_is_before-starts m.0 ms)
    ∙ ap (λ b. starts_after m.0 (names ms) && b) (json_names_rise-names ms)

-- ---- the steps of the search, among members that are seen as names with what they have

pub record IsMiddle {A B : Type 0} (f : B → List ℕ × A) (items : List B) (i : ℕ) (b : B) (text name : List ℕ) : Type 0 where
  pub rises : rise (names (map f items)) ≡ true
  pub within : i < length items
  pub is : b ≡ get_or items i b
  pub spelled : chars text ≡ (f b).0
  pub text_utf8 : IsUtf8 text
  pub name_utf8 : IsUtf8 name

module _ {A B : Type 0} (f : B → List ℕ × A) (items : List B) (i : ℕ) (b : B) (text name : List ℕ)
    (h : IsMiddle f items i b text name) where
  mapped : f b ≡ get_or (map f items) i (f b)
  mapped = get_or-mapped f items (map f items) i b refl h.is

  inside : i < length (map f items)
  inside = rw length-map h.within

  key : get_or (names (map f items)) i [] ≡ chars text
  key = named_at (map f items) i (f b) inside mapped ∙ sym h.spelled

  key_inside : i < length (names (map f items))
  key_inside = rw length-map inside

  pub less_step : Less ≡ slice_cmp nat_cmp text name → (k : ℕ) → k < i + 1
      → comes_before (get_or (names (map f items)) k []) (chars name) ≡ true
  less_step e k less =
      let before = comes_before-chars text name h.text_utf8 h.name_utf8 (sym e) in
      all_before (names (map f items)) (chars name) i h.rises key_inside
      (ap (λ w. comes_before w (chars name)) key ∙ before) k less

  pub greater_step : Greater ≡ slice_cmp nat_cmp text name → (k : ℕ) → i ≤ k → k < length items
      → comes_before (chars name) (get_or (names (map f items)) k []) ≡ true
  greater_step e k more within =
      let after = comes_after-chars text name h.text_utf8 h.name_utf8 (sym e) in
      let there : k < length (names (map f items)) = rw length-map (rw length-map within) in
      all_after (names (map f items)) (chars name) i h.rises key_inside
      (ap (comes_before (chars name)) key ∙ after) k more there

  pub equal_found : Equal ≡ slice_cmp nat_cmp text name → find_in (chars name) (map f items) ≡ Some (f b).1
  equal_found e =
      found_at (map f items) (chars name) i (f b) h.rises inside mapped
      (sym h.spelled ∙ ap chars (same_text text name (sym e)))

-- ---- the same by std's binary search, which compares names by their bytes

abbrev pub order_of : {A B : Type 0} → (B → List ℕ × A) → List ℕ → B → Ordering
order_of f name b = slice_cmp nat_cmp (encode_utf8_all (f b).0) name

-- a word isn't before one that comes before it
not_before : (v w : List ℕ) → comes_before w v ≡ true
    → is_lt (slice_cmp nat_cmp (encode_utf8_all v) (encode_utf8_all w)) ≡ false
not_before v w h = go (slice_cmp nat_cmp (encode_utf8_all v) (encode_utf8_all w)) refl where
  go : (o : Ordering) → slice_cmp nat_cmp (encode_utf8_all v) (encode_utf8_all w) ≡ o → is_lt o ≡ false
  go Less e =
      absurd (true≢false (sym (comes_before-trans v w v (comes_before-encodes v w e) h) ∙ comes_before-same v))
  go Equal e = refl
  go Greater e = refl

some_element : {B : Type 0} (xs : List B) (k : ℕ) → k < length xs → B
some_element [] k l = absurd (omega (arith, l))
some_element (x ∷ xs) k l = x

module _ {A B : Type 0} (f : B → List ℕ × A) (items : List B) where
  name_at : (k : ℕ) (d : B) → k < length items → get_or (names (map f items)) k [] ≡ (f (get_or items k d)).0
  name_at k d l =
      let there : k < length (map f items) = rw length-map l in
      ListsAt.get_or-map (λ n. n.0) (map f items) k (f d) [] there
      ∙ ap (λ n. n.0) (ListsAt.get_or-map f items k d (f d) l)

  sorted : rise (names (map f items)) ≡ true
      → IsSortedBy (λ a b. is_lt (slice_cmp nat_cmp (encode_utf8_all (f a).0) (encode_utf8_all (f b).0))) items
  sorted r k d low high =
      let last : k + 1 < length (names (map f items)) = rw length-map (rw length-map high) in
      not_before (f (get_or items (k + 1) d)).0 (f (get_or items k d)).0
      (ap (λ w. comes_before w (f (get_or items (k + 1) d)).0) (sym (name_at k d (omega (arith, high))))
      ∙ ap (comes_before (get_or (names (map f items)) k [])) (sym (name_at (k + 1) d high))
      ∙ rising (names (map f items)) r k (k + 1) (omega arith) last)

module _ {A B : Type 0} (f : B → List ℕ × A) (items : List B) (name : List ℕ) (utf8 : IsUtf8 name) where
  pub found_member : (i : ℕ) (b : B) → rise (names (map f items)) ≡ true → i < length items → b ≡ get_or items i b
      → order_of f name b ≡ Equal → find_in (chars name) (map f items) ≡ Some (f b).1
  found_member i b r within is e =
      let there : i < length (map f items) = rw length-map within in
      found_at (map f items) (chars name) i (f b) r there (get_or-mapped f items (map f items) i b refl is)
      (chars_from_encodes (f b).0 name utf8 (same_text (encode_utf8_all (f b).0) name e))

  before_name : (w : List ℕ) → slice_cmp nat_cmp (encode_utf8_all w) name ≡ Less → comes_before w (chars name) ≡ true
  before_name w e =
      comes_before-encodes w (chars name)
      (ap (slice_cmp nat_cmp (encode_utf8_all w)) (encodes-chars name utf8) ∙ e)

  after_name : (w : List ℕ) → slice_cmp nat_cmp (encode_utf8_all w) name ≡ Greater
      → comes_before (chars name) w ≡ true
  after_name w e =
      comes_before-encodes (chars name) w
      (ap (λ z. slice_cmp nat_cmp z (encode_utf8_all w)) (encodes-chars name utf8)
      ∙ nat_list_cmp_total.antisymm name (encode_utf8_all w) ∙ ap ordering_reverse e)

  pub absent_member : (i : ℕ) → rise (names (map f items)) ≡ true
      → (IsNonDecreasingBy (λ b. ordering_index (order_of f name b)) items
      → IsPartitionPoint (λ b. order_of f name b ≡ Less) (λ b. order_of f name b ≡ Greater) items i)
      → find_in (chars name) (map f items) ≡ None
  absent_member i r clause =
      let point = clause (searchable_from_sorted nat_list_cmp_total (λ b. encode_utf8_all (f b).0) items name
      (sorted f items r)) in
      absent (map f items) (chars name)
      (λ k within.
      let inside : k < length items = omega (arith, sym (length-map items f), within) in
      let d = some_element items k inside in
      elim (cases_lt k i) [
        | inl l ↦
            inl (ap (λ w. comes_before w (chars name)) (name_at f items k d inside)
            ∙ before_name (f (get_or items k d)).0 (point.0 k d (omega arith) l))
        | inr g ↦
            inr (ap (comes_before (chars name)) (name_at f items k d inside)
            ∙ after_name (f (get_or items k d)).0 (point.1 k d g inside))
      ])

-- the names of members are those of their pairs
pub names-pairs_of : {T : Type 0} (ms : List (Named T)) → names (pairs_of ms) ≡ names_of ms
names-pairs_of [] = refl
names-pairs_of (m ∷ ms) = ap (λ l. m.name.text ∷ l) (names-pairs_of ms)

-- every name comes before the one that is looked for, or after it
module _ {A B : Type 0} (f : B → List ℕ × A) (items : List B) (name : List ℕ) (low high : ℕ) where
  pub not_found : high ≤ low
      → ((k : ℕ) → k < low → comes_before (get_or (names (map f items)) k []) name ≡ true)
      → ((k : ℕ) → high ≤ k → k < length items → comes_before name (get_or (names (map f items)) k []) ≡ true)
      → find_in name (map f items) ≡ None
  not_found met below above =
      absent (map f items) name
      (λ k within. elim (cases_lt k low) [
        | inl l ↦ inl (below k l)
        | inr g ↦ inr (above k (omega arith) (omega (arith, sym (length-map items f), within)))
      ])
