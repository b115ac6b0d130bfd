-- A document meets the node of a value exactly where it is the value.
use Rattle.std.proofs.Common.{◌≡◌, ℕ, ℤ, List, [], ◌∷◌, ◌++◌, length, drop, Bool, true, false, ◌&&◌, not, cond, nat_le, refl, ap, ◌∙◌}
use Rattle.std.proofs.Math.Bool.{and-true, or-false}
use Rattle.std.proofs.lemmas.Bool.{and_parts}
use Rattle.std.specs.Bool.{beq}
use Rattle.std.specs.List.{AllByRecursion, list_any}
use Rattle.std.specs.Ordering.{int_eq}
use Rattle.documents.specs.Tests.{every, some, same_word, is_scalar}
use Rattle.documents.specs.Kind.{Kind, Null, Boolean, Number, Text, Array, Object, same_kind}
use Rattle.documents.specs.Document.{Document, null, boolean, number, string, array, object, Items, no_items, item, Members, no_members, member, elements, entries, is_document, are_documents, are_members, is_before, kind_of}
use Rattle.documents.specs.Measures.{at_number, at_string, at_array, at_object, meets_in_order, has_name, every_in, same_document}
use Rattle.positions.specs.Position.{Position, True, False, Types, BoolIs, NumIn, Words, CountMin, CountMax, MembersOf, Others, Has}
use Rattle.positions.specs.Holds.{asks, at_boolean}
use Rattle.normal_forms.specs.Nodes.{Maker, node, both, above, the_one}
use Rattle.normal_forms.specs.Values.{of_kind, but_last, last_of, items_of, value_node, item_nodes, member_nodes, member_of, no_others}
use Rattle.draft06_laws.proofs.Lists.{all_drop}
use Rattle.list_laws.proofs.Elements.{every-append}
use Rattle.normal_laws.specs.Making.{all_pass, IsMeaning, AreMet, Makes}
use Rattle.normal_laws.proofs.MakingLemmas.{makes-nothing, makes-node, makes-both, makes-above, makes-all}
use Rattle.normal_laws.proofs.ItemTests.{item_tests, items_same}
use Rattle.normal_laws.proofs.MemberTests.{have_all, none_other, names_of, members_same}
use Rattle.list_laws.proofs.Tests.{same_word_comm}

truths_same : (b c : Bool) → beq b c ≡ cond b c (not c)
truths_same true true = refl
truths_same true false = refl
truths_same false true = refl
truths_same false false = refl

abbrev Documents : List Document → Type 0
Documents ds = AllByRecursion (λ d. is_document d ≡ true) ds

pub documents_in : (ds : Items) → are_documents ds ≡ true → Documents (elements ds)
documents_in no_items h = tt
documents_in (item d ds) h =
    let parts = and_parts (is_document d) (are_documents ds) h in (parts.0, documents_in ds parts.1)

-- the tests that an array's node stands for
abbrev pub elements_test : Items → Document → Bool
elements_test ds = at_array (meets_in_order (λ p K. p K) (item_tests ds))

abbrev pub always : Document → Bool
always J = true

-- the tests that an object's node stands for
abbrev pub has_test : List ℕ → Document → Bool
has_test k = at_object (has_name k)

abbrev pub value_test : List ℕ → Document → Document → Bool
value_test k d = at_object (every_in (same_word k) (same_document d))

abbrev pub others_test : List (List ℕ) → Document → Bool
others_test ks = at_object (none_other ks)

abbrev pub member_tests : Members → List (Document → Bool)
member_tests no_members = []
member_tests (member k d ms) = has_test k ∷ value_test k d ∷ member_tests ms

-- what the tests of members say of an object
pub members_pass : (ms ns : Members) → every (λ p. p (object ns)) (member_tests ms) ≡ have_all ms (entries ns)
members_pass no_members ns = refl
members_pass (member k d ms) ns =
    ap (λ b. has_name k (entries ns) && (every_in (same_word k) (same_document d) (entries ns) && b))
    (members_pass ms ns)

abbrev pub kind_test : Kind → Document → Bool
kind_test t J = some (same_kind (kind_of J)) (t ∷ [])

-- the tests of a value's node say that the document is the value
array_passes : (ds : Items) (J : Document)
    → all_pass (kind_test Array ∷ elements_test ds ∷ at_array (λ es. nat_le (length (elements ds)) (length es))
    ∷ at_array (λ es. nat_le (length es) (length (elements ds))) ∷ []) J ≡ same_document (array ds) J
array_passes ds (array es) = items_same ds es
array_passes ds null = refl
array_passes ds (boolean b) = refl
array_passes ds (number n) = refl
array_passes ds (string w) = refl
array_passes ds (object ms) = refl

object_passes : (ms : Members) → are_members ms ≡ true → (J : Document) → is_document J ≡ true
    → all_pass (kind_test Object ∷ member_tests ms ++ others_test (names_of ms) ∷ []) J ≡ same_document (object ms) J
object_passes ms a (object ns) d =
    every-append (λ p. p (object ns)) (member_tests ms) (others_test (names_of ms) ∷ [])
    ∙ rw (members_pass ms ns) (rw (and-true (none_other (names_of ms) (entries ns))) (members_same ms ns a d))
object_passes ms a null d = refl
object_passes ms a (boolean b) d = refl
object_passes ms a (number n) d = refl
object_passes ms a (string w) d = refl
object_passes ms a (array ds) d = refl

boolean_passes : (b : Bool) (J : Document) → (same_kind (kind_of J) Boolean && at_boolean (beq b) J)
    ≡ same_document (boolean b) J
boolean_passes b (boolean c) = truths_same b c
boolean_passes b null = refl
boolean_passes b (number n) = refl
boolean_passes b (string w) = refl
boolean_passes b (array ds) = refl
boolean_passes b (object ms) = refl

number_passes : (n : ℤ) (J : Document)
    → (same_kind (kind_of J) Number && at_number (λ x. list_any (λ m. int_eq m x) (n ∷ [])) J)
    ≡ same_document (number n) J
number_passes n (number x) = or-false (int_eq n x)
number_passes n null = refl
number_passes n (boolean b) = refl
number_passes n (string w) = refl
number_passes n (array ds) = refl
number_passes n (object ms) = refl

string_passes : (w : List ℕ) (J : Document)
    → (same_kind (kind_of J) Text && at_string (λ v. some (same_word v) (w ∷ [])) J) ≡ same_document (string w) J
string_passes w (string v) = or-false (same_word v w) ∙ same_word_comm v w
string_passes w null = refl
string_passes w (boolean b) = refl
string_passes w (number n) = refl
string_passes w (array ds) = refl
string_passes w (object ms) = refl

null_passes : (J : Document) → kind_test Null J ≡ same_document null J
null_passes null = refl
null_passes (boolean b) = refl
null_passes (number n) = refl
null_passes (string w) = refl
null_passes (array ds) = refl
null_passes (object ms) = refl

module _ (T : List Position) (holds : ℕ → Document → Bool) (meaning : IsMeaning T holds) where
  -- the same test said in other words
  pub makes-same : (f : Maker) (p p' : Document → Bool) → Makes T holds f (p ∷ [])
      → ((J : Document) → is_document J ≡ true → p J ≡ p' J) → Makes T holds f (p' ∷ [])
  makes-same f p p' h e n s = one (f n).named (h n s) where
    one : (qs : List ℕ) → AreMet T holds qs (p ∷ []) → AreMet T holds qs (p' ∷ [])
    one [] m = m
    one (q ∷ []) m = (λ J d. m.0 J d ∙ e J d, tt)
    one (q ∷ r ∷ rs) m = absurd m.1

  -- documents of a kind that meet a further position
  pub makes-kind : (t : Kind) (P : Position) (p : Document → Bool)
      → ((J : Document) → is_document J ≡ true → asks (λ q. holds q J) holds P J ≡ p J)
      → Makes T holds (of_kind t P) ((λ J. same_kind (kind_of J) t && p J) ∷ [])
  makes-kind t P p h =
      makes-same (of_kind t P) (all_pass (kinds ∷ p ∷ [])) (λ J. same_kind (kind_of J) t && p J)
      (makes-all T holds meaning (both (node (Types (t ∷ []))) (node P)) (kinds ∷ p ∷ [])
      (makes-both T holds meaning (node (Types (t ∷ []))) (node P) (kinds ∷ []) (p ∷ [])
      (makes-node T holds meaning (Types (t ∷ [])) kinds (λ J d. refl)) (makes-node T holds meaning P p h)))
      (λ J d. rw (or-false (same_kind (kind_of J) t)) (rw (and-true (p J)) refl)) where
        kinds : Document → Bool
        kinds = kind_test t

  -- the last of the named positions, and those before it
  met-last : (qs : List ℕ) (ps : List (Document → Bool)) (t : Document → Bool) → AreMet T holds qs (ps ++ t ∷ [])
      → AreMet T holds (but_last qs) ps × ((J : Document) → is_document J ≡ true → holds (last_of qs) J ≡ t J)
  met-last [] [] t m = absurd m
  met-last [] (p ∷ ps) t m = absurd m
  met-last (q ∷ []) [] t m = (tt, m.0)
  met-last (q ∷ r ∷ rs) [] t m = absurd m.1
  met-last (q ∷ []) (p ∷ []) t m = absurd m.1
  met-last (q ∷ []) (p ∷ p' ∷ ps) t m = absurd m.1
  met-last (q ∷ r ∷ rs) (p ∷ ps) t m = let rest = met-last (r ∷ rs) ps t m.1 in ((m.0, rest.0), rest.1)

  met-in_order : (qs : List ℕ) (ps : List (Document → Bool)) (ds : List Document) → AreMet T holds qs ps → Documents ds
      → meets_in_order holds qs ds ≡ meets_in_order (λ p K. p K) ps ds
  met-in_order [] [] ds m h = refl
  met-in_order [] (p ∷ ps) ds m h = absurd m
  met-in_order (q ∷ qs) [] ds m h = absurd m
  met-in_order (q ∷ qs) (p ∷ ps) [] m h = refl
  met-in_order (q ∷ qs) (p ∷ ps) (d ∷ ds) m h = rw (m.0 d h.0) (rw (met-in_order qs ps ds m.1 h.1) refl)

  every-always : (q : ℕ) (ds : List Document) → ((J : Document) → is_document J ≡ true → holds q J ≡ true)
      → Documents ds → every (holds q) ds ≡ true
  every-always q [] m h = refl
  every-always q (d ∷ ds) m h = rw (m d h.0) (every-always q ds m h.1)

  every-in : (set : List ℕ → Bool) (q : ℕ) (p : Document → Bool) (ms : List (List ℕ × Document))
      → ((J : Document) → is_document J ≡ true → holds q J ≡ p J)
      → AllByRecursion (λ m. is_document m.1 ≡ true) ms
      → every_in set (holds q) ms ≡ every_in set p ms
  every-in set q p [] m h = refl
  every-in set q p (n ∷ ms) m h = rw (m n.1 h.0) (rw (every-in set q p ms m h.1) refl)

  the_one-met : (qs : List ℕ) (p : Document → Bool) → AreMet T holds qs (p ∷ []) → (J : Document)
      → is_document J ≡ true → holds (the_one qs) J ≡ p J
  the_one-met [] p m = absurd m
  the_one-met (q ∷ qs) p m = m.0

  -- ---- arrays
  items_asked : (ds : Items) (qs : List ℕ) → AreMet T holds qs (item_tests ds ++ always ∷ []) → (J : Document)
      → is_document J ≡ true → asks (λ q. holds q J) holds (items_of qs) J ≡ elements_test ds J
  items_asked ds qs m (array es) d =
      let parts = met-last qs (item_tests ds) always m in
      let inside = documents_in es d in
      rw (every-always (last_of qs) (drop (length (but_last qs)) (elements es)) parts.1
      (all_drop _ (length (but_last qs)) (elements es) inside))
      (and-true (meets_in_order holds (but_last qs) (elements es))
      ∙ met-in_order (but_last qs) (item_tests ds) (elements es) parts.0 inside)
  items_asked ds qs m null d = refl
  items_asked ds qs m (boolean b) d = refl
  items_asked ds qs m (number n) d = refl
  items_asked ds qs m (string w) d = refl
  items_asked ds qs m (object ms) d = refl

  -- ---- objects
  pub values_in : (ms : Members) → are_members ms ≡ true → AllByRecursion (λ m. is_document m.1 ≡ true) (entries ms)
  values_in no_members h = tt
  values_in (member k d ms) h =
      let last = and_parts (every is_scalar k && is_document d && is_before k ms) (are_members ms) h in
      let three = and_parts (every is_scalar k && is_document d) (is_before k ms) last.0 in
      let two = and_parts (every is_scalar k) (is_document d) three.0 in (two.1, values_in ms last.1)

  member_asked : (k : List ℕ) (d : Document) (qs : List ℕ) → AreMet T holds qs (same_document d ∷ []) → (J : Document)
      → is_document J ≡ true → asks (λ q. holds q J) holds (member_of k qs) J ≡ value_test k d J
  member_asked k d qs m (object ms) h =
      every-in (same_word k) (the_one qs) (same_document d) (entries ms) (the_one-met qs (same_document d) m)
      (values_in ms h)
  member_asked k d qs m null h = refl
  member_asked k d qs m (boolean b) h = refl
  member_asked k d qs m (number n) h = refl
  member_asked k d qs m (string w) h = refl
  member_asked k d qs m (array ds) h = refl

  none-same : (ks : List (List ℕ)) (ms : List (List ℕ × Document)) →
      every_in (λ w. not (some (same_word w) ks) && true) (λ d. false) ms ≡ none_other ks ms
  none-same ks [] = refl
  none-same ks (m ∷ ms) = rw (and-true (not (some (same_word m.0) ks))) (rw (none-same ks ms) refl)

  others_asked : (ks : List (List ℕ)) (qs : List ℕ) → AreMet T holds qs ((λ J. false) ∷ []) → (J : Document)
      → is_document J ≡ true
      → asks (λ q. holds q J) holds (MembersOf (Others ks []) (the_one qs)) J ≡ others_test ks J
  others_asked ks qs m (object ms) h =
      every-in (λ w. not (some (same_word w) ks) && true) (the_one qs) (λ J. false) (entries ms)
      (the_one-met qs (λ J. false) m) (values_in ms h)
      ∙ none-same ks (entries ms)
  others_asked ks qs m null h = refl
  others_asked ks qs m (boolean b) h = refl
  others_asked ks qs m (number n) h = refl
  others_asked ks qs m (string w) h = refl
  others_asked ks qs m (array ds) h = refl

  makes-others : (ks : List (List ℕ)) → Makes T holds (no_others ks) (others_test ks ∷ [])
  makes-others ks =
      makes-above T holds meaning (λ qs. MembersOf (Others ks []) (the_one qs)) (others_test ks) (node False)
      ((λ J. false) ∷ []) (makes-node T holds meaning False (λ J. false) (λ J d. refl)) (others_asked ks)

  abbrev counts : ℕ → Maker
  counts n = both (node (CountMin n)) (node (CountMax n))

  abbrev count_tests : ℕ → List (Document → Bool)
  count_tests n = at_array (λ es. nat_le n (length es)) ∷ at_array (λ es. nat_le (length es) n) ∷ []

  makes-counts : (n : ℕ) → Makes T holds (counts n) (count_tests n)
  makes-counts n =
      makes-both T holds meaning (node (CountMin n)) (node (CountMax n)) (at_array (λ es. nat_le n (length es)) ∷ [])
      (at_array (λ es. nat_le (length es) n) ∷ [])
      (makes-node T holds meaning (CountMin n) (at_array (λ es. nat_le n (length es))) (λ J d. refl))
      (makes-node T holds meaning (CountMax n) (at_array (λ es. nat_le (length es) n)) (λ J d. refl))

  makes-kinds : (t : Kind) → Makes T holds (node (Types (t ∷ []))) (kind_test t ∷ [])
  makes-kinds t = makes-node T holds meaning (Types (t ∷ [])) (kind_test t) (λ J d. refl)

  -- the makers of an array's and an object's parts
  abbrev elements_made : Items → Maker
  elements_made ds = above items_of (both (item_nodes ds) (node True))

  abbrev array_rest : Items → Maker
  array_rest ds = both (elements_made ds) (counts (length (elements ds)))

  abbrev object_rest : Members → Maker
  object_rest ms = both (member_nodes ms) (no_others (names_of ms))

  abbrev member_rest : List ℕ → Document → Members → Maker
  member_rest k d ms = both (above (member_of k) (value_node d)) (member_nodes ms)

  mutual
    pub value_makes : (d : Document) → is_document d ≡ true → Makes T holds (value_node d) (same_document d ∷ [])
    value_makes null a =
        makes-node T holds meaning (Types (Null ∷ [])) (same_document null) (λ J d. null_passes J)
    value_makes (boolean b) a =
        makes-same (of_kind Boolean (BoolIs b)) _ (same_document (boolean b))
        (makes-kind Boolean (BoolIs b) (at_boolean (beq b)) (λ J d. refl)) (λ J d. boolean_passes b J)
    value_makes (number n) a =
        makes-same (of_kind Number (NumIn (n ∷ []))) _ (same_document (number n))
        (makes-kind Number (NumIn (n ∷ [])) (at_number (λ x. list_any (λ m. int_eq m x) (n ∷ []))) (λ J d. refl))
        (λ J d. number_passes n J)
    value_makes (string w) a =
        makes-same (of_kind Text (Words (w ∷ []))) _ (same_document (string w))
        (makes-kind Text (Words (w ∷ [])) (at_string (λ v. some (same_word v) (w ∷ []))) (λ J d. refl))
        (λ J d. string_passes w J)
    value_makes (array ds) a =
        makes-same (value_node (array ds)) _ (same_document (array ds))
        (makes-all T holds meaning (both (node (Types (Array ∷ []))) (array_rest ds))
        (kind_test Array ∷ elements_test ds ∷ count_tests (length (elements ds)))
        (makes-both T holds meaning (node (Types (Array ∷ []))) (array_rest ds) (kind_test Array ∷ [])
        (elements_test ds ∷ count_tests (length (elements ds))) (makes-kinds Array)
        (makes-both T holds meaning (elements_made ds) (counts (length (elements ds)))
        (elements_test ds ∷ []) (count_tests (length (elements ds)))
        (makes-above T holds meaning items_of (elements_test ds) (both (item_nodes ds) (node True))
        (item_tests ds ++ always ∷ [])
        (makes-both T holds meaning (item_nodes ds) (node True) (item_tests ds) (always ∷ []) (items_make ds a)
        (makes-node T holds meaning True always (λ J d. refl)))
        (items_asked ds))
        (makes-counts (length (elements ds))))))
        (λ J d. array_passes ds J)
    value_makes (object ms) a =
        makes-same (value_node (object ms)) _ (same_document (object ms))
        (makes-all T holds meaning (both (node (Types (Object ∷ []))) (object_rest ms))
        (kind_test Object ∷ member_tests ms ++ others_test (names_of ms) ∷ [])
        (makes-both T holds meaning (node (Types (Object ∷ []))) (object_rest ms) (kind_test Object ∷ [])
        (member_tests ms ++ others_test (names_of ms) ∷ []) (makes-kinds Object)
        (makes-both T holds meaning (member_nodes ms) (no_others (names_of ms)) (member_tests ms)
        (others_test (names_of ms) ∷ []) (members_make ms a) (makes-others (names_of ms)))))
        (λ J d. object_passes ms a J d)

    items_make : (ds : Items) → are_documents ds ≡ true → Makes T holds (item_nodes ds) (item_tests ds)
    items_make no_items a = makes-nothing T holds meaning
    items_make (item d ds) a =
        let parts = and_parts (is_document d) (are_documents ds) a in
        makes-both T holds meaning (value_node d) (item_nodes ds) (same_document d ∷ []) (item_tests ds)
        (value_makes d parts.0) (items_make ds parts.1)

    members_make : (ms : Members) → are_members ms ≡ true → Makes T holds (member_nodes ms) (member_tests ms)
    members_make no_members a = makes-nothing T holds meaning
    members_make (member k d ms) a =
        let last = and_parts (every is_scalar k && is_document d && is_before k ms) (are_members ms) a in
        let three = and_parts (every is_scalar k && is_document d) (is_before k ms) last.0 in
        let two = and_parts (every is_scalar k) (is_document d) three.0 in
        makes-both T holds meaning (node (Has k)) (member_rest k d ms) (has_test k ∷ [])
        (value_test k d ∷ member_tests ms)
        (makes-node T holds meaning (Has k) (has_test k) (λ J h. refl))
        (makes-both T holds meaning (above (member_of k) (value_node d)) (member_nodes ms) (value_test k d ∷ [])
        (member_tests ms)
        (makes-above T holds meaning (member_of k) (value_test k d) (value_node d) (same_document d ∷ [])
        (value_makes d two.1) (member_asked k d))
        (members_make ms last.1))
