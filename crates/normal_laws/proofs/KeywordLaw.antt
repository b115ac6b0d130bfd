-- The key lemma: a document passes the tests of an object's nodes exactly where it meets what its keywords ask.
use Rattle.std.proofs.Common.{◌≡◌, ℕ, ℤ, pos, ◌+ℤ◌, ◌-ℤ◌, int_le, int_lt, nat_le, List, [], ◌∷◌, ◌++◌, length, Bool, true, false, ◌&&◌, ◌||◌, not, Option, Some, None, refl, ap, ap₂, sym, ◌∙◌, arith}
use Rattle.std.proofs.Math.Bool.{and-true, and_comm, and_assoc}
use Rattle.documents.specs.Tests.{every, some, same_word}
use Rattle.documents.specs.Kind.{same_kind}
use Rattle.documents.specs.Document as D
use Rattle.schemas.specs.Entry as E
use Rattle.documents.specs.Document.{Document, null, boolean, number, string, array, object, is_document, kind_of}
use Rattle.documents.specs.Measures.{exactly_one, is_multiple, at_number, at_string, at_array, at_object, has_name, every_in, same_document}
use Rattle.patterns.specs.Tree.{Tree}
use Rattle.patterns.specs.Decision.{finds}
use Rattle.schemas.specs.Entry.{Keywords}
use Rattle.schemas.specs.Schema.{if_there, meets}
use Rattle.draft06.specs.Names.{each_asks, where_present}
use Rattle.draft06.specs.EntryValidity.{asks_any, asks_number, asks_string, asks_array, asks_object, asks_keywords, has_type, items_ask, rest_asks, need_asks, is_other}
use Rattle.list_laws.proofs.Elements.{every-append}
use Rattle.positions.specs.Position.{Position, All, Any, One, Not, Types, NumMin, NumMax, Multiple, Match, LengthMin, LengthMax, Contains, CountMin, CountMax, MembersOf, Named, Matching, Has, PropsMin, PropsMax, NamesIn}
use Rattle.positions.specs.Holds.{asks}
use Rattle.normal_forms.specs.Nodes.{Maker, node, both, above, each, if_some}
use Rattle.normal_forms.specs.Values.{value_node}
use Rattle.normal_forms.specs.KeywordNodes.{kinds_of, once, groups, items_node, dependency_node, pattern_of, others_of, any_nodes, number_nodes, string_nodes, array_nodes, member_nodes, count_nodes, in_place_nodes, keyword_nodes}
use Rattle.normal_laws.specs.Making.{all_pass, IsMeaning, Makes}
use Rattle.normal_laws.proofs.MakingLemmas.{makes-nothing, makes-node, makes-both, makes-if, tests_of}
use Rattle.normal_laws.proofs.ValueNodes.{value_makes}
use Rattle.normal_laws.proofs.EnumNodes.{enum_makes}
use Rattle.normal_laws.proofs.KeywordNodes as N

-- ---- tests in any order

backwards : (a b c : Bool) → (a && (b && c)) ≡ (c && (b && a))
backwards true true true = refl
backwards true true false = refl
backwards true false true = refl
backwards true false false = refl
backwards false true true = refl
backwards false true false = refl
backwards false false true = refl
backwards false false false = refl

between : (a x i : Bool) → (a && (x && i)) ≡ ((a && i) && x)
between true x i = and_comm x i
between false x i = refl

-- ---- tests of a keyword that may be there
pass-if : {A : Type 0} (ps : A → List (Document → Bool)) (o : Option A) (q : A → Bool) (J : Document)
    → ((x : A) → all_pass (ps x) J ≡ q x) → all_pass (if_there [] ps o) J ≡ meets q o
pass-if ps None q J h = refl
pass-if ps (Some x) q J h = h x

-- a single test
abbrev one_test : {A : Type 0} → (A → Document → Bool) → Option A → List (Document → Bool)
one_test t o = if_there [] (λ x. t x ∷ []) o

pass-one : {A : Type 0} (t : A → Document → Bool) (o : Option A) (J : Document)
    → all_pass (one_test t o) J ≡ meets (λ x. t x J) o
pass-one t None J = refl
pass-one t (Some x) J = and-true (t x J)

always : {A : Type 0} (o : Option A) → meets (λ x. true) o ≡ true
always None = refl
always (Some x) = refl

pass-append : (ps ts : List (Document → Bool)) (J : Document) → all_pass (ps ++ ts) J ≡ (all_pass ps J && all_pass ts J)
pass-append ps ts J = every-append (λ p. p J) ps ts

meets-same : {A : Type 0} (p q : A → Bool) (o : Option A) → ((x : A) → p x ≡ q x) → meets p o ≡ meets q o
meets-same p q None h = refl
meets-same p q (Some x) h = h x

-- ---- the tests of each group
module _ (k : Keywords) where
  abbrev pub number_tests : List (Document → Bool)
  number_tests =
      one_test (λ m. at_number (is_multiple m)) k.multiple_of
      ++ (one_test (λ n. at_number (int_le n)) k.minimum
      ++ (one_test (λ n. at_number (int_lt n)) k.exclusive_minimum
      ++ (one_test (λ n. at_number (λ x. int_le x n)) k.maximum
      ++ one_test (λ n. at_number (λ x. int_lt x n)) k.exclusive_maximum)))

  numbers_pass : (matches : List ℕ → List ℕ → Bool) (here : ℕ → Bool) (below : ℕ → Document → Bool) (J : Document)
      → all_pass number_tests J ≡ at_number (asks_number matches here below k) J
  numbers_pass matches here below J =
      pass-append (one_test (λ m. at_number (is_multiple m)) k.multiple_of) _ J
      ∙ ap₂ ◌&&◌ (pass-one (λ m. at_number (is_multiple m)) k.multiple_of J)
      (pass-append (one_test (λ n. at_number (int_le n)) k.minimum) _ J
      ∙ ap₂ ◌&&◌ (pass-one (λ n. at_number (int_le n)) k.minimum J)
      (pass-append (one_test (λ n. at_number (int_lt n)) k.exclusive_minimum) _ J
      ∙ ap₂ ◌&&◌ (pass-one (λ n. at_number (int_lt n)) k.exclusive_minimum J)
      (pass-append (one_test (λ n. at_number (λ x. int_le x n)) k.maximum) _ J
      ∙ ap₂ ◌&&◌ (pass-one (λ n. at_number (λ x. int_le x n)) k.maximum J)
      (pass-one (λ n. at_number (λ x. int_lt x n)) k.exclusive_maximum J))))
      ∙ by_kind J where
        ordered : (m mi emi ma ema : Bool) → (m && (mi && (emi && (ma && ema)))) ≡ ((((m && ma) && ema) && mi) && emi)
        ordered false mi emi ma ema = refl
        ordered true mi emi ma ema =
            sym (and_assoc mi emi (ma && ema)) ∙ and_comm (mi && emi) (ma && ema)
            ∙ sym (and_assoc (ma && ema) mi emi)

        by_kind : (J : Document)
            → (meets (λ m. at_number (is_multiple m) J) k.multiple_of
            && (meets (λ n. at_number (int_le n) J) k.minimum
            && (meets (λ n. at_number (int_lt n) J) k.exclusive_minimum
            && (meets (λ n. at_number (λ x. int_le x n) J) k.maximum
            && meets (λ n. at_number (λ x. int_lt x n) J) k.exclusive_maximum))))
            ≡ at_number (asks_number matches here below k) J
        by_kind (number x) =
            ordered (meets (λ m. is_multiple m x) k.multiple_of) (meets (λ n. int_le n x) k.minimum)
            (meets (λ n. int_lt n x) k.exclusive_minimum) (meets (λ n. int_le x n) k.maximum)
            (meets (λ n. int_lt x n) k.exclusive_maximum)
        by_kind null =
            rw (always k.multiple_of) (rw (always k.minimum) (rw (always k.exclusive_minimum) (rw (always k.maximum)
            (always k.exclusive_maximum))))
        by_kind (boolean b) =
            rw (always k.multiple_of) (rw (always k.minimum) (rw (always k.exclusive_minimum) (rw (always k.maximum)
            (always k.exclusive_maximum))))
        by_kind (string w) =
            rw (always k.multiple_of) (rw (always k.minimum) (rw (always k.exclusive_minimum) (rw (always k.maximum)
            (always k.exclusive_maximum))))
        by_kind (array ds) =
            rw (always k.multiple_of) (rw (always k.minimum) (rw (always k.exclusive_minimum) (rw (always k.maximum)
            (always k.exclusive_maximum))))
        by_kind (object ms) =
            rw (always k.multiple_of) (rw (always k.minimum) (rw (always k.exclusive_minimum) (rw (always k.maximum)
            (always k.exclusive_maximum))))

  abbrev pub string_tests : (List ℕ → Tree) → List (Document → Bool)
  string_tests tree_of =
      one_test (λ n. at_string (λ w. nat_le n (length w))) k.min_length
      ++ (one_test (λ n. at_string (λ w. nat_le (length w) n)) k.max_length
      ++ one_test (λ t. at_string (finds (tree_of t))) k.pattern)

  strings_pass : (tree_of : List ℕ → Tree) (here : ℕ → Bool) (below : ℕ → Document → Bool) (J : Document)
      → all_pass (string_tests tree_of) J ≡ at_string (asks_string (λ t. finds (tree_of t)) here below k) J
  strings_pass tree_of here below J =
      pass-append (one_test (λ n. at_string (λ w. nat_le n (length w))) k.min_length) _ J
      ∙ ap₂ ◌&&◌ (pass-one (λ n. at_string (λ w. nat_le n (length w))) k.min_length J)
      (pass-append (one_test (λ n. at_string (λ w. nat_le (length w) n)) k.max_length) _ J
      ∙ ap₂ ◌&&◌ (pass-one (λ n. at_string (λ w. nat_le (length w) n)) k.max_length J)
      (pass-one (λ t. at_string (finds (tree_of t))) k.pattern J))
      ∙ by_kind J where
        ordered : (mi ma p : Bool) → (mi && (ma && p)) ≡ ((ma && mi) && p)
        ordered mi ma p = sym (and_assoc mi ma p) ∙ ap (λ b. b && p) (and_comm mi ma)

        by_kind : (J : Document)
            → (meets (λ n. at_string (λ w. nat_le n (length w)) J) k.min_length
            && (meets (λ n. at_string (λ w. nat_le (length w) n) J) k.max_length
            && meets (λ t. at_string (finds (tree_of t)) J) k.pattern))
            ≡ at_string (asks_string (λ t. finds (tree_of t)) here below k) J
        by_kind (string w) =
            ordered (meets (λ n. nat_le n (length w)) k.min_length) (meets (λ n. nat_le (length w) n) k.max_length)
            (meets (λ t. finds (tree_of t) w) k.pattern)
        by_kind null = rw (always k.min_length) (rw (always k.max_length) (always k.pattern))
        by_kind (boolean b) = rw (always k.min_length) (rw (always k.max_length) (always k.pattern))
        by_kind (number n) = rw (always k.min_length) (rw (always k.max_length) (always k.pattern))
        by_kind (array ds) = rw (always k.min_length) (rw (always k.max_length) (always k.pattern))
        by_kind (object ms) = rw (always k.min_length) (rw (always k.max_length) (always k.pattern))

  module _ (below : ℕ → Document → Bool) where
    abbrev pub items_test : E.ItemsPart → Document → Bool
    items_test s =
        at_array (λ ds. items_ask below s ds && if_there true (λ e. rest_asks below (Some s) e ds) k.additional_items)

    abbrev pub array_tests : List (Document → Bool)
    array_tests =
        one_test items_test k.items
        ++ (one_test (λ e. at_array (some (below e))) k.contains
        ++ (one_test (λ n. at_array (λ ds. nat_le n (length ds))) k.min_items
        ++ one_test (λ n. at_array (λ ds. nat_le (length ds) n)) k.max_items))

    -- `items` and what it says of further elements
    both_items : (ds : List Document) (o : Option E.ItemsPart)
        → meets (λ s. items_ask below s ds && if_there true (λ e. rest_asks below (Some s) e ds) k.additional_items) o
        ≡ (meets (λ s. items_ask below s ds) o && meets (λ e. rest_asks below o e ds) k.additional_items)
    both_items ds None = sym (always k.additional_items)
    both_items ds (Some s) = refl

    arrays_pass : (matches : List ℕ → List ℕ → Bool) (here : ℕ → Bool) (J : Document)
        → all_pass array_tests J ≡ at_array (asks_array matches here below k) J
    arrays_pass matches here J =
        pass-append (one_test items_test k.items) _ J
        ∙ ap₂ ◌&&◌ (pass-one items_test k.items J)
        (pass-append (one_test (λ e. at_array (some (below e))) k.contains) _ J
        ∙ ap₂ ◌&&◌ (pass-one (λ e. at_array (some (below e))) k.contains J)
        (pass-append (one_test (λ n. at_array (λ ds. nat_le n (length ds))) k.min_items) _ J
        ∙ ap₂ ◌&&◌ (pass-one (λ n. at_array (λ ds. nat_le n (length ds))) k.min_items J)
        (pass-one (λ n. at_array (λ ds. nat_le (length ds) n)) k.max_items J)))
        ∙ by_kind J where
          ordered : (i c mi ma : Bool) → (i && (c && (mi && ma))) ≡ (((i && ma) && mi) && c)
          ordered false c mi ma = refl
          ordered true c mi ma = backwards c mi ma ∙ sym (and_assoc ma mi c)

          by_kind : (J : Document)
              → (meets (λ s. items_test s J) k.items
              && (meets (λ e. at_array (some (below e)) J) k.contains
              && (meets (λ n. at_array (λ ds. nat_le n (length ds)) J) k.min_items
              && meets (λ n. at_array (λ ds. nat_le (length ds) n) J) k.max_items)))
              ≡ at_array (asks_array matches here below k) J
          by_kind (array ds) =
              ap (λ b. b && (meets (λ e. some (below e) (D.elements ds)) k.contains
              && (meets (λ n. nat_le n (length (D.elements ds))) k.min_items
              && meets (λ n. nat_le (length (D.elements ds)) n) k.max_items))) (both_items (D.elements ds) k.items)
              ∙ ordered _ (meets (λ e. some (below e) (D.elements ds)) k.contains)
              (meets (λ n. nat_le n (length (D.elements ds))) k.min_items)
              (meets (λ n. nat_le (length (D.elements ds)) n) k.max_items)
          by_kind null = rw (always k.items) (rw (always k.contains) (rw (always k.min_items) (always k.max_items)))
          by_kind (boolean b) =
              rw (always k.items) (rw (always k.contains) (rw (always k.min_items) (always k.max_items)))
          by_kind (number n) =
              rw (always k.items) (rw (always k.contains) (rw (always k.min_items) (always k.max_items)))
          by_kind (string w) =
              rw (always k.items) (rw (always k.contains) (rw (always k.min_items) (always k.max_items)))
          by_kind (object ms) =
              rw (always k.items) (rw (always k.contains) (rw (always k.min_items) (always k.max_items)))

module _ (T : List Position) (holds : ℕ → Document → Bool) (meaning : IsMeaning T holds) (tree_of : List ℕ → Tree)
    (below : ℕ → Document → Bool)
    (agree : (q : ℕ) (K : Document) → is_document K ≡ true → holds q K ≡ below q K) (k : Keywords) where
  abbrev matches : List ℕ → List ℕ → Bool
  matches t = finds (tree_of t)

  -- which entries the document itself meets
  abbrev here : Document → ℕ → Bool
  here J e = holds e J

  abbrev has_test : List ℕ → Document → Bool
  has_test w = at_object (has_name w)

  abbrev named_test : (List ℕ → List ℕ → Bool) → List ℕ × ℕ → Document → Bool
  named_test goes n = at_object (every_in (goes n.0) (below n.1))

  abbrev other_test : ℕ → Document → Bool
  other_test e = at_object (every_in (is_other matches (λ e. true) below k) (below e))

  abbrev names_test : ℕ → Document → Bool
  names_test e = at_object (λ ms. every (λ m. below e (string m.0)) ms)

  abbrev dependency_test : List ℕ × E.Needs → Document → Bool
  dependency_test d J = at_object (λ ms. not (has_name d.0 ms) || need_asks (here J) d.1 ms) J

  abbrev required_tests : List (Document → Bool)
  required_tests = if_there [] (λ ws. tests_of has_test (once same_word ws)) k.required

  abbrev property_tests : List (Document → Bool)
  property_tests = if_there [] (tests_of (named_test same_word)) k.properties

  abbrev pattern_tests : List (Document → Bool)
  pattern_tests = if_there [] (tests_of (named_test matches)) k.pattern_properties

  abbrev dependency_tests : List (Document → Bool)
  dependency_tests = if_there [] (tests_of dependency_test) k.dependencies

  abbrev member_tests : List (Document → Bool)
  member_tests =
      required_tests ++ (property_tests ++ (pattern_tests ++ (one_test other_test k.additional_properties
      ++ (one_test names_test k.property_names ++ dependency_tests))))

  abbrev count_tests : List (Document → Bool)
  count_tests =
      one_test (λ n. at_object (λ ms. nat_le n (length ms))) k.min_properties
      ++ one_test (λ n. at_object (λ ms. nat_le (length ms) n)) k.max_properties

  -- the tests of members one after another
  members_split : (J : Document) → all_pass member_tests J
      ≡ (meets (λ ws. at_object (λ ms. every (λ w. has_name w ms) ws) J) k.required
      && (meets (λ ns. at_object (each_asks same_word below ns) J) k.properties
      && (meets (λ ns. at_object (each_asks matches below ns) J) k.pattern_properties
      && (meets (λ e. other_test e J) k.additional_properties
      && (meets (λ e. names_test e J) k.property_names
      && meets (λ ds. at_object (λ ms. where_present (λ n. need_asks (here J) n ms) ds ms) J) k.dependencies)))))
  members_split J =
      pass-append required_tests _ J
      ∙ ap₂ ◌&&◌ (pass-if (λ ws. tests_of has_test (once same_word ws)) k.required _ J
      (λ ws. N.required_pass T holds meaning tree_of below agree ws J))
      (pass-append property_tests _ J
      ∙ ap₂ ◌&&◌ (pass-if (tests_of (named_test same_word)) k.properties _ J
      (λ ns. N.named_pass T holds meaning tree_of below agree same_word ns J))
      (pass-append pattern_tests _ J
      ∙ ap₂ ◌&&◌ (pass-if (tests_of (named_test matches)) k.pattern_properties _ J
      (λ ns. N.named_pass T holds meaning tree_of below agree matches ns J))
      (pass-append (one_test other_test k.additional_properties) _ J
      ∙ ap₂ ◌&&◌ (pass-one other_test k.additional_properties J)
      (pass-append (one_test names_test k.property_names) _ J
      ∙ ap₂ ◌&&◌ (pass-one names_test k.property_names J)
      (pass-if (tests_of dependency_test) k.dependencies _ J
      (λ ds. N.dependencies_pass T holds meaning tree_of below agree ds J))))))

  counts_split : (J : Document) → all_pass count_tests J
      ≡ (meets (λ n. at_object (λ ms. nat_le n (length ms)) J) k.min_properties
      && meets (λ n. at_object (λ ms. nat_le (length ms) n) J) k.max_properties)
  counts_split J =
      pass-append (one_test (λ n. at_object (λ ms. nat_le n (length ms))) k.min_properties) _ J
      ∙ ap₂ ◌&&◌ (pass-one (λ n. at_object (λ ms. nat_le n (length ms))) k.min_properties J)
      (pass-one (λ n. at_object (λ ms. nat_le (length ms) n)) k.max_properties J)

  -- members and then their number: what is required of objects
  objects_pass : (J : Document) → (all_pass member_tests J && all_pass count_tests J)
      ≡ at_object (asks_object matches (here J) below k) J
  objects_pass J = ap₂ ◌&&◌ (members_split J) (counts_split J) ∙ by_kind J where
    ordered : (r p q a n d mi ma : Bool)
        → ((r && (p && (q && (a && (n && d))))) && (mi && ma)) ≡ (((((((ma && mi) && r) && p) && q) && a) && d) && n)
    ordered r p q a n d mi ma =
        and_comm (r && (p && (q && (a && (n && d))))) (mi && ma)
        ∙ ap (λ b. b && (r && (p && (q && (a && (n && d)))))) (and_comm mi ma)
        ∙ ap (λ b. (ma && mi) && (r && (p && (q && (a && b))))) (and_comm n d)
        ∙ sym (and_assoc (ma && mi) r (p && (q && (a && (d && n)))))
        ∙ sym (and_assoc ((ma && mi) && r) p (q && (a && (d && n))))
        ∙ sym (and_assoc (((ma && mi) && r) && p) q (a && (d && n)))
        ∙ sym (and_assoc ((((ma && mi) && r) && p) && q) a (d && n))
        ∙ sym (and_assoc (((((ma && mi) && r) && p) && q) && a) d n)

    none : (meets (λ ws. true) k.required && (meets (λ ns. true) k.properties
        && (meets (λ ns. true) k.pattern_properties && (meets (λ e. true) k.additional_properties
        && (meets (λ e. true) k.property_names && meets (λ ds. true) k.dependencies))))) ≡ true
    none =
        rw (always k.required) (rw (always k.properties) (rw (always k.pattern_properties)
        (rw (always k.additional_properties) (rw (always k.property_names) (always k.dependencies)))))

    no_count : (meets (λ n. true) k.min_properties && meets (λ n. true) k.max_properties) ≡ true
    no_count = rw (always k.min_properties) (always k.max_properties)

    by_kind : (J : Document)
        → ((meets (λ ws. at_object (λ ms. every (λ w. has_name w ms) ws) J) k.required
        && (meets (λ ns. at_object (each_asks same_word below ns) J) k.properties
        && (meets (λ ns. at_object (each_asks matches below ns) J) k.pattern_properties
        && (meets (λ e. other_test e J) k.additional_properties
        && (meets (λ e. names_test e J) k.property_names
        && meets (λ ds. at_object (λ ms. where_present (λ n. need_asks (here J) n ms) ds ms) J) k.dependencies)))))
        && (meets (λ n. at_object (λ ms. nat_le n (length ms)) J) k.min_properties
        && meets (λ n. at_object (λ ms. nat_le (length ms) n) J) k.max_properties))
        ≡ at_object (asks_object matches (here J) below k) J
    by_kind (object ms) =
        ordered (meets (every (λ w. has_name w (D.entries ms))) k.required)
        (meets (λ ns. each_asks same_word below ns (D.entries ms)) k.properties)
        (meets (λ ns. each_asks matches below ns (D.entries ms)) k.pattern_properties)
        (meets (λ e. other_test e (object ms)) k.additional_properties)
        (meets (λ e. names_test e (object ms)) k.property_names)
        (meets (λ ds. where_present (λ n. need_asks (here (object ms)) n (D.entries ms)) ds (D.entries ms))
        k.dependencies)
        (meets (λ n. nat_le n (length (D.entries ms))) k.min_properties)
        (meets (λ n. nat_le (length (D.entries ms)) n) k.max_properties)
    by_kind null = rw none no_count
    by_kind (boolean b) = rw none no_count
    by_kind (number n) = rw none no_count
    by_kind (string w) = rw none no_count
    by_kind (array ds) = rw none no_count

  -- ---- of every document
  abbrev types_test : List E.TypeName → Document → Bool
  types_test ts J = some (same_kind (D.kind_of J)) (kinds_of ts)

  abbrev enum_test : List Document → Document → Bool
  enum_test ds J = some (λ d. same_document d J) ds

  abbrev any_tests : List (Document → Bool)
  any_tests =
      one_test types_test k.types ++ (one_test enum_test k.enumeration ++ one_test same_document k.constant)

  abbrev in_place_tests : List (Document → Bool)
  in_place_tests =
      one_test (λ es J. every (here J) es) k.all_of
      ++ (one_test (λ es J. some (here J) es) k.any_of
      ++ (one_test (λ es J. exactly_one (here J) es) k.one_of
      ++ one_test (λ e J. not (here J e)) k.not))

  any_split : (J : Document) → all_pass any_tests J
      ≡ ((meets (some (λ d. same_document d J)) k.enumeration && meets (λ d. same_document d J) k.constant)
      && meets (some (has_type J)) k.types)
  any_split J =
      pass-append (one_test types_test k.types) _ J
      ∙ ap₂ ◌&&◌ (pass-one types_test k.types J
      ∙ meets-same (λ ts. types_test ts J) (some (has_type J)) k.types (λ ts. N.types_same ts J))
      (pass-append (one_test enum_test k.enumeration) _ J
      ∙ ap₂ ◌&&◌ (pass-one enum_test k.enumeration J) (pass-one same_document k.constant J))
      ∙ and_comm (meets (some (has_type J)) k.types)
      (meets (λ ds. enum_test ds J) k.enumeration && meets (λ d. same_document d J) k.constant)

  in_place_split : (J : Document) → all_pass in_place_tests J
      ≡ (meets (every (here J)) k.all_of && (meets (some (here J)) k.any_of
      && (meets (exactly_one (here J)) k.one_of && meets (λ e. not (here J e)) k.not)))
  in_place_split J =
      pass-append (one_test (λ es J. every (here J) es) k.all_of) _ J
      ∙ ap₂ ◌&&◌ (pass-one (λ es J. every (here J) es) k.all_of J)
      (pass-append (one_test (λ es J. some (here J) es) k.any_of) _ J
      ∙ ap₂ ◌&&◌ (pass-one (λ es J. some (here J) es) k.any_of J)
      (pass-append (one_test (λ es J. exactly_one (here J) es) k.one_of) _ J
      ∙ ap₂ ◌&&◌ (pass-one (λ es J. exactly_one (here J) es) k.one_of J)
      (pass-one (λ e J. not (here J e)) k.not J)))

  -- what is required of every document, and by schemas that apply to the same document
  everywhere_pass : (J : Document) → (all_pass any_tests J && all_pass in_place_tests J)
      ≡ asks_any matches (here J) below k J
  everywhere_pass J = ap₂ ◌&&◌ (any_split J) (in_place_split J)
      ∙ grouped ((meets (some (λ d. same_document d J)) k.enumeration && meets (λ d. same_document d J) k.constant)
      && meets (some (has_type J)) k.types) (meets (every (here J)) k.all_of) (meets (some (here J)) k.any_of)
      (meets (exactly_one (here J)) k.one_of) (meets (λ e. not (here J e)) k.not) where
        grouped : (x a b c d : Bool) → (x && (a && (b && (c && d)))) ≡ ((((x && a) && b) && c) && d)
        grouped x a b c d =
            sym (and_assoc x a (b && (c && d))) ∙ sym (and_assoc (x && a) b (c && d))
            ∙ sym (and_assoc ((x && a) && b) c d)

  -- ---- all tests
  abbrev pub keyword_tests : List (Document → Bool)
  keyword_tests =
      any_tests ++ (number_tests k ++ (string_tests k tree_of ++ (array_tests k below
      ++ (member_tests ++ (count_tests ++ in_place_tests)))))

  pub keywords_pass : (J : Document) → all_pass keyword_tests J ≡ asks_keywords matches (here J) below k J
  keywords_pass J =
      pass-append any_tests _ J
      ∙ ap (λ b. all_pass any_tests J && b) (pass-append (number_tests k) _ J
      ∙ ap₂ ◌&&◌ (numbers_pass k matches (here J) below J) (pass-append (string_tests k tree_of) _ J
      ∙ ap₂ ◌&&◌ (strings_pass k tree_of (here J) below J) (pass-append (array_tests k below) _ J
      ∙ ap₂ ◌&&◌ (arrays_pass k below matches (here J) J) (pass-append member_tests _ J
      ∙ ap (λ b. all_pass member_tests J && b) (pass-append count_tests in_place_tests J)
      ∙ sym (and_assoc (all_pass member_tests J) (all_pass count_tests J) (all_pass in_place_tests J))
      ∙ ap (λ b. b && all_pass in_place_tests J) (objects_pass J)))))
      ∙ ordered (all_pass any_tests J) (at_number (asks_number matches (here J) below k) J)
      (at_string (asks_string matches (here J) below k) J) (at_array (asks_array matches (here J) below k) J)
      (at_object (asks_object matches (here J) below k) J) (all_pass in_place_tests J)
      ∙ ap (λ b. (((b && at_number (asks_number matches (here J) below k) J)
      && at_string (asks_string matches (here J) below k) J) && at_array (asks_array matches (here J) below k) J)
      && at_object (asks_object matches (here J) below k) J) (everywhere_pass J) where
        ordered : (x n s a o i : Bool) → (x && (n && (s && (a && (o && i))))) ≡ (((((x && i) && n) && s) && a) && o)
        ordered x n s a o i =
            ap (λ b. x && (n && (s && b))) (sym (and_assoc a o i))
            ∙ ap (λ b. x && (n && b)) (sym (and_assoc s (a && o) i))
            ∙ ap (λ b. x && b) (sym (and_assoc n (s && (a && o)) i))
            ∙ between x (n && (s && (a && o))) i
            ∙ sym (and_assoc (x && i) n (s && (a && o))) ∙ sym (and_assoc ((x && i) && n) s (a && o))
            ∙ sym (and_assoc (((x && i) && n) && s) a o)

  -- ---- the nodes stand for the tests
  makes-there : {A : Type 0} (f : A → Maker) (ps : A → List (Document → Bool)) (ok : A → Bool) (o : Option A)
      → meets ok o ≡ true → ((x : A) → ok x ≡ true → Makes T holds (f x) (ps x))
      → Makes T holds (if_some f o) (if_there [] ps o)
  makes-there f ps ok None h m = makes-nothing T holds meaning
  makes-there f ps ok (Some x) h m = m x h

  -- one node that requires what the test says
  makes-plain : {A : Type 0} (P : A → Position) (t : A → Document → Bool) (o : Option A)
      → ((x : A) (J : Document) → is_document J ≡ true → asks (λ q. holds q J) holds (P x) J ≡ t x J)
      → Makes T holds (if_some (λ x. node (P x)) o) (one_test t o)
  makes-plain P t o h =
      makes-if T holds meaning (λ x. node (P x)) (λ x. t x ∷ []) o
      (λ x. makes-node T holds meaning (P x) (t x) (h x))

  after_least : (n : ℤ) (J : Document) → at_number (int_le (n +ℤ pos 1)) J ≡ at_number (int_lt n) J
  after_least n (number x) = grind arith
  after_least n null = refl
  after_least n (boolean b) = refl
  after_least n (string w) = refl
  after_least n (array ds) = refl
  after_least n (object ms) = refl

  before_most : (n : ℤ) (J : Document) → at_number (λ x. int_le x (n -ℤ pos 1)) J ≡ at_number (λ x. int_lt x n) J
  before_most n (number x) = grind arith
  before_most n null = refl
  before_most n (boolean b) = refl
  before_most n (string w) = refl
  before_most n (array ds) = refl
  before_most n (object ms) = refl

  -- ---- the makers of each group, one after another
  abbrev number_4 : Maker
  number_4 = (if_some (λ x. node (NumMax (x -ℤ pos 1))) k.exclusive_maximum)

  abbrev number_tests_4 : List (Document → Bool)
  number_tests_4 = (one_test (λ n. at_number (λ x. int_lt x n)) k.exclusive_maximum)

  abbrev number_3 : Maker
  number_3 = both (if_some (λ x. node (NumMax x)) k.maximum) number_4

  abbrev number_tests_3 : List (Document → Bool)
  number_tests_3 = (one_test (λ n. at_number (λ x. int_le x n)) k.maximum) ++ number_tests_4

  abbrev number_2 : Maker
  number_2 = both (if_some (λ x. node (NumMin (x +ℤ pos 1))) k.exclusive_minimum) number_3

  abbrev number_tests_2 : List (Document → Bool)
  number_tests_2 = (one_test (λ n. at_number (int_lt n)) k.exclusive_minimum) ++ number_tests_3

  abbrev number_1 : Maker
  number_1 = both (if_some (λ x. node (NumMin x)) k.minimum) number_2

  abbrev number_tests_1 : List (Document → Bool)
  number_tests_1 = (one_test (λ n. at_number (int_le n)) k.minimum) ++ number_tests_2

  numbers_make : Makes T holds (number_nodes tree_of k) (number_tests k)
  numbers_make =
      makes-both T holds meaning (if_some (λ x. node (Multiple x)) k.multiple_of) number_1 (one_test
      (λ m. at_number (is_multiple m)) k.multiple_of) number_tests_1
      (makes-plain Multiple (λ m. at_number (is_multiple m)) k.multiple_of (λ x J d. refl))
      (makes-both T holds meaning (if_some (λ x. node (NumMin x)) k.minimum) number_2 (one_test (λ n. at_number
      (int_le n)) k.minimum) number_tests_2
      (makes-plain NumMin (λ n. at_number (int_le n)) k.minimum (λ x J d. refl))
      (makes-both T holds meaning (if_some (λ x. node (NumMin (x +ℤ pos 1))) k.exclusive_minimum) number_3
      (one_test (λ n. at_number (int_lt n)) k.exclusive_minimum) number_tests_3
      (makes-plain (λ x. NumMin (x +ℤ pos 1)) (λ n. at_number (int_lt n)) k.exclusive_minimum
      (λ x J d. after_least x J))
      (makes-both T holds meaning (if_some (λ x. node (NumMax x)) k.maximum) number_4 (one_test (λ n. at_number
      (λ x. int_le x n)) k.maximum) number_tests_4
      (makes-plain NumMax (λ n. at_number (λ x. int_le x n)) k.maximum (λ x J d. refl))
      ((makes-plain (λ x. NumMax (x -ℤ pos 1)) (λ n. at_number (λ x. int_lt x n)) k.exclusive_maximum
      (λ x J d. before_most x J))))))

  abbrev string_2 : Maker
  string_2 = (if_some (λ x. node (Match (pattern_of tree_of x))) k.pattern)

  abbrev string_tests_2 : List (Document → Bool)
  string_tests_2 = (one_test (λ t. at_string (finds (tree_of t))) k.pattern)

  abbrev string_1 : Maker
  string_1 = both (if_some (λ x. node (LengthMax x)) k.max_length) string_2

  abbrev string_tests_1 : List (Document → Bool)
  string_tests_1 = (one_test (λ n. at_string (λ w. nat_le (length w) n)) k.max_length) ++ string_tests_2

  strings_make : Makes T holds (string_nodes tree_of k) (string_tests k tree_of)
  strings_make =
      makes-both T holds meaning (if_some (λ x. node (LengthMin x)) k.min_length) string_1 (one_test
      (λ n. at_string (λ w. nat_le n (length w))) k.min_length) string_tests_1
      (makes-plain LengthMin (λ n. at_string (λ w. nat_le n (length w))) k.min_length (λ x J d. refl))
      (makes-both T holds meaning (if_some (λ x. node (LengthMax x)) k.max_length) string_2 (one_test
      (λ n. at_string (λ w. nat_le (length w) n)) k.max_length) string_tests_2
      (makes-plain LengthMax (λ n. at_string (λ w. nat_le (length w) n)) k.max_length (λ x J d. refl))
      ((makes-plain (λ x. Match (pattern_of tree_of x)) (λ t. at_string (finds (tree_of t))) k.pattern
      (λ x J d. refl))))

  abbrev array_3 : Maker
  array_3 = (if_some (λ x. node (CountMax x)) k.max_items)

  abbrev array_tests_3 : List (Document → Bool)
  array_tests_3 = (one_test (λ n. at_array (λ ds. nat_le (length ds) n)) k.max_items)

  abbrev array_2 : Maker
  array_2 = both (if_some (λ x. node (CountMin x)) k.min_items) array_3

  abbrev array_tests_2 : List (Document → Bool)
  array_tests_2 = (one_test (λ n. at_array (λ ds. nat_le n (length ds))) k.min_items) ++ array_tests_3

  abbrev array_1 : Maker
  array_1 = both (if_some (λ e. node (Contains e)) k.contains) array_2

  abbrev array_tests_1 : List (Document → Bool)
  array_tests_1 = (one_test (λ e. at_array (some (below e))) k.contains) ++ array_tests_2

  arrays_make : Makes T holds (array_nodes tree_of k) (array_tests k below)
  arrays_make =
      makes-both T holds meaning (if_some (items_node k.additional_items) k.items) array_1 (one_test
      (items_test k below) k.items) array_tests_1
      (makes-if T holds meaning (items_node k.additional_items) (λ s. items_test k below s ∷ []) k.items
      (N.items_makes T holds meaning tree_of below agree k.additional_items))
      (makes-both T holds meaning (if_some (λ e. node (Contains e)) k.contains) array_2 (one_test (λ e. at_array
      (some (below e))) k.contains) array_tests_2
      (makes-if T holds meaning (λ e. node (Contains e)) (λ e. at_array (some (below e)) ∷ []) k.contains
      (N.contains_makes T holds meaning tree_of below agree))
      (makes-both T holds meaning (if_some (λ x. node (CountMin x)) k.min_items) array_3 (one_test (λ n. at_array
      (λ ds. nat_le n (length ds))) k.min_items) array_tests_3
      (makes-plain CountMin (λ n. at_array (λ ds. nat_le n (length ds))) k.min_items (λ x J d. refl))
      ((makes-plain CountMax (λ n. at_array (λ ds. nat_le (length ds) n)) k.max_items (λ x J d. refl)))))

  abbrev member_5 : Maker
  member_5 = (if_some (each dependency_node) k.dependencies)

  abbrev member_tests_5 : List (Document → Bool)
  member_tests_5 = dependency_tests

  abbrev member_4 : Maker
  member_4 = both (if_some (λ e. node (NamesIn e)) k.property_names) member_5

  abbrev member_tests_4 : List (Document → Bool)
  member_tests_4 = (one_test names_test k.property_names) ++ member_tests_5

  abbrev member_3 : Maker
  member_3 = both (if_some (λ e. node (MembersOf (others_of tree_of k) e)) k.additional_properties) member_4

  abbrev member_tests_3 : List (Document → Bool)
  member_tests_3 = (one_test other_test k.additional_properties) ++ member_tests_4

  abbrev member_2 : Maker
  member_2 = both (if_some (each (λ p. node (MembersOf (Matching
      (pattern_of tree_of p.0)) p.1))) k.pattern_properties) member_3

  abbrev member_tests_2 : List (Document → Bool)
  member_tests_2 = pattern_tests ++ member_tests_3

  abbrev member_1 : Maker
  member_1 = both (if_some (each (λ p. node (MembersOf (Named p.0) p.1))) k.properties) member_2

  abbrev member_tests_1 : List (Document → Bool)
  member_tests_1 = property_tests ++ member_tests_2

  members_make : Makes T holds (member_nodes tree_of k) (member_tests)
  members_make =
      makes-both T holds meaning (if_some (λ ws. each (λ w. node (Has w))
      (once same_word ws)) k.required) member_1 required_tests member_tests_1
      (makes-if T holds meaning (λ ws. each (λ w. node (Has w)) (once same_word ws)) (λ ws. tests_of has_test
      (once same_word ws)) k.required (λ ws. N.required_make T holds meaning tree_of below agree (once same_word ws)))
      (makes-both T holds meaning (if_some (each (λ p. node (MembersOf
      (Named p.0) p.1))) k.properties) member_2 property_tests member_tests_2
      (makes-if T holds meaning (each (λ p. node (MembersOf (Named p.0) p.1))) (tests_of
      (named_test same_word)) k.properties (N.properties_make T holds meaning tree_of below agree))
      (makes-both T holds meaning (if_some (each (λ p. node (MembersOf (Matching
      (pattern_of tree_of p.0)) p.1))) k.pattern_properties) member_3 pattern_tests member_tests_3
      (makes-if T holds meaning (each (λ p. node (MembersOf (Matching (pattern_of tree_of p.0)) p.1))) (tests_of
      (named_test matches)) k.pattern_properties (N.patterns_make T holds meaning tree_of below agree))
      (makes-both T holds meaning (if_some (λ e. node (MembersOf
      (others_of tree_of k) e)) k.additional_properties) member_4
      (one_test other_test k.additional_properties) member_tests_4
      (makes-if T holds meaning (λ e. node (MembersOf (others_of tree_of k) e))
      (λ e. other_test e ∷ []) k.additional_properties (N.others_make T holds meaning tree_of below agree k))
      (makes-both T holds meaning (if_some (λ e. node (NamesIn e)) k.property_names) member_5
      (one_test names_test k.property_names) member_tests_5
      (makes-if T holds meaning (λ e. node (NamesIn e)) (λ e. names_test e ∷ []) k.property_names
      (N.names_make T holds meaning tree_of below agree))
      ((makes-if T holds meaning (each dependency_node) (tests_of dependency_test) k.dependencies
      (N.dependencies_make T holds meaning tree_of below agree)))))))

  abbrev count_1 : Maker
  count_1 = (if_some (λ x. node (PropsMax x)) k.max_properties)

  abbrev count_tests_1 : List (Document → Bool)
  count_tests_1 = (one_test (λ n. at_object (λ ms. nat_le (length ms) n)) k.max_properties)

  counts_make : Makes T holds (count_nodes tree_of k) (count_tests)
  counts_make =
      makes-both T holds meaning (if_some (λ x. node (PropsMin x)) k.min_properties) count_1 (one_test
      (λ n. at_object (λ ms. nat_le n (length ms))) k.min_properties) count_tests_1
      (makes-plain PropsMin (λ n. at_object (λ ms. nat_le n (length ms))) k.min_properties (λ x J d. refl))
      ((makes-plain PropsMax (λ n. at_object (λ ms. nat_le (length ms) n)) k.max_properties (λ x J d. refl)))

  abbrev in_place_3 : Maker
  in_place_3 = (if_some (λ x. node (Not x)) k.not)

  abbrev in_place_tests_3 : List (Document → Bool)
  in_place_tests_3 = (one_test (λ e J. not (here J e)) k.not)

  abbrev in_place_2 : Maker
  in_place_2 = both (if_some (λ x. node (One x)) k.one_of) in_place_3

  abbrev in_place_tests_2 : List (Document → Bool)
  in_place_tests_2 = (one_test (λ es J. exactly_one (here J) es) k.one_of) ++ in_place_tests_3

  abbrev in_place_1 : Maker
  in_place_1 = both (if_some (λ x. node (Any x)) k.any_of) in_place_2

  abbrev in_place_tests_1 : List (Document → Bool)
  in_place_tests_1 = (one_test (λ es J. some (here J) es) k.any_of) ++ in_place_tests_2

  in_places_make : Makes T holds (in_place_nodes tree_of k) (in_place_tests)
  in_places_make =
      makes-both T holds meaning (if_some (λ x. node (All x)) k.all_of) in_place_1 (one_test (λ es J. every
      (here J) es) k.all_of) in_place_tests_1
      (makes-plain All (λ es J. every (here J) es) k.all_of (λ x J d. refl))
      (makes-both T holds meaning (if_some (λ x. node (Any x)) k.any_of) in_place_2 (one_test (λ es J. some
      (here J) es) k.any_of) in_place_tests_2
      (makes-plain Any (λ es J. some (here J) es) k.any_of (λ x J d. refl))
      (makes-both T holds meaning (if_some (λ x. node (One x)) k.one_of) in_place_3 (one_test (λ es J. exactly_one
      (here J) es) k.one_of) in_place_tests_3
      (makes-plain One (λ es J. exactly_one (here J) es) k.one_of (λ x J d. refl))
      ((makes-plain Not (λ e J. not (here J e)) k.not (λ x J d. refl)))))

  module _ (values : meets (every is_document) k.enumeration ≡ true) (value : meets is_document k.constant ≡ true) where
    abbrev any_2 : Maker
    any_2 = if_some value_node k.constant

    abbrev any_1 : Maker
    any_1 = both (if_some (λ ds. above Any (groups ds)) k.enumeration) any_2

    anys_make : Makes T holds (any_nodes tree_of k) any_tests
    anys_make =
        makes-both T holds meaning (if_some (λ ts. node (Types (kinds_of ts))) k.types) any_1
        (one_test types_test k.types) (one_test enum_test k.enumeration ++ one_test same_document k.constant)
        (makes-plain (λ ts. Types (kinds_of ts)) types_test k.types (λ ts J d. refl))
        (makes-both T holds meaning (if_some (λ ds. above Any (groups ds)) k.enumeration) any_2
        (one_test enum_test k.enumeration) (one_test same_document k.constant)
        (makes-there (λ ds. above Any (groups ds)) (λ ds. enum_test ds ∷ []) (every is_document) k.enumeration values
        (enum_makes T holds meaning))
        (makes-there value_node (λ d. same_document d ∷ []) is_document k.constant value
        (value_makes T holds meaning)))

    abbrev all_5 : Maker
    all_5 = both (count_nodes tree_of k) (in_place_nodes tree_of k)

    abbrev all_4 : Maker
    all_4 = both (member_nodes tree_of k) all_5

    abbrev all_3 : Maker
    all_3 = both (array_nodes tree_of k) all_4

    abbrev all_2 : Maker
    all_2 = both (string_nodes tree_of k) all_3

    abbrev all_1 : Maker
    all_1 = both (number_nodes tree_of k) all_2

    -- an object's nodes stand for the tests of its keywords
    pub keywords_make : Makes T holds (keyword_nodes tree_of k) keyword_tests
    keywords_make =
        makes-both T holds meaning (any_nodes tree_of k) all_1 any_tests _ anys_make
        (makes-both T holds meaning (number_nodes tree_of k) all_2 (number_tests k) _ numbers_make
        (makes-both T holds meaning (string_nodes tree_of k) all_3 (string_tests k tree_of) _ strings_make
        (makes-both T holds meaning (array_nodes tree_of k) all_4 (array_tests k below) _ arrays_make
        (makes-both T holds meaning (member_nodes tree_of k) all_5 member_tests _ members_make
        (makes-both T holds meaning (count_nodes tree_of k) (in_place_nodes tree_of k) count_tests in_place_tests
        counts_make in_places_make)))))
