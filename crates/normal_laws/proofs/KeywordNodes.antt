-- What the nodes of each keyword require: what the keyword asks.
use Rattle.std.proofs.Common.{◌≡◌, ℕ, List, [], ◌∷◌, length, drop, Bool, true, ◌&&◌, ◌||◌, not, Option, Some, None, refl, ap, sym, ◌∙◌}
use Rattle.std.proofs.Math.Bool.{and-true, and_comm, or-false}
use Rattle.std.proofs.lemmas.Bool.{and_parts}
use Rattle.std.specs.List.{AllByRecursion}
use Rattle.documents.specs.Tests.{every, some, same_word, is_scalar}
use Rattle.documents.specs.Kind as K
use Rattle.documents.specs.Document.{Document, null, boolean, number, string, array, object, Members, no_members, member, elements, entries, is_document, are_members, is_before, kind_of}
use Rattle.documents.specs.Measures.{at_array, at_object, meets_in_order, has_name, every_in}
use Rattle.patterns.specs.Tree.{Tree}
use Rattle.patterns.specs.Decision.{finds}
use Rattle.schemas.specs.Entry.{TypeName, ItemsPart, Each, Listed, Needs, Names, Whole, Keywords}
use Rattle.schemas.specs.Schema.{if_there}
use Rattle.draft06.specs.Names.{keys, is_additional, each_asks, where_present}
use Rattle.draft06.specs.EntryValidity.{kind_named, has_type, items_ask, rest_asks, need_asks}
use Rattle.draft06_laws.proofs.Lists.{all_drop}
use Rattle.list_laws.proofs.Elements.{some-map}
use Rattle.positions.specs.Position as Q
use Rattle.positions.specs.Position.{Position, Pattern, True, All, Any, One, Not, Depends, Types, Contains, MembersOf, Named, Matching, Others, Has, NamesIn}
use Rattle.positions.specs.Holds.{asks, in_set}
use Rattle.normal_forms.specs.Nodes.{node, both, each, the_one}
use Rattle.normal_forms.specs.KeywordNodes.{kinds_of, once, pattern_of, others_of, items_node, depends_of, need_node, dependency_node}
use Rattle.normal_laws.specs.Making.{all_pass, IsMeaning, AreMet, Makes}
use Rattle.normal_laws.proofs.MakingLemmas.{makes-node, makes-entry, makes-both, makes-above, makes-all, makes-each, tests_of}
use Rattle.normal_laws.proofs.ValueNodes.{documents_in, values_in, makes-same}
use Rattle.normal_laws.proofs.EnumNodes.{some-filter}
use Rattle.normal_laws.proofs.Repeats.{every-once}
use Rattle.list_laws.proofs.Tests.{some-alike, same_word-true}

-- ---- types
-- a kind is among those that pass a test exactly where it passes it
kind_among : (p : K.Kind → Bool) (t : K.Kind) → some (λ x. K.same_kind t x && p x) K.all_kinds ≡ p t
kind_among p K.Null = or-false (p K.Null)
kind_among p K.Boolean = or-false (p K.Boolean)
kind_among p K.Number = or-false (p K.Number)
kind_among p K.Text = or-false (p K.Text)
kind_among p K.Array = or-false (p K.Array)
kind_among p K.Object = or-false (p K.Object)

pub types_same : (ts : List TypeName) (J : Document) → some (K.same_kind (kind_of J)) (kinds_of ts) ≡ some
    (has_type J) ts
types_same ts J =
    sym (some-filter (λ t. some (λ n. K.same_kind t (kind_named n)) ts) (K.same_kind (kind_of J)) K.all_kinds)
    ∙ some-alike _ (λ x. K.same_kind (kind_of J) x && some (λ n. K.same_kind x (kind_named n)) ts) K.all_kinds
    (λ x. and_comm (some (λ n. K.same_kind x (kind_named n)) ts) (K.same_kind (kind_of J) x))
    ∙ kind_among (λ x. some (λ n. K.same_kind x (kind_named n)) ts) (kind_of J)

module _ (T : List Position) (holds : ℕ → Document → Bool) (meaning : IsMeaning T holds) (tree_of : List ℕ → Tree)
    (below : ℕ → Document → Bool)
    (agree : (q : ℕ) (K : Document) → is_document K ≡ true → holds q K ≡ below q K) where
  abbrev pub matches : List ℕ → List ℕ → Bool
  matches t w = finds (tree_of t) w

  abbrev Documents : List Document → Type 0
  Documents ds = AllByRecursion (λ d. is_document d ≡ true) ds

  abbrev Named_documents : List (List ℕ × Document) → Type 0
  Named_documents ms = AllByRecursion (λ m. is_document m.1 ≡ true) ms

  -- ---- elements
  every_below : (e : ℕ) (ds : List Document) → Documents ds → every (holds e) ds ≡ every (below e) ds
  every_below e [] h = refl
  every_below e (d ∷ ds) h = rw (agree e d h.0) (rw (every_below e ds h.1) refl)

  some_below : (e : ℕ) (ds : List Document) → Documents ds → some (holds e) ds ≡ some (below e) ds
  some_below e [] h = refl
  some_below e (d ∷ ds) h = rw (agree e d h.0) (rw (some_below e ds h.1) refl)

  in_order_below : (es : List ℕ) (ds : List Document) → Documents ds
      → meets_in_order holds es ds ≡ meets_in_order below es ds
  in_order_below [] ds h = refl
  in_order_below (e ∷ es) [] h = refl
  in_order_below (e ∷ es) (d ∷ ds) h = rw (agree e d h.0) (rw (in_order_below es ds h.1) refl)

  abbrev pub items_test : Option ℕ → ItemsPart → Document → Bool
  items_test rest s = at_array (λ ds. items_ask below s ds && if_there true (λ e. rest_asks below (Some s) e ds) rest)

  each_asked : (rest : Option ℕ) (e : ℕ) (J : Document) → is_document J ≡ true
      → asks (λ q. holds q J) holds (Q.Items [] e) J ≡ items_test rest (Each e) J
  each_asked None e (array ds) d =
      every_below e (elements ds) (documents_in ds d) ∙ sym (and-true (every (below e) (elements ds)))
  each_asked (Some r) e (array ds) d =
      every_below e (elements ds) (documents_in ds d) ∙ sym (and-true (every (below e) (elements ds)))
  each_asked rest e null d = refl
  each_asked rest e (boolean b) d = refl
  each_asked rest e (number n) d = refl
  each_asked rest e (string w) d = refl
  each_asked rest e (object ms) d = refl

  listed_asked : (es : List ℕ) (r : ℕ) (J : Document) → is_document J ≡ true
      → asks (λ q. holds q J) holds (Q.Items es r) J ≡ items_test (Some r) (Listed es) J
  listed_asked es r (array ds) d =
      let inside = documents_in ds d in
      rw (in_order_below es (elements ds) inside)
      (ap (λ b. meets_in_order below es (elements ds) && b)
      (every_below r (drop (length es) (elements ds)) (all_drop _ (length es) (elements ds) inside)))
  listed_asked es r null d = refl
  listed_asked es r (boolean b) d = refl
  listed_asked es r (number n) d = refl
  listed_asked es r (string w) d = refl
  listed_asked es r (object ms) d = refl

  every-always : (q : ℕ) (ds : List Document) → ((J : Document) → is_document J ≡ true → holds q J ≡ true)
      → Documents ds → every (holds q) ds ≡ true
  every-always q [] m h = refl
  every-always q (d ∷ ds) m h = rw (m d h.0) (every-always q ds m h.1)

  the_one-met : (qs : List ℕ) (p : Document → Bool) → AreMet T holds qs (p ∷ []) → (J : Document)
      → is_document J ≡ true → holds (the_one qs) J ≡ p J
  the_one-met [] p m = absurd m
  the_one-met (q ∷ qs) p m = m.0

  alone_asked : (es : List ℕ) (qs : List ℕ) → AreMet T holds qs ((λ J. true) ∷ []) → (J : Document)
      → is_document J ≡ true
      → asks (λ q. holds q J) holds (Q.Items es (the_one qs)) J ≡ items_test None (Listed es) J
  alone_asked es qs m (array ds) d =
      let inside = documents_in ds d in
      rw (in_order_below es (elements ds) inside)
      (ap (λ b. meets_in_order below es (elements ds) && b)
      (every-always (the_one qs) (drop (length es) (elements ds)) (the_one-met qs (λ J. true) m)
      (all_drop _ (length es) (elements ds) inside)))
  alone_asked es qs m null d = refl
  alone_asked es qs m (boolean b) d = refl
  alone_asked es qs m (number n) d = refl
  alone_asked es qs m (string w) d = refl
  alone_asked es qs m (object ms) d = refl

  pub items_makes : (rest : Option ℕ) (s : ItemsPart) → Makes T holds (items_node rest s) (items_test rest s ∷ [])
  items_makes rest (Each e) =
      makes-node T holds meaning (Q.Items [] e) (items_test rest (Each e)) (each_asked rest e)
  items_makes (Some r) (Listed es) =
      makes-node T holds meaning (Q.Items es r) (items_test (Some r) (Listed es)) (listed_asked es r)
  items_makes None (Listed es) =
      makes-above T holds meaning (λ qs. Q.Items es (the_one qs)) (items_test None (Listed es)) (node True)
      ((λ J. true) ∷ []) (makes-node T holds meaning True (λ J. true) (λ J d. refl)) (alone_asked es)

  abbrev pub contains_test : ℕ → Document → Bool
  contains_test e = at_array (some (below e))

  pub contains_makes : (e : ℕ) → Makes T holds (node (Contains e)) (contains_test e ∷ [])
  contains_makes e = makes-node T holds meaning (Contains e) (contains_test e) asked where
    asked : (J : Document) → is_document J ≡ true → asks (λ q. holds q J) holds (Contains e) J ≡ contains_test e J
    asked (array ds) d = some_below e (elements ds) (documents_in ds d)
    asked null d = refl
    asked (boolean b) d = refl
    asked (number n) d = refl
    asked (string w) d = refl
    asked (object ms) d = refl

  -- ---- members
  every_in-below : (set : List ℕ → Bool) (e : ℕ) (ms : List (List ℕ × Document)) → Named_documents ms
      → every_in set (holds e) ms ≡ every_in set (below e) ms
  every_in-below set e [] h = refl
  every_in-below set e (m ∷ ms) h = rw (agree e m.1 h.0) (rw (every_in-below set e ms h.1) refl)

  abbrev pub members_test : (List ℕ → Bool) → ℕ → Document → Bool
  members_test set e = at_object (every_in set (below e))

  members_asked : (s : Q.NameSet) (e : ℕ) (J : Document) → is_document J ≡ true
      → asks (λ q. holds q J) holds (MembersOf s e) J ≡ members_test (in_set s) e J
  members_asked s e (object ms) d = every_in-below (in_set s) e (entries ms) (values_in T holds meaning ms d)
  members_asked s e null d = refl
  members_asked s e (boolean b) d = refl
  members_asked s e (number n) d = refl
  members_asked s e (string w) d = refl
  members_asked s e (array ds) d = refl

  pub members_make : (s : Q.NameSet) (e : ℕ) → Makes T holds (node (MembersOf s e)) (members_test (in_set s) e ∷ [])
  members_make s e = makes-node T holds meaning (MembersOf s e) (members_test (in_set s) e) (members_asked s e)

  -- ---- names
  scalar_names : (ms : Members) → are_members ms ≡ true → AllByRecursion (λ m. is_document (string m.0) ≡ true)
      (entries ms)
  scalar_names no_members h = tt
  scalar_names (member k d ms) h =
      let last = and_parts (every is_scalar k && is_document d && is_before k ms) (are_members ms) h in
      let three = and_parts (every is_scalar k && is_document d) (is_before k ms) last.0 in
      let two = and_parts (every is_scalar k) (is_document d) three.0 in (two.0, scalar_names ms last.1)

  names_below : (e : ℕ) (ms : List (List ℕ × Document)) → AllByRecursion (λ m. is_document (string m.0) ≡ true) ms
      → every (λ m. holds e (string m.0)) ms ≡ every (λ m. below e (string m.0)) ms
  names_below e [] h = refl
  names_below e (m ∷ ms) h = rw (agree e (string m.0) h.0) (rw (names_below e ms h.1) refl)

  abbrev pub names_test : ℕ → Document → Bool
  names_test e = at_object (λ ms. every (λ m. below e (string m.0)) ms)

  pub names_make : (e : ℕ) → Makes T holds (node (NamesIn e)) (names_test e ∷ [])
  names_make e = makes-node T holds meaning (NamesIn e) (names_test e) asked where
    asked : (J : Document) → is_document J ≡ true → asks (λ q. holds q J) holds (NamesIn e) J ≡ names_test e J
    asked (object ms) d = names_below e (entries ms) (scalar_names ms d)
    asked null d = refl
    asked (boolean b) d = refl
    asked (number n) d = refl
    asked (string w) d = refl
    asked (array ds) d = refl

  -- ---- required names
  abbrev pub has_test : List ℕ → Document → Bool
  has_test w = at_object (has_name w)

  has_makes : (w : List ℕ) → Makes T holds (node (Has w)) (has_test w ∷ [])
  has_makes w = makes-node T holds meaning (Has w) (has_test w) (λ J d. refl)

  pub required_make : (ws : List (List ℕ))
      → Makes T holds (each (λ w. node (Has w)) ws) (tests_of has_test ws)
  required_make ws = makes-each T holds meaning (λ w. node (Has w)) has_test ws has_makes

  all_names : (ws : List (List ℕ)) (ms : Members) → all_pass (tests_of has_test ws) (object ms)
      ≡ every (λ w. has_name w (entries ms)) ws
  all_names [] ms = refl
  all_names (w ∷ ws) ms = rw (all_names ws ms) refl

  always-pass : {A : Type 0} (t : A → Document → Bool) (xs : List A) (J : Document) → ((x : A) → t x J ≡ true)
      → all_pass (tests_of t xs) J ≡ true
  always-pass t [] J h = refl
  always-pass t (x ∷ xs) J h = rw (h x) (always-pass t xs J h)

  pub required_pass : (ws : List (List ℕ)) (J : Document) → all_pass (tests_of has_test (once same_word ws)) J
      ≡ at_object (λ ms. every (λ w. has_name w ms) ws) J
  required_pass ws (object ms) =
      all_names (once same_word ws) ms ∙ every-once same_word same_word-true (λ w. has_name w (entries ms)) ws
  required_pass ws null = always-pass has_test (once same_word ws) null (λ w. refl)
  required_pass ws (boolean b) = always-pass has_test (once same_word ws) (boolean b) (λ w. refl)
  required_pass ws (number n) = always-pass has_test (once same_word ws) (number n) (λ w. refl)
  required_pass ws (string v) = always-pass has_test (once same_word ws) (string v) (λ w. refl)
  required_pass ws (array ds) = always-pass has_test (once same_word ws) (array ds) (λ w. refl)

  -- ---- schemas by names
  abbrev pub named_test : (List ℕ → List ℕ → Bool) → List ℕ × ℕ → Document → Bool
  named_test goes n = members_test (goes n.0) n.1

  -- the nodes of listed names require of members what the names' schemas ask of those that they go for
  pub named_pass : (goes : List ℕ → List ℕ → Bool) (ns : List (List ℕ × ℕ)) (J : Document)
      → all_pass (tests_of (named_test goes) ns) J ≡ at_object (each_asks goes below ns) J
  named_pass goes [] null = refl
  named_pass goes [] (boolean b) = refl
  named_pass goes [] (number n) = refl
  named_pass goes [] (string w) = refl
  named_pass goes [] (array ds) = refl
  named_pass goes [] (object ms) = refl
  named_pass goes (n ∷ ns) null = named_pass goes ns null
  named_pass goes (n ∷ ns) (boolean b) = named_pass goes ns (boolean b)
  named_pass goes (n ∷ ns) (number m) = named_pass goes ns (number m)
  named_pass goes (n ∷ ns) (string w) = named_pass goes ns (string w)
  named_pass goes (n ∷ ns) (array ds) = named_pass goes ns (array ds)
  named_pass goes (n ∷ ns) (object ms) = rw (named_pass goes ns (object ms)) refl

  pub properties_make : (ns : List (List ℕ × ℕ))
      → Makes T holds (each (λ p. node (MembersOf (Named p.0) p.1)) ns) (tests_of (named_test same_word) ns)
  properties_make ns =
      makes-each T holds meaning (λ p. node (MembersOf (Named p.0) p.1)) (named_test same_word) ns
      (λ p. members_make (Named p.0) p.1)

  pub patterns_make : (ns : List (List ℕ × ℕ))
      → Makes T holds (each (λ p. node (MembersOf (Matching (pattern_of tree_of p.0)) p.1)) ns)
      (tests_of (named_test matches) ns)
  patterns_make ns =
      makes-each T holds meaning (λ p. node (MembersOf (Matching (pattern_of tree_of p.0)) p.1)) (named_test matches) ns
      (λ p. members_make (Matching (pattern_of tree_of p.0)) p.1)

  -- ---- other names
  other_same : (k : Keywords) (w : List ℕ) → in_set (others_of tree_of k) w
      ≡ is_additional matches (keys k.properties) (keys k.pattern_properties) w
  other_same k w =
      ap (λ b. not (some (same_word w) (keys k.properties)) && not b)
      (some-map (λ r. finds (Q.Pattern.tree r) w) (pattern_of tree_of) (keys k.pattern_properties))

  every_in-alike : (s t : List ℕ → Bool) (p : Document → Bool) (ms : List (List ℕ × Document))
      → ((w : List ℕ) → s w ≡ t w) → every_in s p ms ≡ every_in t p ms
  every_in-alike s t p [] h = refl
  every_in-alike s t p (m ∷ ms) h = rw (h m.0) (rw (every_in-alike s t p ms h) refl)

  abbrev pub other_test : Keywords → ℕ → Document → Bool
  other_test k e =
      at_object (every_in (is_additional matches (keys k.properties) (keys k.pattern_properties)) (below e))

  pub others_make : (k : Keywords) (e : ℕ) → Makes T holds (node (MembersOf (others_of tree_of k) e))
      (other_test k e ∷ [])
  others_make k e =
      makes-same T holds meaning (node (MembersOf (others_of tree_of k) e)) (members_test (in_set
      (others_of tree_of k)) e)
      (other_test k e) (members_make (others_of tree_of k) e) (λ J d. same J) where
        same : (J : Document) → members_test (in_set (others_of tree_of k)) e J ≡ other_test k e J
        same (object ms) = every_in-alike (in_set (others_of tree_of k)) _ (below e) (entries ms) (other_same k)
        same null = refl
        same (boolean b) = refl
        same (number n) = refl
        same (string w) = refl
        same (array ds) = refl

  -- ---- dependencies
  abbrev pub need_test : Needs → Document → Bool
  need_test n J = at_object (need_asks (λ e. holds e J) n) J

  abbrev need_made : Needs → Document → Bool
  need_made (Names ws) = all_pass (tests_of has_test ws)
  need_made (Whole e) = holds e

  need_makes : (n : Needs) → Makes T holds (need_node n) (need_made n ∷ [])
  need_makes (Names ws) =
      makes-all T holds meaning (each (λ w. node (Has w)) ws) (tests_of has_test ws) (required_make ws)
  need_makes (Whole e) = makes-entry T holds meaning e

  need_same : (n : Needs) (ms : Members) → need_made n (object ms) ≡ need_asks (λ e. holds e (object ms)) n (entries ms)
  need_same (Names ws) ms = all_names ws ms
  need_same (Whole e) ms = refl

  abbrev pub dependency_test : List ℕ × Needs → Document → Bool
  dependency_test d J = at_object (λ ms. not (has_name d.0 ms) || need_asks (λ e. holds e J) d.1 ms) J

  depends_asked : (d : List ℕ × Needs) (qs : List ℕ) → AreMet T holds qs (has_test d.0 ∷ need_made d.1 ∷ [])
      → (J : Document) → is_document J ≡ true
      → asks (λ q. holds q J) holds (depends_of qs) J ≡ dependency_test d J
  depends_asked d [] m J h = absurd m
  depends_asked d (q ∷ []) m J h = absurd m.1
  depends_asked d (q ∷ r ∷ s ∷ rs) m J h = absurd m.1.1
  depends_asked d (q ∷ r ∷ []) m (object ms) h =
      rw (m.0 (object ms) h) (rw (m.1.0 (object ms) h) (rw (need_same d.1 ms) refl))
  depends_asked d (q ∷ r ∷ []) m null h = refl
  depends_asked d (q ∷ r ∷ []) m (boolean b) h = refl
  depends_asked d (q ∷ r ∷ []) m (number n) h = refl
  depends_asked d (q ∷ r ∷ []) m (string w) h = refl
  depends_asked d (q ∷ r ∷ []) m (array ds) h = refl

  dependency_makes : (d : List ℕ × Needs) → Makes T holds (dependency_node d) (dependency_test d ∷ [])
  dependency_makes d =
      makes-above T holds meaning depends_of (dependency_test d) (both (node (Has d.0)) (need_node d.1))
      (has_test d.0 ∷ need_made d.1 ∷ [])
      (makes-both T holds meaning (node (Has d.0)) (need_node d.1) (has_test d.0 ∷ []) (need_made d.1 ∷ [])
      (has_makes d.0) (need_makes d.1))
      (depends_asked d)

  pub dependencies_make : (ds : List (List ℕ × Needs))
      → Makes T holds (each dependency_node ds) (tests_of dependency_test ds)
  dependencies_make ds = makes-each T holds meaning dependency_node dependency_test ds dependency_makes

  pub dependencies_pass : (ds : List (List ℕ × Needs)) (J : Document) → all_pass (tests_of dependency_test ds) J
      ≡ at_object (λ ms. where_present (λ n. need_asks (λ e. holds e J) n ms) ds ms) J
  dependencies_pass ds (object ms) = on_object ds where
    on_object : (ds : List (List ℕ × Needs)) → all_pass (tests_of dependency_test ds) (object ms)
        ≡ where_present (λ n. need_asks (λ e. holds e (object ms)) n (entries ms)) ds (entries ms)
    on_object [] = refl
    on_object (d ∷ ds) = rw (on_object ds) refl
  dependencies_pass ds null = always-pass dependency_test ds null (λ d. refl)
  dependencies_pass ds (boolean b) = always-pass dependency_test ds (boolean b) (λ d. refl)
  dependencies_pass ds (number n) = always-pass dependency_test ds (number n) (λ d. refl)
  dependencies_pass ds (string w) = always-pass dependency_test ds (string w) (λ d. refl)
  dependencies_pass ds (array es) = always-pass dependency_test ds (array es) (λ d. refl)
