-- The nodes of an object's keywords name what comes before them, and have their ranges.
use Rattle.std.proofs.Common.{◌≡◌, ℕ, ℤ, pos, negsuc, ◌+ℤ◌, ◌-ℤ◌, ◌^◌, ◌-◌, ◌<◌, int_le, nat_lt, List, [], ◌∷◌, Bool, true, false, not, Option, Some, None, refl, arith, cond, filter}
use Rattle.std.proofs.lemmas.Bool.{and_parts, and_from}
use Rattle.std.specs.List.{AllByRecursion, filter_map}
use Rattle.std.specs.Ordering.{int_eq}
use Rattle.documents.specs.Tests.{every, some, same_word}
use Rattle.documents.specs.Kind as K
use Rattle.documents.specs.Document.{Document, boolean}
use Rattle.patterns.specs.Tree.{Tree}
use Rattle.schemas.specs.Keyword.{is_held}
use Rattle.schemas.specs.Entry.{ItemsPart, Each, Listed, Needs, Names, Whole, Keywords, Asks}
use Rattle.schemas.specs.Schema.{meets, lists, all, one, of_items, of_names, of_need, of_needs, in_place, of_parts, is_in_range, is_multiple, is_count, is_word, fits_items, are_keys, are_needs, is_filled}
use Rattle.draft06_laws.proofs.EntryLocal.{InPlace, in_place_of, OfParts, of_parts_of}
use Rattle.positions.specs.Position as Q
use Rattle.positions.specs.Position.{Position, True, All, Any, One, Not, Depends, Types, NumMin, NumMax, Multiple, NumIn, Words, Match, LengthMin, LengthMax, Contains, CountMin, CountMax, MembersOf, Named, Matching, Has, PropsMin, PropsMax, NamesIn}
use Rattle.normal_forms.specs.Nodes.{Maker, nothing, node, both, above, each, if_some, the_one}
use Rattle.normal_forms.specs.Values.{value_node}
use Rattle.normal_forms.specs.KeywordNodes.{kinds_of, once, is_null, truth_in, number_in, word_in, is_container, one_of_kind, truths, groups, items_node, depends_of, need_node, dependency_node, pattern_of, others_of, any_nodes, number_nodes, string_nodes, array_nodes, member_nodes, count_nodes, in_place_nodes, keyword_nodes}
use Rattle.normal_laws.proofs.Growth.{Grows, IsNode, grows-nothing, grows-node, grows-entry, grows-both, grows-above, grows-each, grows-kind, grows-value, plain, everywhere, is_all, is_any, is_listed}

-- the ranges of numbers that nodes need
pub record NodeRanges (k : Keywords) : Type 0 where
  pub multiple_of : meets is_multiple k.multiple_of ≡ true
  pub minimum : meets is_held k.minimum ≡ true
  pub maximum : meets is_held k.maximum ≡ true
  pub exclusive_minimum : meets is_held k.exclusive_minimum ≡ true
  pub exclusive_maximum : meets is_held k.exclusive_maximum ≡ true

pub node_ranges : (k : Keywords) → is_in_range k ≡ true → NodeRanges k
node_ranges k h =
    let h1 = and_parts _ (meets is_filled k.one_of) h in
    let h2 = and_parts _ (meets is_filled k.any_of) h1.0 in
    let h3 = and_parts _ (meets is_filled k.all_of) h2.0 in
    let h4 = and_parts _ (meets is_count k.max_properties) h3.0 in
    let h5 = and_parts _ (meets is_count k.min_properties) h4.0 in
    let h6 = and_parts _ (meets are_needs k.dependencies) h5.0 in
    let h7 = and_parts _ (meets are_keys k.pattern_properties) h6.0 in
    let h8 = and_parts _ (meets are_keys k.properties) h7.0 in
    let h9 = and_parts _ (meets (every is_word) k.required) h8.0 in
    let h10 = and_parts _ (meets is_count k.max_items) h9.0 in
    let h11 = and_parts _ (meets is_count k.min_items) h10.0 in
    let h12 = and_parts _ (fits_items k.items k.additional_items) h11.0 in
    let h13 = and_parts _ (meets is_word k.pattern) h12.0 in
    let h14 = and_parts _ (meets is_count k.max_length) h13.0 in
    let h15 = and_parts _ (meets is_count k.min_length) h14.0 in
    let h16 = and_parts _ (meets is_held k.exclusive_maximum) h15.0 in
    let h17 = and_parts _ (meets is_held k.exclusive_minimum) h16.0 in
    let h18 = and_parts _ (meets is_held k.maximum) h17.0 in
    let h19 = and_parts _ (meets is_held k.minimum) h18.0 in
    let h20 = and_parts _ (meets is_multiple k.multiple_of) h19.0 in
    record {
      multiple_of = h20.1;
      minimum = h19.1;
      maximum = h18.1;
      exclusive_minimum = h17.1;
      exclusive_maximum = h16.1;
    }

-- a bound of 64 bits is between the first and the last one that a table has, and so is its neighbour
held : (n : ℤ) → is_held n ≡ true
    → (int_le (negsuc (2 ^ 63 - 1)) n ≡ true) × (int_le n (pos (2 ^ 64 - 1)) ≡ true)
held n h = and_parts (int_le (negsuc (2 ^ 63 - 1)) n) (int_le n (pos (2 ^ 64 - 1))) h

least_in_range : (n : ℤ) → is_held n ≡ true → Q.in_range (NumMin n) ≡ true
least_in_range n h =
    let low = (held n h).0 in let high = (held n h).1 in
    let a : int_le n (pos (2 ^ 64)) ≡ true = grind (arith, high) in
    and_from (int_le (negsuc (2 ^ 63 - 1)) n) (int_le n (pos (2 ^ 64))) low a

after_in_range : (n : ℤ) → is_held n ≡ true → Q.in_range (NumMin (n +ℤ pos 1)) ≡ true
after_in_range n h =
    let low = (held n h).0 in let high = (held n h).1 in
    let a : int_le (negsuc (2 ^ 63 - 1)) (n +ℤ pos 1) ≡ true = grind (arith, low) in
    let b : int_le (n +ℤ pos 1) (pos (2 ^ 64)) ≡ true = grind (arith, high) in
    and_from (int_le (negsuc (2 ^ 63 - 1)) (n +ℤ pos 1)) (int_le (n +ℤ pos 1) (pos (2 ^ 64))) a b

most_in_range : (n : ℤ) → is_held n ≡ true → Q.in_range (NumMax n) ≡ true
most_in_range n h =
    let low = (held n h).0 in let high = (held n h).1 in
    let a : int_le (negsuc (2 ^ 63)) n ≡ true = grind (arith, low) in
    and_from (int_le (negsuc (2 ^ 63)) n) (int_le n (pos (2 ^ 64 - 1))) a high

before_in_range : (n : ℤ) → is_held n ≡ true → Q.in_range (NumMax (n -ℤ pos 1)) ≡ true
before_in_range n h =
    let low = (held n h).0 in let high = (held n h).1 in
    let a : int_le (negsuc (2 ^ 63)) (n -ℤ pos 1) ≡ true = grind (arith, low) in
    let b : int_le (n -ℤ pos 1) (pos (2 ^ 64 - 1)) ≡ true = grind (arith, high) in
    and_from (int_le (negsuc (2 ^ 63)) (n -ℤ pos 1)) (int_le (n -ℤ pos 1) (pos (2 ^ 64 - 1))) a b

multiple_in_range : (m : ℕ) → is_multiple m ≡ true → Q.in_range (Multiple m) ≡ true
multiple_in_range m h = (and_parts (nat_lt 0 m) (nat_lt m (2 ^ 64)) h).0

module _ (In : ℕ → Type 0) (first : ℕ) (some_entry : 0 < first) (below_first : (q : ℕ) → In q → q < first) where
  abbrev Below : ℕ → Type 0
  Below q = q < first

  abbrev IsGrown : Maker → Type 0
  IsGrown = Grows In first some_entry below_first

  two : (f g : Maker) → IsGrown f → IsGrown g → IsGrown (both f g)
  two = grows-both In first some_entry below_first

  none : IsGrown nothing
  none = grows-nothing In first some_entry below_first

  simple : (P : Position) → Q.in_place P ≡ [] → Q.of_parts P ≡ [] → Q.in_range P ≡ true → IsGrown (node P)
  simple = plain In first some_entry below_first

  -- a position that names entries alone
  naming : (P : Position) → AllByRecursion In (Q.in_place P) → AllByRecursion Below (Q.of_parts P)
      → Q.in_range P ≡ true → IsGrown (node P)
  naming = grows-node In first some_entry below_first

  grows-if : {A : Type 0} (f : A → Maker) (o : Option A) → ((x : A) → IsGrown (f x)) → IsGrown (if_some f o)
  grows-if f None h = none
  grows-if f (Some x) h = h x

  -- where it is there, it passes a test
  grows-tested : {A : Type 0} (f : A → Maker) (ok : A → Bool) (o : Option A) → meets ok o ≡ true
      → ((x : A) → ok x ≡ true → IsGrown (f x)) → IsGrown (if_some f o)
  grows-tested f ok None t h = none
  grows-tested f ok (Some x) t h = h x t

  -- where it is there, the entries that it names are known
  grows-known : {A : Type 0} (f : A → Maker) (names : A → List ℕ) (P : ℕ → Type 0) (o : Option A)
      → AllByRecursion P (lists names o) → ((x : A) → AllByRecursion P (names x) → IsGrown (f x)) → IsGrown
      (if_some f o)
  grows-known f names P None t h = none
  grows-known f names P (Some x) t h = h x t

  values_grow : (ds : List Document) → IsGrown (each value_node ds)
  values_grow ds =
      grows-each In first some_entry below_first value_node ds
      (everywhere In first some_entry below_first (λ d. IsGrown (value_node d)) ds
      (grows-value In first some_entry below_first))

  truths_grow : (f t : Bool) → IsGrown (truths f t)
  truths_grow true true = simple (Types (K.Boolean ∷ [])) refl refl refl
  truths_grow false true = grows-value In first some_entry below_first (boolean true)
  truths_grow true false = grows-value In first some_entry below_first (boolean false)
  truths_grow false false = none

  kind_grows : {A : Type 0} (t : K.Kind) (P : List A → Position) (xs : List A) → ((ys : List A) → IsGrown (node (P ys)))
      → IsGrown (one_of_kind t P xs)
  kind_grows t P [] h = none
  kind_grows t P (x ∷ xs) h = grows-kind In first some_entry below_first t (P (x ∷ xs)) (h (x ∷ xs))

  null_grows : (b : Bool) → IsGrown (cond b (node (Types (K.Null ∷ []))) nothing)
  null_grows true = simple (Types (K.Null ∷ [])) refl refl refl
  null_grows false = none

  groups_grow : (ds : List Document) → IsGrown (groups ds)
  groups_grow ds =
      two (cond (some is_null ds) (node (Types (K.Null ∷ []))) nothing) _ (null_grows (some is_null ds))
      (two (truths (some not (filter_map truth_in ds)) (some (λ b. b) (filter_map truth_in ds))) _ (truths_grow _ _)
      (two (one_of_kind K.Number NumIn (once int_eq (filter_map number_in ds))) _
      (kind_grows K.Number NumIn (once int_eq (filter_map number_in ds)) (λ ys. simple (NumIn ys) refl refl refl))
      (two (one_of_kind K.Text Words (once same_word (filter_map word_in ds))) (each value_node
      (filter is_container ds))
      (kind_grows K.Text Words (once same_word (filter_map word_in ds)) (λ ys. simple (Words ys) refl refl refl))
      (values_grow (filter is_container ds)))))

  items_grow : (rest : Option ℕ) (s : ItemsPart) → AllByRecursion Below (of_items s) → AllByRecursion Below
      (lists one rest)
      → IsGrown (items_node rest s)
  items_grow rest (Each e) h r = naming (Q.Items [] e) tt (h.0, tt) refl
  items_grow (Some e) (Listed es) h r = naming (Q.Items es e) tt (r.0, h) refl
  items_grow None (Listed es) h r =
      grows-above In first some_entry below_first (λ qs. Q.Items es (the_one qs)) (node True)
      (is_listed In first some_entry below_first es h) (simple True refl refl refl)

  members_grow : {N : Type 0} (s : N → Q.NameSet) (q : N → ℕ) (ns : List N) → AllByRecursion (λ n. Below (q n)) ns
      → IsGrown (each (λ n. node (MembersOf (s n) (q n))) ns)
  members_grow s q [] h = none
  members_grow s q (n ∷ ns) h =
      two (node (MembersOf (s n) (q n))) (each (λ n. node (MembersOf (s n) (q n))) ns)
      (naming (MembersOf (s n) (q n)) tt (h.0, tt) refl) (members_grow s q ns h.1)

  names_of_members : (ns : List (List ℕ × ℕ)) → AllByRecursion Below (of_names ns) → AllByRecursion (λ n. Below n.1) ns
  names_of_members [] h = tt
  names_of_members (n ∷ ns) h = (h.0, names_of_members ns h.1)

  has_grow : (ws : List (List ℕ)) → IsGrown (each (λ w. node (Has w)) ws)
  has_grow [] = none
  has_grow (w ∷ ws) = two (node (Has w)) (each (λ w. node (Has w)) ws) (simple (Has w) refl refl refl) (has_grow ws)

  is_depends : IsNode In first some_entry below_first depends_of
  is_depends n p [] l h = (tt, tt, refl)
  is_depends n p (a ∷ []) l h = (tt, tt, refl)
  is_depends n p (a ∷ b ∷ []) l h = (h, tt, refl)
  is_depends n p (a ∷ b ∷ c ∷ qs) l h = (tt, tt, refl)

  need_grows : (d : Needs) → AllByRecursion In (of_need d []) → IsGrown (need_node d)
  need_grows (Names ws) h =
      grows-above In first some_entry below_first All (each (λ w. node (Has w)) ws)
      (is_all In first some_entry below_first) (has_grow ws)
  need_grows (Whole e) h = grows-entry In first some_entry below_first e h.0

  need_first : (d : Needs) (es : List ℕ) → AllByRecursion In (of_need d es)
      → AllByRecursion In (of_need d []) × AllByRecursion In es
  need_first (Names ws) es h = (tt, h)
  need_first (Whole e) es h = ((h.0, tt), h.1)

  dependencies_grow : (ds : List (List ℕ × Needs)) → AllByRecursion In (of_needs ds) → IsGrown (each dependency_node ds)
  dependencies_grow [] h = none
  dependencies_grow (d ∷ ds) h =
      let parts = need_first d.1 (of_needs ds) h in
      two (dependency_node d) (each dependency_node ds)
      (grows-above In first some_entry below_first depends_of (both (node (Has d.0)) (need_node d.1)) is_depends
      (two (node (Has d.0)) (need_node d.1) (simple (Has d.0) refl refl refl) (need_grows d.1 parts.0)))
      (dependencies_grow ds parts.1)

  module _ (tree_of : List ℕ → Tree) (k : Keywords) (range : is_in_range k ≡ true)
      (named : AllByRecursion In (in_place (Asks k))) (parts : AllByRecursion Below (of_parts (Asks k))) where
    abbrev r : NodeRanges k
    r = node_ranges k range

    abbrev here : InPlace In k
    here = in_place_of In k named

    abbrev inside : OfParts Below k
    inside = of_parts_of Below k parts

    anys_grow : IsGrown (any_nodes tree_of k)
    anys_grow =
        two (if_some (λ ts. node (Types (kinds_of ts))) k.types) _
        (grows-if (λ ts. node (Types (kinds_of ts))) k.types (λ ts. simple (Types (kinds_of ts)) refl refl refl))
        (two (if_some (λ ds. above Any (groups ds)) k.enumeration) (if_some value_node k.constant)
        (grows-if (λ ds. above Any (groups ds)) k.enumeration
        (λ ds. grows-above In first some_entry below_first Any (groups ds) (is_any In first some_entry below_first)
        (groups_grow ds)))
        (grows-if value_node k.constant (grows-value In first some_entry below_first)))

    numbers_grow : IsGrown (number_nodes tree_of k)
    numbers_grow =
        two (if_some (λ m. node (Multiple m)) k.multiple_of) _
        (grows-tested (λ m. node (Multiple m)) is_multiple k.multiple_of r.multiple_of (λ m h. simple
        (Multiple m) refl refl
        (multiple_in_range m h)))
        (two (if_some (λ n. node (NumMin n)) k.minimum) _
        (grows-tested (λ n. node (NumMin n)) is_held k.minimum r.minimum
        (λ n h. simple (NumMin n) refl refl (least_in_range n h)))
        (two (if_some (λ n. node (NumMin (n +ℤ pos 1))) k.exclusive_minimum) _
        (grows-tested (λ n. node (NumMin (n +ℤ pos 1))) is_held k.exclusive_minimum r.exclusive_minimum
        (λ n h. simple (NumMin (n +ℤ pos 1)) refl refl (after_in_range n h)))
        (two (if_some (λ n. node (NumMax n)) k.maximum) (if_some (λ n. node (NumMax (n -ℤ pos 1))) k.exclusive_maximum)
        (grows-tested (λ n. node (NumMax n)) is_held k.maximum r.maximum
        (λ n h. simple (NumMax n) refl refl (most_in_range n h)))
        (grows-tested (λ n. node (NumMax (n -ℤ pos 1))) is_held k.exclusive_maximum r.exclusive_maximum
        (λ n h. simple (NumMax (n -ℤ pos 1)) refl refl (before_in_range n h))))))

    strings_grow : IsGrown (string_nodes tree_of k)
    strings_grow =
        two (if_some (λ n. node (LengthMin n)) k.min_length) _
        (grows-if (λ n. node (LengthMin n)) k.min_length (λ n. simple (LengthMin n) refl refl refl))
        (two (if_some (λ n. node (LengthMax n)) k.max_length) (if_some (λ t. node (Match
        (pattern_of tree_of t))) k.pattern)
        (grows-if (λ n. node (LengthMax n)) k.max_length (λ n. simple (LengthMax n) refl refl refl))
        (grows-if (λ t. node (Match (pattern_of tree_of t))) k.pattern
        (λ t. simple (Match (pattern_of tree_of t)) refl refl refl)))

    arrays_grow : IsGrown (array_nodes tree_of k)
    arrays_grow =
        two (if_some (items_node k.additional_items) k.items) _
        (grows-known (items_node k.additional_items) of_items Below k.items inside.items
        (λ s h. items_grow k.additional_items s h inside.additional_items))
        (two (if_some (λ e. node (Contains e)) k.contains) _
        (grows-known (λ e. node (Contains e)) one Below k.contains inside.contains
        (λ e h. naming (Contains e) tt (h.0, tt) refl))
        (two (if_some (λ n. node (CountMin n)) k.min_items) (if_some (λ n. node (CountMax n)) k.max_items)
        (grows-if (λ n. node (CountMin n)) k.min_items (λ n. simple (CountMin n) refl refl refl))
        (grows-if (λ n. node (CountMax n)) k.max_items (λ n. simple (CountMax n) refl refl refl))))

    objects_grow : IsGrown (member_nodes tree_of k)
    objects_grow =
        two (if_some (λ ws. each (λ w. node (Has w)) (once same_word ws)) k.required) _
        (grows-if (λ ws. each (λ w. node (Has w)) (once same_word ws)) k.required (λ ws. has_grow (once same_word ws)))
        (two (if_some (each (λ p. node (MembersOf (Named p.0) p.1))) k.properties) _
        (grows-known (each (λ p. node (MembersOf (Named p.0) p.1))) of_names Below k.properties inside.properties
        (λ ns h. members_grow (λ p. Named p.0) (λ p. p.1) ns (names_of_members ns h)))
        (two (if_some (each (λ p. node (MembersOf (Matching (pattern_of tree_of p.0)) p.1))) k.pattern_properties) _
        (grows-known (each (λ p. node (MembersOf (Matching (pattern_of tree_of p.0)) p.1))) of_names Below
        k.pattern_properties inside.pattern_properties
        (λ ns h. members_grow (λ p. Matching (pattern_of tree_of p.0)) (λ p. p.1) ns (names_of_members ns h)))
        (two (if_some (λ e. node (MembersOf (others_of tree_of k) e)) k.additional_properties) _
        (grows-known (λ e. node (MembersOf (others_of tree_of k) e)) one Below k.additional_properties
        inside.additional_properties (λ e h. naming (MembersOf (others_of tree_of k) e) tt (h.0, tt) refl))
        (two (if_some (λ e. node (NamesIn e)) k.property_names) (if_some (each dependency_node) k.dependencies)
        (grows-known (λ e. node (NamesIn e)) one Below k.property_names inside.property_names
        (λ e h. naming (NamesIn e) tt (h.0, tt) refl))
        (grows-known (each dependency_node) of_needs In k.dependencies here.dependencies dependencies_grow)))))

    counts_grow : IsGrown (count_nodes tree_of k)
    counts_grow =
        two (if_some (λ n. node (PropsMin n)) k.min_properties) (if_some (λ n. node (PropsMax n)) k.max_properties)
        (grows-if (λ n. node (PropsMin n)) k.min_properties (λ n. simple (PropsMin n) refl refl refl))
        (grows-if (λ n. node (PropsMax n)) k.max_properties (λ n. simple (PropsMax n) refl refl refl))

    in_places_grow : IsGrown (in_place_nodes tree_of k)
    in_places_grow =
        two (if_some (λ es. node (All es)) k.all_of) _
        (grows-known (λ es. node (All es)) all In k.all_of here.all_of (λ es h. naming (All es) h tt refl))
        (two (if_some (λ es. node (Any es)) k.any_of) _
        (grows-known (λ es. node (Any es)) all In k.any_of here.any_of (λ es h. naming (Any es) h tt refl))
        (two (if_some (λ es. node (One es)) k.one_of) (if_some (λ e. node (Not e)) k.not)
        (grows-known (λ es. node (One es)) all In k.one_of here.one_of (λ es h. naming (One es) h tt refl))
        (grows-known (λ e. node (Not e)) one In k.not here.negated (λ e h. naming (Not e) h tt refl))))

    -- the nodes of keywords name only entries and nodes that come before them
    pub keywords_grow : IsGrown (keyword_nodes tree_of k)
    keywords_grow =
        two (any_nodes tree_of k) _ anys_grow (two (number_nodes tree_of k) _ numbers_grow
        (two (string_nodes tree_of k) _ strings_grow (two (array_nodes tree_of k) _ arrays_grow
        (two (member_nodes tree_of k) _ objects_grow
        (two (count_nodes tree_of k) (in_place_nodes tree_of k) counts_grow in_places_grow)))))
