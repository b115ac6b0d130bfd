-- The core table of a schema has no more positions than its entries weigh, so fewer than 2^31.
use Rattle.std.proofs.Common.{◌≡◌, ℕ, suc, ◌+◌, ◌*◌, ◌^◌, ◌<◌, ◌≤◌, List, [], ◌∷◌, length, Bool, true, false, cond, not, Option, Some, None, filter, refl, arith, nat_le, length-append}
use Rattle.std.proofs.lemmas.Bool.{and_parts}
use Rattle.std.specs.List.{filter_map}
use Rattle.std.specs.Ordering.{int_eq}
use Rattle.documents.specs.Tests.{some, same_word}
use Rattle.documents.specs.Kind as K
use Rattle.documents.specs.Document.{Document, null, boolean, number, string, array, object, Items, no_items, item, Members, no_members, member, elements}
use Rattle.patterns.specs.Tree.{Tree}
use Rattle.schemas.specs.Entry.{ItemsPart, Each, Listed, Needs, Names, Whole, Keywords, Form, Always, Never, Ref, Asks, Entry}
use Rattle.schemas.specs.Schema.{values_in, item_values, member_values, sizes, single, several, items_size, values_size, need_size, needs_size, keywords_size, form_size, total_size, is_table}
use Rattle.schemas.specs.Weight.{most_weight}
use Rattle.positions.specs.Position.{Position, True, False, All, Any, One, Not, Types, NumMin, NumMax, Multiple, NumIn, Words, Match, LengthMin, LengthMax, Contains, CountMin, CountMax, MembersOf, Named, Matching, Others, Has, PropsMin, PropsMax, NamesIn}
use Rattle.normal_forms.specs.Nodes.{Maker, nothing, node, both, above, each, if_some, the_one, after}
use Rattle.normal_forms.specs.Values.{items_of, names_of, value_node, item_nodes, member_nodes, member_of}
use Rattle.normal_forms.specs.KeywordNodes as W
use Rattle.normal_forms.specs.KeywordNodes.{kinds_of, once, is_null, truth_in, number_in, word_in, is_container, one_of_kind, truths, groups, items_node, depends_of, need_node, dependency_node, pattern_of, others_of, any_nodes, number_nodes, string_nodes, array_nodes, count_nodes, in_place_nodes, keyword_nodes}
use Rattle.normal_forms.specs.NormalForm.{form_nodes, entry_positions, all_nodes, table_of}
use Rattle.normal_laws.proofs.NormalLaw.{length-entry_positions}

-- a maker appends no more than m positions, wherever it begins
record Takes (f : Maker) (m : ℕ) : Type 0 where
  takes : (n : ℕ) → length (f n).added ≤ m

taking : (f : Maker) (m : ℕ) → ((n : ℕ) → length (f n).added ≤ m) → Takes f m
taking f m h = record { takes = h }

takes-nothing : (m : ℕ) → Takes nothing m
takes-nothing m = record { takes = λ n. omega arith }

takes-one : (P : Position) → Takes (node P) 1
takes-one P = record { takes = λ n. omega arith }

takes-more : (f : Maker) (a m : ℕ) → a ≤ m → Takes f a → Takes f m
takes-more f a m l h = taking f m (λ n. let b = h.takes n in omega (arith, b, l))

takes-both : {f g : Maker} {a b : ℕ} → Takes f a → Takes g b → Takes (both f g) (a + b)
takes-both {f} {g} {a} {b} x y =
    taking (both f g) (a + b) (λ n.
    let p : length (f n).added ≤ a = x.takes n in
    let q : length (g (after n (f n))).added ≤ b = y.takes (after n (f n)) in
    let e = length-append (f n).added (g (after n (f n))).added in omega (arith, p, q, e))

takes-above : {f : Maker} {a : ℕ} (P : List ℕ → Position) → Takes f a → Takes (above P f) (a + 1)
takes-above {f} {a} P x =
    taking (above P f) (a + 1) (λ n.
    let p : length (f n).added ≤ a = x.takes n in
    let e = length-append (f n).added (P (f n).named ∷ []) in omega (arith, p, e))

abbrev total : {A : Type 0} → (A → ℕ) → List A → ℕ
total w [] = 0
total w (x ∷ xs) = w x + total w xs

takes-each : {A : Type 0} (f : A → Maker) (w : A → ℕ) (xs : List A) → ((x : A) → Takes (f x) (w x))
    → Takes (each f xs) (total w xs)
takes-each f w [] h = takes-nothing 0
takes-each f w (x ∷ xs) h = takes-both (h x) (takes-each f w xs h)

-- where it is there, a keyword takes no more than 8 for each of its values
takes-if : {A : Type 0} (f : A → Maker) (w : A → ℕ) (o : Option A) → ((x : A) → Takes (f x) (8 * w x))
    → Takes (if_some f o) (8 * sizes w o)
takes-if f w None h = takes-nothing 0
takes-if f w (Some x) h = h x

takes-plain : {A : Type 0} (P : A → Position) (o : Option A) → Takes (if_some (λ x. node (P x)) o) (8 * sizes single o)
takes-plain P o = takes-if (λ x. node (P x)) single o (λ x. takes-more (node (P x)) 1 8 (omega arith) (takes-one (P x)))

-- values: a member needs two positions beside its value, so each value leaves two
mutual
  takes-value : (d : Document) (n : ℕ) → length (value_node d n).added + 2 ≤ 8 * values_in d
  takes-value null n = omega arith
  takes-value (boolean b) n = omega arith
  takes-value (number z) n = omega arith
  takes-value (string w) n = omega arith
  takes-value (array ds) n =
      let all = takes-above All
      (takes-both (takes-one (Types (K.Array ∷ [])))
      (takes-both (takes-above items_of (takes-both (takes-items ds) (takes-one True)))
      (takes-both (takes-one (CountMin (length (elements ds)))) (takes-one (CountMax (length (elements ds))))))) in
      let k : length (value_node (array ds) n).added ≤ 1 + ((8 * item_values ds + 1 + 1) + (1 + 1)) + 1 = all.takes n in
      omega (arith, k)
  takes-value (object ms) n =
      let all = takes-above All
      (takes-both (takes-one (Types (K.Object ∷ [])))
      (takes-both (takes-members ms)
      (takes-above (λ qs. MembersOf (Others (names_of ms) []) (the_one qs)) (takes-one False)))) in
      let k : length (value_node (object ms) n).added ≤ 1 + (8 * member_values ms + (1 + 1)) + 1 = all.takes n in
      omega (arith, k)

  takes-items : (ds : Items) → Takes (item_nodes ds) (8 * item_values ds)
  takes-items no_items = record { takes = λ n. omega arith }
  takes-items (item d ds) =
      taking (item_nodes (item d ds)) (8 * item_values (item d ds)) (λ n.
      let p = takes-value d n in
      let q = (takes-items ds).takes (after n (value_node d n)) in
      let e = length-append (value_node d n).added (item_nodes ds (after n (value_node d n))).added in
      omega (arith, p, q, e))

  takes-members : (ms : Members) → Takes (member_nodes ms) (8 * member_values ms)
  takes-members no_members = record { takes = λ n. omega arith }
  takes-members (member k d ms) =
      taking (member_nodes (member k d ms)) (8 * member_values (member k d ms)) (λ n.
      let p = takes-value d (n + 1) in
      let value : length (above (member_of k) (value_node d) (n + 1)).added ≤ length (value_node d (n + 1)).added + 1 =
      (let e = length-append (value_node d (n + 1)).added (member_of k (value_node d (n + 1)).named ∷ []) in
      omega (arith, e)) in
      let later = after (n + 1) (above (member_of k) (value_node d) (n + 1)) in
      let q = (takes-members ms).takes later in
      let e = length-append (above (member_of k) (value_node d) (n + 1)).added (member_nodes ms later).added in
      omega (arith, p, value, q, e))

takes-one_value : (d : Document) → Takes (value_node d) (8 * values_in d)
takes-one_value d = taking (value_node d) (8 * values_in d) (λ n. let h = takes-value d n in omega (arith, h))

-- groups of values take three positions at most, where there are any
abbrev three : {A : Type 0} → List A → ℕ
three [] = 0
three (x ∷ xs) = 3

takes-kind : {A : Type 0} (t : K.Kind) (P : List A → Position) (xs : List A) → Takes (one_of_kind t P xs) (three xs)
takes-kind t P [] = record { takes = λ n. omega arith }
takes-kind t P (x ∷ xs) = record { takes = λ n. omega arith }

three-once : {A : Type 0} (same : A → A → Bool) (xs : List A) → three (once same xs) ≡ three xs
three-once same [] = refl
three-once same (x ∷ xs) = refl

takes-truths : (bs : List Bool) → Takes (truths (some not bs) (some (λ b. b) bs)) (three bs)
takes-truths [] = record { takes = λ n. omega arith }
takes-truths (b ∷ bs) = at_most (some not (b ∷ bs)) (some (λ b. b) (b ∷ bs)) where
  at_most : (f t : Bool) → Takes (truths f t) 3
  at_most true true = record { takes = λ n. omega arith }
  at_most false true = record { takes = λ n. omega arith }
  at_most true false = record { takes = λ n. omega arith }
  at_most false false = record { takes = λ n. omega arith }

takes-null : (t : Bool) → Takes (cond t (node (Types (K.Null ∷ []))) nothing) (cond t 1 0)
takes-null true = record { takes = λ n. omega arith }
takes-null false = record { takes = λ n. omega arith }

abbrev group_sizes : List Document → ℕ
group_sizes ds =
    cond (some is_null ds) 1 0
    + (three (filter_map truth_in ds)
    + (three (filter_map number_in ds)
    + (three (filter_map word_in ds) + total (λ d. 8 * values_in d) (filter is_container ds))))

takes-groups : (ds : List Document) → Takes (groups ds) (group_sizes ds)
takes-groups ds =
    takes-both (takes-null (some is_null ds))
    (takes-both (takes-truths (filter_map truth_in ds))
    (takes-both (once_kind K.Number NumIn int_eq (filter_map number_in ds))
    (takes-both (once_kind K.Text Words same_word (filter_map word_in ds))
    (takes-each value_node (λ d. 8 * values_in d) (filter is_container ds) takes-one_value)))) where
      once_kind : {A : Type 0} (t : K.Kind) (P : List A → Position) (same : A → A → Bool) (xs : List A)
          → Takes (one_of_kind t P (once same xs)) (three xs)
      once_kind t P same xs = rw (← three-once same xs) (takes-kind t P (once same xs))

-- the groups and 8 more are within 8 for each value
groups-size : (ds : List Document) → group_sizes ds + 8 ≤ 8 * values_size ds
groups-size [] = omega arith
groups-size (null ∷ ds) = let h = groups-size ds in omega (arith, h)
groups-size (boolean b ∷ ds) = let h = groups-size ds in omega (arith, h)
groups-size (number z ∷ ds) = let h = groups-size ds in omega (arith, h)
groups-size (string w ∷ ds) = let h = groups-size ds in omega (arith, h)
groups-size (array es ∷ ds) = let h = groups-size ds in omega (arith, h)
groups-size (object ms ∷ ds) = let h = groups-size ds in omega (arith, h)

takes-enum : (ds : List Document) → Takes (above Any (groups ds)) (8 * values_size ds)
takes-enum ds =
    taking (above Any (groups ds)) (8 * values_size ds) (λ n.
    let h : length (above Any (groups ds) n).added ≤ group_sizes ds + 1 = (takes-above Any (takes-groups ds)).takes n in
    let k = groups-size ds in omega (arith, h, k))

takes-items_node : (rest : Option ℕ) (s : ItemsPart) → Takes (items_node rest s) (8 * items_size s)
takes-items_node rest (Each e) = record { takes = λ n. omega arith }
takes-items_node (Some e) (Listed es) = record { takes = λ n. omega arith }
takes-items_node None (Listed es) = record { takes = λ n. omega arith }

takes-list : {A : Type 0} (P : A → Position) (xs : List A) → Takes (each (λ x. node (P x)) xs) (length xs)
takes-list P [] = record { takes = λ n. omega arith }
takes-list P (x ∷ xs) =
    taking (each (λ x. node (P x)) (x ∷ xs)) (suc (length xs)) (λ n.
    let h = (takes-list P xs).takes (n + 1) in omega (arith, h))

takes-several : {A : Type 0} (P : A → Position) (xs : List A) → Takes (each (λ x. node (P x)) xs) (8 * several xs)
takes-several P xs =
    taking (each (λ x. node (P x)) xs) (8 * several xs) (λ n.
    let h = (takes-list P xs).takes n in omega (arith, h))

once-length : {A : Type 0} (same : A → A → Bool) (done xs : List A) → length (W.once_among same done xs) ≤ length xs
once-length same done [] = omega arith
once-length same done (x ∷ xs) =
    by_test (some (same x) done) (once-length same done xs) (once-length same (x ∷ done) xs) where
      by_test : (t : Bool) → length (W.once_among same done xs) ≤ length xs
          → length (W.once_among same (x ∷ done) xs) ≤ length xs
          → length (cond t (W.once_among same done xs) (x ∷ W.once_among same (x ∷ done) xs)) ≤ suc (length xs)
      by_test true a b = omega (arith, a)
      by_test false a b = omega (arith, b)

takes-required : (ws : List (List ℕ)) → Takes (each (λ w. node (Has w)) (once same_word ws)) (8 * several ws)
takes-required ws =
    taking (each (λ w. node (Has w)) (once same_word ws)) (8 * several ws) (λ n.
    let h = (takes-list Has (once same_word ws)).takes n in
    let k = once-length same_word [] ws in omega (arith, h, k))

takes-need : (d : Needs) → Takes (need_node d) (need_size d)
takes-need (Names ws) =
    taking (need_node (Names ws)) (need_size (Names ws)) (λ n.
    let h : length (need_node (Names ws) n).added ≤ length ws + 1 = (takes-above All (takes-list Has ws)).takes n in
    omega (arith, h))
takes-need (Whole e) = record { takes = λ n. omega arith }

need-size : (d : Needs) → 1 ≤ need_size d
need-size (Names ws) = omega arith
need-size (Whole e) = omega arith

takes-dependencies : (ds : List (List ℕ × Needs)) → Takes (each dependency_node ds) (8 * needs_size ds)
takes-dependencies [] = record { takes = λ n. omega arith }
takes-dependencies (d ∷ ds) =
    taking (each dependency_node (d ∷ ds)) (8 * needs_size (d ∷ ds)) (λ n.
    let some_need = need-size d.1 in
    let h : length (each dependency_node (d ∷ ds) n).added ≤ (1 + need_size d.1 + 1) + 8 * needs_size ds =
    (takes-both (takes-above depends_of (takes-both (takes-one (Has d.0)) (takes-need d.1)))
    (takes-dependencies ds)).takes n in
    omega (arith, h, some_need))

module _ (tree_of : List ℕ → Tree) (k : Keywords) where
  takes-any : Takes (any_nodes tree_of k)
      (8 * sizes single k.types + (8 * sizes values_size k.enumeration + 8 * sizes values_in k.constant))
  takes-any =
      takes-both (takes-plain (λ ts. Types (kinds_of ts)) k.types)
      (takes-both (takes-if (λ ds. above Any (groups ds)) values_size k.enumeration takes-enum)
      (takes-if value_node values_in k.constant takes-one_value))

  takes-numbers : Takes (number_nodes tree_of k)
      (8 * sizes single k.multiple_of + (8 * sizes single k.minimum + (8 * sizes single k.exclusive_minimum
      + (8 * sizes single k.maximum + 8 * sizes single k.exclusive_maximum))))
  takes-numbers =
      takes-both (takes-plain Multiple k.multiple_of)
      (takes-both (takes-plain NumMin k.minimum)
      (takes-both (takes-plain _ k.exclusive_minimum)
      (takes-both (takes-plain NumMax k.maximum) (takes-plain _ k.exclusive_maximum))))

  takes-strings : Takes (string_nodes tree_of k)
      (8 * sizes single k.min_length + (8 * sizes single k.max_length + 8 * sizes single k.pattern))
  takes-strings =
      takes-both (takes-plain LengthMin k.min_length)
      (takes-both (takes-plain LengthMax k.max_length) (takes-plain (λ t. Match (pattern_of tree_of t)) k.pattern))

  takes-arrays : Takes (array_nodes tree_of k)
      (8 * sizes items_size k.items + (8 * sizes single k.contains + (8 * sizes single k.min_items
      + 8 * sizes single k.max_items)))
  takes-arrays =
      takes-both (takes-if (items_node k.additional_items) items_size k.items (takes-items_node k.additional_items))
      (takes-both (takes-plain Contains k.contains)
      (takes-both (takes-plain CountMin k.min_items) (takes-plain CountMax k.max_items)))

  takes-objects : Takes (W.member_nodes tree_of k)
      (8 * sizes several k.required + (8 * sizes several k.properties + (8 * sizes several k.pattern_properties
      + (8 * sizes single k.additional_properties + (8 * sizes single k.property_names
      + 8 * sizes needs_size k.dependencies)))))
  takes-objects =
      takes-both
      (takes-if (λ ws. each (λ w. node (Has w)) (once same_word ws)) several k.required takes-required)
      (takes-both
      (takes-if (each (λ p. node (MembersOf (Named p.0) p.1))) several k.properties
      (takes-several (λ p. MembersOf (Named p.0) p.1)))
      (takes-both
      (takes-if (each (λ p. node (MembersOf (Matching (pattern_of tree_of p.0)) p.1))) several k.pattern_properties
      (takes-several (λ p. MembersOf (Matching (pattern_of tree_of p.0)) p.1)))
      (takes-both (takes-plain (MembersOf (others_of tree_of k)) k.additional_properties)
      (takes-both (takes-plain NamesIn k.property_names)
      (takes-if (each dependency_node) needs_size k.dependencies takes-dependencies)))))

  takes-counts : Takes (count_nodes tree_of k) (8 * sizes single k.min_properties + 8 * sizes single k.max_properties)
  takes-counts = takes-both (takes-plain PropsMin k.min_properties) (takes-plain PropsMax k.max_properties)

  takes-in_place : Takes (in_place_nodes tree_of k)
      (8 * sizes several k.all_of
      + (8 * sizes several k.any_of + (8 * sizes several k.one_of + 8 * sizes single k.not)))
  takes-in_place =
      takes-both (takes-if (λ es. node (All es)) several k.all_of (listed All))
      (takes-both (takes-if (λ es. node (Any es)) several k.any_of (listed Any))
      (takes-both (takes-if (λ es. node (One es)) several k.one_of (listed One)) (takes-plain Not k.not))) where
        listed : (P : List ℕ → Position) (es : List ℕ) → Takes (node (P es)) (8 * several es)
        listed P es = record { takes = λ n. omega arith }

  takes-keywords : Takes (keyword_nodes tree_of k) (8 * keywords_size k)
  takes-keywords =
      taking (keyword_nodes tree_of k) (8 * keywords_size k) (λ n.
      let h = (takes-both takes-any (takes-both takes-numbers (takes-both takes-strings (takes-both takes-arrays
      (takes-both takes-objects (takes-both takes-counts takes-in_place)))))).takes n in
      omega (arith, h))

module _ (tree_of : List ℕ → Tree) where
  form-size : (f : Form) (n : ℕ) → length (form_nodes tree_of f n).added + 1 ≤ form_size f
  form-size Always n = omega arith
  form-size Never n = omega arith
  form-size (Ref e) n = omega arith
  form-size (Asks k) n = let h = (takes-keywords tree_of k).takes n in omega (arith, h)

  nodes-size : (n : ℕ) (es : List Entry) → length (all_nodes tree_of n es) + length es ≤ total_size es
  nodes-size n [] = omega arith
  nodes-size n (e ∷ es) =
      let here = form-size e.form n in
      let later = after n (form_nodes tree_of e.form n) in
      let more = nodes-size later es in
      let seam = length-append (form_nodes tree_of e.form n).added (all_nodes tree_of later es) in
      omega (arith, here, more, seam)

  pub table-size : (es : List Entry) → length (table_of tree_of es) ≤ total_size es
  unfolding table_of
  table-size es =
      let heads = length-entry_positions tree_of (length es) es in
      let nodes = nodes-size (length es) es in
      let seam = length-append (entry_positions tree_of (length es) es) (all_nodes tree_of (length es) es) in
      omega (arith, heads, nodes, seam)

  -- a schema that is read has a core table whose positions fit 31 bits
  pub table-small : (es : List Entry) → is_table es ≡ true → length (table_of tree_of es) < 2 ^ 31
  table-small es table =
      let few = (and_parts _ (nat_le (total_size es) most_weight) table).1 in
      let size = table-size es in
      let weight : total_size es ≤ 2147483647 = grind (arith, few) in
      omega (arith, size, weight)
