-- An entry has no more values than its place weighs.
use Rattle.std.proofs.Common.{◌≡◌, ℕ, suc, ◌+◌, ◌≤◌, List, [], ◌∷◌, ◌++◌, map, length, Bool, true, false, ◌&&◌, ◌||◌, not, cond, Option, Some, None, option_map, option_and_then, Result, Ok, Err, codes, refl, sym, ap, ap₂, subst, arith, true≢false}
use Rattle.std.proofs.Math.ListN.{length-map}
use Rattle.std.proofs.lemmas.Bool.{and_parts, not-true}
use Rattle.documents.specs.Tests.{some, same_word}
use Rattle.documents.specs.Json.{Json, boolean, string, array, object, Items, no_items, item, Members, no_members, member, lookup, elements, entries, count, items_count, members_count}
use Rattle.schemas.specs.Places.{Pointer, Place, elements_under}
use Rattle.schemas.specs.Keyword.{Schema, shape_of, is_list, read_shape}
use Rattle.schemas.specs.Weight.{list_values, map_values, need_values, need_map_values, member_values, keyword_values, object_weight, weight}
use Rattle.schemas.specs.Fault.{Rules}
use Rattle.schemas.specs.Walk.{root_id}
use Rattle.schemas.specs.Entries.{types_of, whole, natural, one_number, document_of, items_of, members_of, listed, word, field, list_numbers, items_part, named_numbers, needs_of, all_needs, rest_number, keywords_of, referred_form, reference_form, object_form, form_at, entry_at}
use Rattle.schemas.specs.Entry.{Keywords}
use Rattle.schemas.specs.Schema.{if_there, sizes, single, several, items_size, values_in, values_size, need_size, needs_size, keywords_size, form_size, total_size}
use Rattle.schemas.specs.Schema as S
use Rattle.schema_laws.specs.Walking.{weights}
use Rattle.list_laws.proofs.Tests.{same_word-true}

-- a document has as many values as the value that it is of
mutual
  values_in-document_of : (v : Json) → values_in (document_of v) ≡ count v
  values_in-document_of (array vs) = ap suc (item_values-items_of vs)
  values_in-document_of (object ms) = ap suc (member_values-members_of ms)
  values_in-document_of _ = refl

  item_values-items_of : (vs : Items) → S.item_values (items_of vs) ≡ items_count vs
  item_values-items_of no_items = refl
  item_values-items_of (item v vs) = omega (arith, values_in-document_of v, item_values-items_of vs)

  member_values-members_of : (ms : Members) → S.member_values (members_of ms) ≡ members_count ms
  member_values-members_of no_members = refl
  member_values-members_of (member k v ms) = omega (arith, values_in-document_of v, member_values-members_of ms)

-- ---- the values of a keyword

pub record Fits (m n : ℕ) : Type 0 where
  pub fits : m ≤ n

some_values : (v : Json) → 1 ≤ count v
some_values (array vs) = omega arith
some_values (object ms) = omega arith
some_values _ = omega arith

constant_size : (v : Json) → values_in (document_of v) ≤ count v
constant_size v = omega (arith, values_in-document_of v)

values_size-elements : (vs : Items) → values_size (map document_of (elements vs)) ≡ suc (items_count vs)
values_size-elements no_items = refl
values_size-elements (item v vs) = omega (arith, values_in-document_of v, values_size-elements vs)

enumeration_size : (v : Json) → values_size (map document_of (listed v)) ≤ count v
enumeration_size (array vs) = omega (arith, values_size-elements vs)
enumeration_size (object ms) = omega arith
enumeration_size _ = omega arith

length-words : (vs : Items) → length (map word (elements vs)) ≤ items_count vs
length-words no_items = omega arith
length-words (item v vs) = omega (arith, some_values v, length-words vs)

words_size : (v : Json) → several (map word (listed v)) ≤ count v
words_size (array vs) = omega (arith, length-words vs)
words_size (object ms) = omega arith
words_size _ = omega arith

length-elements_under : (p : Pointer) (i : ℕ) (vs : Items) → length (elements_under p i vs) ≡ length (elements vs)
length-elements_under p i no_items = refl
length-elements_under p i (item v vs) = ap suc (length-elements_under p (suc i) vs)

module _ (entry_of : Pointer → ℕ) (p : Pointer) (k : List ℕ) where
  list_size : (v : Json) → several (list_numbers entry_of p k v) ≤ list_values v
  list_size (array vs) =
      omega (
        arith,
        length-map (elements_under (p ++ k ∷ []) 0 vs) (λ c. entry_of c.0),
        length-elements_under (p ++ k ∷ []) 0 vs,
      )
  list_size _ = omega arith

  items_size-part : (v : Json) → items_size (items_part entry_of p k v) ≤ list_values v
  items_size-part (array vs) = list_size (array vs)
  items_size-part _ = omega arith

  names_size : (v : Json) → several (named_numbers entry_of p k v) ≤ map_values v
  names_size (object ms) =
      let same = length-map {B = List ℕ × ℕ} (entries ms) (λ m. (m.0, entry_of ((p ++ k ∷ []) ++ m.0 ∷ []))) in
      omega (arith, same)
  names_size _ = omega arith

  need_size-of : (w : List ℕ) (v : Json) → need_size (needs_of entry_of p k (w, v)) ≤ list_values v
  need_size-of w (array vs) = omega (arith, length-map (elements vs) word)
  need_size-of w _ = omega arith

  needs_size-among : (ms : Members)
      → needs_size (map (λ m. (m.0, needs_of entry_of p k m)) (entries ms)) ≤ suc (need_values ms)
  needs_size-among no_members = omega arith
  needs_size-among (member w v ms) = omega (arith, need_size-of w v, needs_size-among ms)

  needs_size-all : (v : Json) → needs_size (all_needs entry_of p k v) ≤ need_map_values v
  needs_size-all (object ms) = needs_size-among ms
  needs_size-all _ = omega arith

-- ---- what several keywords have together, and what all members have

abbrev found_values : (List ℕ → Json → ℕ) → Members → List ℕ → ℕ
found_values f ms k = if_there 0 (f k) (lookup k ms)

-- the sum of what keywords have, from a first number on
abbrev sum_from : (List ℕ → Json → ℕ) → Members → ℕ → List (List ℕ) → ℕ
sum_from f ms before [] = before
sum_from f ms before (k ∷ ks) = sum_from f ms (before + found_values f ms k) ks

abbrev sum_of : (List ℕ → Json → ℕ) → Members → List (List ℕ) → ℕ
sum_of f ms [] = 0
sum_of f ms (k ∷ ks) = found_values f ms k + sum_of f ms ks

sum_from-sum_of : (f : List ℕ → Json → ℕ) (ms : Members) (before : ℕ) (ks : List (List ℕ))
    → sum_from f ms before ks ≡ before + sum_of f ms ks
sum_from-sum_of f ms before [] = omega arith
sum_from-sum_of f ms before (k ∷ ks) =
    let rest = sum_from-sum_of f ms (before + found_values f ms k) ks in omega (arith, rest)

-- the words are different
abbrev differ : List (List ℕ) → Bool
differ [] = true
differ (k ∷ ks) = not (some (λ j. same_word j k) ks) && differ ks

neither : (a b : Bool) → not (a || b) ≡ true → (not a ≡ true) × (not b ≡ true)
neither true b h = (h, absurd (true≢false (sym h)))
neither false b h = (refl, h)

module _ (f : List ℕ → Json → ℕ) (n : List ℕ) (v : Json) (ms : Members) where
  -- a member that none of the keywords names adds nothing
  sum_of-other : (ks : List (List ℕ)) → not (some (λ j. same_word j n) ks) ≡ true
      → sum_of f (member n v ms) ks ≡ sum_of f ms ks
  sum_of-other [] h = refl
  sum_of-other (k ∷ ks) h =
      let both = neither (same_word k n) (some (λ j. same_word j n) ks) h in
      ap₂ (λ b rest. if_there 0 (f k) (cond b (Some v) (lookup k ms)) + rest) (not-true (same_word k n) both.0)
      (sum_of-other ks both.1)

  -- and one that is named adds its own values
  sum_of-named : (k : List ℕ) (ks : List (List ℕ)) (test : Bool) → same_word k n ≡ test
      → not (some (λ j. same_word j k) ks) ≡ true → sum_of f (member n v ms) ks ≤ f n v + sum_of f ms ks
      → if_there 0 (f k) (cond test (Some v) (lookup k ms)) + sum_of f (member n v ms) ks
      ≤ f n v + (if_there 0 (f k) (lookup k ms) + sum_of f ms ks)
  sum_of-named k ks false e h rest = omega (arith, rest)
  sum_of-named k ks true e h rest =
      let same = same_word-true k n e in
      let others = sum_of-other ks (subst (λ w. not (some (λ j. same_word j w) ks) ≡ true) same h) in
      let own : f k v ≡ f n v = ap (λ w. f w v) same in
      omega (arith, own, others)

  sum_of-member : (ks : List (List ℕ)) → differ ks ≡ true → sum_of f (member n v ms) ks ≤ f n v + sum_of f ms ks
  sum_of-member [] h = omega arith
  sum_of-member (k ∷ ks) h =
      let both = and_parts (not (some (λ j. same_word j k) ks)) (differ ks) h in
      sum_of-named k ks (same_word k n) refl both.0 (sum_of-member ks both.1)

sum_of-none : (f : List ℕ → Json → ℕ) (ks : List (List ℕ)) → sum_of f no_members ks ≡ 0
sum_of-none f [] = refl
sum_of-none f (k ∷ ks) = let rest = sum_of-none f ks in omega (arith, rest)

-- different keywords have no more than all members
sum_of-keyword_values : (ms rest : Members) (ks : List (List ℕ)) → differ ks ≡ true
    → sum_of (λ k. member_values (read_shape ms k)) rest ks ≤ keyword_values ms rest
sum_of-keyword_values ms no_members ks h = omega (arith, sum_of-none (λ k. member_values (read_shape ms k)) ks)
sum_of-keyword_values ms (member n v rest) ks h =
    let one = sum_of-member (λ k. member_values (read_shape ms k)) n v rest ks h in
    let others = sum_of-keyword_values ms rest ks h in omega (arith, one, others)

-- ---- the keywords of an object

-- the names of its fields, in their order
abbrev names : List (List ℕ)
names =
    codes "type" ∷ codes "enum" ∷ codes "const" ∷ codes "multipleOf" ∷ codes "minimum" ∷ codes "maximum"
    ∷ codes "exclusiveMinimum" ∷ codes "exclusiveMaximum" ∷ codes "minLength" ∷ codes "maxLength" ∷ codes "pattern"
    ∷ codes "items" ∷ codes "additionalItems" ∷ codes "contains" ∷ codes "minItems" ∷ codes "maxItems"
    ∷ codes "required" ∷ codes "properties" ∷ codes "patternProperties" ∷ codes "additionalProperties"
    ∷ codes "propertyNames" ∷ codes "dependencies" ∷ codes "minProperties" ∷ codes "maxProperties" ∷ codes "allOf"
    ∷ codes "anyOf" ∷ codes "oneOf" ∷ codes "not" ∷ []

names_are_different : differ names ≡ true
names_are_different = refl

and_more : {a b c d : ℕ} → Fits a b → Fits c d → Fits (a + c) (b + d)
and_more h k = record { fits = let less = h.fits in let more = k.fits in omega (arith, less, more) }

at_first : {a b : ℕ} → Fits a b → Fits a (0 + b)
at_first h = record { fits = let less = h.fits in omega (arith, less) }

field_size : {A : Type 0} (size : A → ℕ) (make : List ℕ → Json → A) (f : List ℕ → Json → ℕ) (k : List ℕ) (ms : Members)
    → ((v : Json) → size (make k v) ≤ f k v) → Fits (sizes size (field ms k make)) (found_values f ms k)
field_size size make f k ms h = go (lookup k ms)
  where
    go : (o : Option Json) → Fits (sizes size (option_map (make k) o)) (if_there 0 (f k) o)
    go None = record { fits = omega arith }
    go (Some v) = record { fits = h v }

module _ (entry_of : Pointer → ℕ) (p : Pointer) (ms : Members) where
  abbrev values_of : List ℕ → Json → ℕ
  values_of k = member_values (read_shape ms k)

  abbrev keywords : Keywords
  keywords = keywords_of entry_of p ms

  field_fits : {A : Type 0} (size : A → ℕ) (make : List ℕ → Json → A) (k : List ℕ)
      → ((v : Json) → size (make k v) ≤ values_of k v)
      → Fits (sizes size (field ms k make)) (found_values values_of ms k)
  field_fits size make k h = field_size size make values_of k ms h

  -- `additionalItems` is there only beside a list
  rest_fits : Fits (sizes single keywords.additional_items) (found_values values_of ms (codes "additionalItems"))
  unfolding shape_of
  rest_fits = go (lookup (codes "items") ms) (lookup (codes "additionalItems") ms)
    where
      go : (items o : Option Json)
          → Fits (sizes single (option_and_then (rest_number entry_of p items (codes "additionalItems")) o))
          (if_there 0 (member_values (cond (is_list items) (Some Schema) None)) o)
      go items None = record { fits = omega arith }
      go (Some (array vs)) (Some v) = record { fits = omega arith }
      go _ (Some v) = record { fits = omega arith }

  numbers_fit : Fits
      (sizes single keywords.types + sizes values_size keywords.enumeration + sizes values_in keywords.constant
      + sizes single keywords.multiple_of + sizes single keywords.minimum + sizes single keywords.maximum
      + sizes single keywords.exclusive_minimum + sizes single keywords.exclusive_maximum
      + sizes single keywords.min_length + sizes single keywords.max_length + sizes single keywords.pattern)
      (sum_from values_of ms 0 (codes "type" ∷ codes "enum" ∷ codes "const" ∷ codes "multipleOf" ∷ codes "minimum"
      ∷ codes "maximum" ∷ codes "exclusiveMinimum" ∷ codes "exclusiveMaximum" ∷ codes "minLength" ∷ codes "maxLength"
      ∷ codes "pattern" ∷ []))
  unfolding shape_of
  numbers_fit =
      let types = field_fits single (λ k. types_of) (codes "type") some_values in
      let enumeration = field_fits values_size (λ k v. map document_of (listed v)) (codes "enum") enumeration_size in
      let constant = field_fits values_in (λ k. document_of) (codes "const") constant_size in
      let multiple = field_fits single (λ k. natural) (codes "multipleOf") some_values in
      let minimum = field_fits single (λ k. whole) (codes "minimum") some_values in
      let maximum = field_fits single (λ k. whole) (codes "maximum") some_values in
      let above = field_fits single (λ k. whole) (codes "exclusiveMinimum") some_values in
      let below = field_fits single (λ k. whole) (codes "exclusiveMaximum") some_values in
      let shortest = field_fits single (λ k. natural) (codes "minLength") some_values in
      let longest = field_fits single (λ k. natural) (codes "maxLength") some_values in
      let pattern = field_fits single (λ k. word) (codes "pattern") some_values in
      and_more (and_more (and_more (and_more (and_more (and_more (and_more (and_more (and_more (and_more
      (at_first types) enumeration) constant) multiple) minimum) maximum) above) below) shortest) longest) pattern

  keywords_fit : Fits (keywords_size keywords) (sum_from values_of ms 0 names)
  unfolding shape_of
  keywords_fit =
      let items = field_fits items_size (items_part entry_of p) (codes "items")
      (items_size-part entry_of p (codes "items")) in
      let contains = field_fits single (one_number entry_of p) (codes "contains") (λ v. omega arith) in
      let fewest_items = field_fits single (λ k. natural) (codes "minItems") some_values in
      let most_items = field_fits single (λ k. natural) (codes "maxItems") some_values in
      let required = field_fits several (λ k v. map word (listed v)) (codes "required") words_size in
      let properties = field_fits several (named_numbers entry_of p) (codes "properties")
      (names_size entry_of p (codes "properties")) in
      let patterns = field_fits several (named_numbers entry_of p) (codes "patternProperties")
      (names_size entry_of p (codes "patternProperties")) in
      let others = field_fits single (one_number entry_of p) (codes "additionalProperties") (λ v. omega arith) in
      let named = field_fits single (one_number entry_of p) (codes "propertyNames") (λ v. omega arith) in
      let needs = field_fits needs_size (all_needs entry_of p) (codes "dependencies")
      (needs_size-all entry_of p (codes "dependencies")) in
      let fewest = field_fits single (λ k. natural) (codes "minProperties") some_values in
      let most = field_fits single (λ k. natural) (codes "maxProperties") some_values in
      let all_of = field_fits several (list_numbers entry_of p) (codes "allOf")
      (list_size entry_of p (codes "allOf")) in
      let any_of = field_fits several (list_numbers entry_of p) (codes "anyOf")
      (list_size entry_of p (codes "anyOf")) in
      let one_of = field_fits several (list_numbers entry_of p) (codes "oneOf")
      (list_size entry_of p (codes "oneOf")) in
      let not = field_fits single (one_number entry_of p) (codes "not") (λ v. omega arith) in
      and_more (and_more (and_more (and_more (and_more (and_more (and_more (and_more (and_more (and_more (and_more
      (and_more (and_more (and_more (and_more (and_more (and_more numbers_fit items) rest_fits) contains)
      fewest_items) most_items) required) properties) patterns) others) named) needs) fewest) most) all_of) any_of)
      one_of) not

  keywords_size-keyword_values : keywords_size keywords ≤ keyword_values ms ms
  keywords_size-keyword_values =
      let own = keywords_fit.fits in
      let same = sum_from-sum_of values_of ms 0 names in
      let others = sum_of-keyword_values ms ms names names_are_different in
      omega (arith, own, same, others)

-- ---- the entries of places

module _ {P R : Type 0} (rules : Rules P R) (root : Json) (entry_of : Pointer → ℕ) where
  referred_size : (r : Result Pointer R) → form_size (referred_form rules root entry_of r) ≤ 1
  referred_size (Ok q) = omega arith
  referred_size (Err e) = omega arith

  reference_size : (v : Json) → form_size (reference_form rules root entry_of v) ≤ 1
  reference_size (string w) = referred_size (rules.target root w (root_id root))
  reference_size _ = omega arith

  object_size : (r : Option Json) (p : Pointer) (ms : Members)
      → form_size (object_form rules root entry_of r p ms) ≤ object_weight r ms
  object_size (Some v) p ms = reference_size v
  object_size None p ms = let fits = keywords_size-keyword_values entry_of p ms in omega (arith, fits)

  form_size-weight : (c : Place) → form_size (form_at rules root entry_of c) ≤ weight c
  form_size-weight (p, object ms) = object_size (lookup (codes "$ref") ms) p ms
  form_size-weight (p, boolean true) = omega arith
  form_size-weight (p, boolean false) = omega arith
  form_size-weight (p, _) = omega arith

  -- entries are no larger than their places weigh
  pub total_size-weights : (cs : List Place) → total_size (map (entry_at rules root entry_of) cs) ≤ weights cs
  total_size-weights [] = omega arith
  total_size-weights (c ∷ cs) =
      let first = form_size-weight c in let rest = total_size-weights cs in omega (arith, first, rest)
