-- The keywords of an object ask the same as the entry that they are read as, keyword by keyword.
use Rattle.std.proofs.Common.{◌≡◌, ℕ, ℤ, int_le, int_lt, pos, nat_le, List, [], ◌∷◌, ◌++◌, length, map, inl, Bool, true, not, cond, Option, Some, None, option_map, codes, slice_get, refl, ap, sym, subst, ◌∙◌}
use Rattle.documents.specs.Tests.{every, some, same_word}
use Rattle.documents.specs.Document.{Document, null, boolean, number, string, array, object}
use Rattle.documents.specs.Document as D
use Rattle.documents.specs.Json as J
use Rattle.documents.specs.Json.{Json, Items, Members, lookup}
use Rattle.documents.specs.Measures.{is_multiple, has_name, every_in, same_document}
use Rattle.schemas.specs.Places.{Pointer, Place}
use Rattle.schemas.specs.Keyword.{Shape, AnyValues, AnyValue, Count, Schema, SchemaOrList, SchemaList, SchemaMap, PatternMap, NeedMap, shape_of, is_list, read_shape}
use Rattle.schemas.specs.SubSchemas.{in_value, in_member}
use Rattle.schemas.specs.Fault.{Rules, keyword_fault}
use Rattle.schemas.specs.Walk.{places}
use Rattle.schemas.specs.Reading.{id_fault, shape_fault, fault_at}
use Rattle.schemas.specs.Entry.{Keywords}
use Rattle.schemas.specs.Entries.{number_of, document_of, listed, word, whole, natural, types_of, field, one_number, list_numbers, items_part, named_numbers, all_needs, keywords_of}
use Rattle.schemas.specs.Schema.{meets}
use Rattle.list_laws.specs.In.{IsIn}
use Rattle.schema_laws.specs.Values.{names_differ}
use Rattle.schema_laws.proofs.Shapes.{IsShaped, is_shaped, read_shape-of}
use Rattle.schema_laws.proofs.Faultless.{member_faultless}
use Rattle.schema_laws.proofs.KeywordLaws.{keyword-number}
use Rattle.draft06.specs.Equality.{is_equal}
use Rattle.draft06.specs.Names.{keys, is_additional}
use Rattle.draft06.specs.Validity as V
use Rattle.draft06.specs.EntryValidity as E
use Rattle.draft06_laws.proofs.Lists.{both, every-map}
use Rattle.draft06_laws.proofs.TypeNames.{types_name}
use Rattle.draft06_laws.proofs.ValueTests.{value_same, values_same, at_most_count, at_least_count}
use Rattle.draft06_laws.proofs.SubSchemas.{Lead, one_at, every_at, some_at, exactly_one_at, needs_at, items_at, rest_at, names_ask, keys_at}

-- the value of a place, where there is one
abbrev pub value_there : Option Place → Json
value_there None = J.null
value_there (Some c) = c.1

-- the value of the place with that number
abbrev pub value_of_entry : List Place → ℕ → Json
value_of_entry cs e = value_there (slice_get cs e)

module _ {P R : Type 0} (rules : Rules P R) (root : Json) (differ : names_differ root ≡ true) (p : Pointer)
    (ms : Members) (there : IsIn (p, J.object ms) (places rules root))
    (none : fault_at rules root (p, J.object ms) ≡ None)
    (plain : lookup (codes "$ref") ms ≡ None)
    (matches : List ℕ → List ℕ → Bool) (here : Json → Bool) (below : Json → Document → Bool) where
  abbrev entry_of : Pointer → ℕ
  entry_of = number_of (places rules root)

  abbrev at : ℕ → Json
  at = value_of_entry (places rules root)

  abbrev here_at : ℕ → Bool
  here_at e = here (at e)

  abbrev below_at : ℕ → Document → Bool
  below_at e = below (at e)

  abbrev keywords : Keywords
  keywords = keywords_of entry_of p ms

  -- ---- what is known of a keyword's value

  leads : (k : List ℕ) (v : Json) → lookup k ms ≡ Some v
      → Lead entry_of at (in_member (read_shape ms k) (p ++ k ∷ []) v)
  leads k v h c i = ap value_there (keyword-number rules root p ms k v c differ there plain h i)

  keyword_leads : (k : List ℕ) (S : Shape) → IsShaped k S → (v : Json) → lookup k ms ≡ Some v
      → Lead entry_of at (in_value S (p ++ k ∷ []) v)
  keyword_leads k S is v h =
      subst (λ o. Lead entry_of at (in_member o (p ++ k ∷ []) v)) (read_shape-of ms k S is) (leads k v h)

  keyword_faultless : (k : List ℕ) (S : Shape) → IsShaped k S → (v : Json) → lookup k ms ≡ Some v
      → keyword_fault rules S k (p ++ k ∷ []) v ≡ None
  keyword_faultless k S is v h =
      ap (λ o. shape_fault rules root o k p v) (sym (read_shape-of ms k S is))
      ∙ ap (λ b. cond b (id_fault rules root p v) (shape_fault rules root (read_shape ms k) k p v)) (sym is.not_id)
      ∙ member_faultless rules root ms p k v none plain h

  same_field : {A : Type 0} (k : List ℕ) (make : List ℕ → Json → A) (f : A → Bool) (g : Json → Bool)
      → ((v : Json) → lookup k ms ≡ Some v → f (make k v) ≡ g v) → meets f (field ms k make) ≡ meets g (lookup k ms)
  same_field {A = A} k make f g same = go (lookup k ms) refl
    where
      go : (o : Option Json) → lookup k ms ≡ o → meets f (option_map (make k) o) ≡ meets g o
      go None h = refl
      go (Some v) h = same v h

  -- a field of schemas
  leads_field : {A : Type 0} (k : List ℕ) (S : Shape) → IsShaped k S → (make : List ℕ → Json → A) (f : A → Bool)
      (g : Json → Bool) → ((v : Json) → Lead entry_of at (in_value S (p ++ k ∷ []) v) → f (make k v) ≡ g v)
      → meets f (field ms k make) ≡ meets g (lookup k ms)
  leads_field k S is make f g same = same_field k make f g (λ v h. same v (keyword_leads k S is v h))

  -- a field that rests on its value having no fault
  sound_field : {A : Type 0} (k : List ℕ) (S : Shape) → IsShaped k S → (make : List ℕ → Json → A) (f : A → Bool)
      (g : Json → Bool) → ((v : Json) → keyword_fault rules S k (p ++ k ∷ []) v ≡ None → f (make k v) ≡ g v)
      → meets f (field ms k make) ≡ meets g (lookup k ms)
  sound_field k S is make f g same = same_field k make f g (λ v h. same v (keyword_faultless k S is v h))

  least_field : (k : List ℕ) → IsShaped k Count → (l : ℕ)
      → meets (λ n. nat_le n l) (field ms k (λ j. natural)) ≡ meets (λ v. int_le (whole v) (pos l)) (lookup k ms)
  least_field k is l = sound_field k Count is (λ j. natural) _ _ (at_least_count rules k (p ++ k ∷ []) l)

  most_field : (k : List ℕ) → IsShaped k Count → (l : ℕ)
      → meets (λ n. nat_le l n) (field ms k (λ j. natural)) ≡ meets (λ v. int_le (pos l) (whole v)) (lookup k ms)
  most_field k is l = sound_field k Count is (λ j. natural) _ _ (at_most_count rules k (p ++ k ∷ []) l)

  -- ---- the keywords of each kind of document

  any_law : (K : Document) → E.asks_any matches here_at below_at keywords K ≡ V.asks_any matches here below ms K
  unfolding shape_of
  any_law K =
      let enumeration = sound_field (codes "enum") AnyValues (is_shaped refl refl refl)
      (λ k v. map document_of (listed v)) (some (λ d. same_document d K)) (λ v. some (λ w. is_equal w K) (listed v))
      (values_same rules (codes "enum") (p ++ codes "enum" ∷ []) K) in
      let constant = sound_field (codes "const") AnyValue (is_shaped refl refl refl) (λ k. document_of)
      (λ d. same_document d K) (λ v. is_equal v K)
      (value_same rules (codes "const") (p ++ codes "const" ∷ []) K) in
      let types = same_field (codes "type") (λ k. types_of) (some (E.has_type K)) (V.type_names (D.kind_of K))
      (λ v h. types_name K v) in
      let all_of = leads_field (codes "allOf") SchemaList (is_shaped refl refl refl) (list_numbers entry_of p) _ _
      (every_at entry_of at here p (codes "allOf")) in
      let any_of = leads_field (codes "anyOf") SchemaList (is_shaped refl refl refl) (list_numbers entry_of p) _ _
      (some_at entry_of at here p (codes "anyOf")) in
      let one_of = leads_field (codes "oneOf") SchemaList (is_shaped refl refl refl) (list_numbers entry_of p) _ _
      (exactly_one_at entry_of at here p (codes "oneOf")) in
      let negated = leads_field (codes "not") Schema (is_shaped refl refl refl) (one_number entry_of p) _ _
      (λ v h. ap (λ s. not (here s)) (one_at entry_of at p (codes "not") v h)) in
      both (both (both (both (both (both enumeration constant) types) all_of) any_of) one_of) negated

  number_law : (x : ℤ) → E.asks_number matches here_at below_at keywords x ≡ V.asks_number matches here below ms x
  number_law x =
      let multiple = same_field (codes "multipleOf") (λ k. natural) (λ m. is_multiple m x) _ (λ v h. refl) in
      let maximum = same_field (codes "maximum") (λ k. whole) (λ n. int_le x n) _ (λ v h. refl) in
      let less = same_field (codes "exclusiveMaximum") (λ k. whole) (λ n. int_lt x n) _ (λ v h. refl) in
      let minimum = same_field (codes "minimum") (λ k. whole) (λ n. int_le n x) _ (λ v h. refl) in
      let greater = same_field (codes "exclusiveMinimum") (λ k. whole) (λ n. int_lt n x) _ (λ v h. refl) in
      both (both (both (both multiple maximum) less) minimum) greater

  string_law : (w : List ℕ) → E.asks_string matches here_at below_at keywords w ≡ V.asks_string matches here below ms w
  unfolding shape_of
  string_law w =
      both (both (most_field (codes "maxLength") (is_shaped refl refl refl) (length w))
      (least_field (codes "minLength") (is_shaped refl refl refl) (length w)))
      (same_field (codes "pattern") (λ k. word) (λ t. matches t w) _ (λ v h. refl))

  array_law : (ds : List Document)
      → E.asks_array matches here_at below_at keywords ds ≡ V.asks_array matches here below ms ds
  unfolding shape_of
  array_law ds =
      let items = leads_field (codes "items") SchemaOrList (is_shaped refl refl refl) (items_part entry_of p) _ _
      (items_at entry_of at below p (codes "items") ds) in
      let rest = rest_at entry_of at below p (codes "items") ds (lookup (codes "items") ms)
      (lookup (codes "additionalItems") ms) (codes "additionalItems")
      (λ vs h. keyword_leads (codes "items") SchemaOrList (is_shaped refl refl refl) (J.array vs) h)
      (λ vs s h e. subst (λ i. Lead entry_of at (in_member (cond (is_list i) (Some Schema) None)
      (p ++ codes "additionalItems" ∷ []) s)) h (leads (codes "additionalItems") s e) _ (inl refl)) in
      let contains = leads_field (codes "contains") Schema (is_shaped refl refl refl) (one_number entry_of p) _ _
      (λ v h. ap (λ s. some (below s) ds) (one_at entry_of at p (codes "contains") v h)) in
      both (both (both (both items rest)
      (most_field (codes "maxItems") (is_shaped refl refl refl) (length ds)))
      (least_field (codes "minItems") (is_shaped refl refl refl) (length ds))) contains

  object_law : (ns : List (List ℕ × Document))
      → E.asks_object matches here_at below_at keywords ns ≡ V.asks_object matches here below ms ns
  unfolding shape_of
  object_law ns =
      let required = same_field (codes "required") (λ k v. map word (listed v)) (every (λ w. has_name w ns)) _
      (λ v h. every-map (λ w. has_name w ns) word (listed v)) in
      let properties = leads_field (codes "properties") SchemaMap (is_shaped refl refl refl)
      (named_numbers entry_of p) _ _ (names_ask entry_of at below p (codes "properties") ns same_word) in
      let patterns = leads_field (codes "patternProperties") PatternMap (is_shaped refl refl refl)
      (named_numbers entry_of p) _ _ (names_ask entry_of at below p (codes "patternProperties") ns matches) in
      let others = leads_field (codes "additionalProperties") Schema (is_shaped refl refl refl)
      (one_number entry_of p)
      (λ e. every_in (is_additional matches (keys keywords.properties) (keys keywords.pattern_properties))
      (below_at e) ns)
      (λ s. every_in (is_additional matches (V.names_in (lookup (codes "properties") ms))
      (V.names_in (lookup (codes "patternProperties") ms))) (below s) ns)
      (λ v h. ap (λ s. every_in (is_additional matches (keys keywords.properties) (keys keywords.pattern_properties))
      (below s) ns) (one_at entry_of at p (codes "additionalProperties") v h)
      ∙ ap (λ ws. every_in (is_additional matches ws (keys keywords.pattern_properties)) (below v) ns)
      (keys_at entry_of p (codes "properties") (lookup (codes "properties") ms))
      ∙ ap (λ ws. every_in (is_additional matches (V.names_in (lookup (codes "properties") ms)) ws) (below v) ns)
      (keys_at entry_of p (codes "patternProperties") (lookup (codes "patternProperties") ms))) in
      let needs = leads_field (codes "dependencies") NeedMap (is_shaped refl refl refl) (all_needs entry_of p) _ _
      (needs_at entry_of at here p (codes "dependencies") ns) in
      let named = leads_field (codes "propertyNames") Schema (is_shaped refl refl refl) (one_number entry_of p) _ _
      (λ v h. ap (λ s. every (λ (n : List ℕ × Document). below s (D.string n.0)) ns)
      (one_at entry_of at p (codes "propertyNames") v h)) in
      both (both (both (both (both (both (both
      (most_field (codes "maxProperties") (is_shaped refl refl refl) (length ns))
      (least_field (codes "minProperties") (is_shaped refl refl refl) (length ns))) required) properties) patterns)
      others) needs) named

  -- the keywords of an entry require of a document what the members of its object require
  pub keywords_law : (K : Document)
      → E.asks_keywords matches here_at below_at keywords K ≡ V.asks_keywords matches here below ms K
  keywords_law null = both (both (both (both (any_law null) refl) refl) refl) refl
  keywords_law (boolean b) = both (both (both (both (any_law (boolean b)) refl) refl) refl) refl
  keywords_law (number n) = both (both (both (both (any_law (number n)) (number_law n)) refl) refl) refl
  keywords_law (string w) = both (both (both (both (any_law (string w)) refl) (string_law w)) refl) refl
  keywords_law (array ds) = both (both (both (both (any_law (array ds)) refl) refl) (array_law (D.elements ds))) refl
  keywords_law (object ns) = both (both (both (both (any_law (object ns)) refl) refl) refl) (object_law (D.entries ns))
