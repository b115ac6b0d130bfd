-- What the values of an object in which nothing is wrong are.
use Rattle.std.proofs.Common.{◌≡◌, ℕ, suc, ◌+◌, ◌<◌, ◌^◌, List, [], ◌∷◌, ◌++◌, map, true, cond, nat_lt, Option, Some, None, option_map, is_none, decimal, codes, refl, sym, ap, ◌∙◌, true≢false}
use Rattle.std.proofs.lemmas.Bool.{and_parts, and_from, ltb-true}
use Rattle.std.proofs.lemmas.Option.{none-some, same_Some}
use Rattle.documents.specs.Json.{Json, null, not_whole, string, array, object, Items, no_items, item, Members, no_members, member, lookup}
use Rattle.schemas.specs.Places.{Pointer, index_token}
use Rattle.schemas.specs.Keyword as S
use Rattle.schemas.specs.Keyword.{Shape, shape_of, read_shape}
use Rattle.schemas.specs.Fault.{first_not_whole, not_whole_among, not_whole_in, value_fault, values_fault, pattern_fault, pattern_word_fault, names_fault, pattern_map_fault, keyword_fault}
use Rattle.schemas.specs.Reading.{id_fault, shape_fault, members_fault, object_fault, fault_at}
use Rattle.schemas.specs.Entries.{natural}
use Rattle.schemas.specs.Schema.{is_count, is_multiple}
use Rattle.schema_laws.proofs.Shapes.{IsShaped, is_shaped, read_shape-of}
use Rattle.schema_laws.proofs.Faultless.{neither, member_faultless}
use Rattle.schema_laws.proofs.TableRanges.{count_held, multiple_held}
use Rattle.js_json.specs.Documents.{unwhole_places, places_in_items, places_in_members}
use Rattle.js_keywords.specs.declared.keyword.Keyword.{Keyword}
use Rattle.js_keywords.specs.declared.keyword.Keyword.TheVariants as K
use Rattle.js_keywords.specs.Names.{keyword_name}
use Rattle.js_keywords.specs.Words.{shape_by}
use Rattle.js_keywords.specs.Reading.{rules}
use Rattle.js_reader.specs.Faultless.{is_faultless, is_natural, is_pattern, is_pattern_word, names_are_patterns, are_patterns}
use Rattle.list_laws.proofs.Options.{is_none-None, option_map-None}

-- ---- numbers

below_top : (n : ℕ) → is_count n ≡ true → n < 2 ^ 64
below_top n h = ltb-true n (2 ^ 64) h

multiple_below : (n : ℕ) → is_multiple n ≡ true → n < 2 ^ 64
multiple_below n h = below_top n (and_parts (nat_lt 0 n) (nat_lt n (2 ^ 64)) h).1

-- ---- whole numbers

nothing : {A B : Type 0} (f : A → B) (xs : List A) (ys : List B) → xs ≡ [] → ys ≡ [] → map f xs ++ ys ≡ []
nothing f xs ys h i = ap (λ zs. map f zs ++ ys) h ∙ i

mutual
  unwhole_places-none : (p : Pointer) (v : Json) → first_not_whole p v ≡ None → unwhole_places v ≡ []
  unwhole_places-none p not_whole h = absurd (none-some p (sym h))
  unwhole_places-none p (array vs) h = places_in_items-none p 0 0 vs h
  unwhole_places-none p (object ms) h = places_in_members-none p ms h
  unwhole_places-none p _ h = refl

  places_in_items-none : (p : Pointer) (i j : ℕ) (vs : Items) → not_whole_among p i vs ≡ None
      → places_in_items j vs ≡ []
  places_in_items-none p i j no_items h = refl
  places_in_items-none p i j (item v vs) h =
      let both = neither (first_not_whole (p ++ index_token i ∷ []) v) (not_whole_among p (suc i) vs) h in
      nothing (λ (place : Pointer). decimal j ∷ place) (unwhole_places v) (places_in_items (j + 1) vs)
      (unwhole_places-none (p ++ index_token i ∷ []) v both.0) (places_in_items-none p (suc i) (j + 1) vs both.1)

  places_in_members-none : (p : Pointer) (ms : Members) → not_whole_in p ms ≡ None → places_in_members ms ≡ []
  places_in_members-none p no_members h = refl
  places_in_members-none p (member k v ms) h =
      let both = neither (first_not_whole (p ++ k ∷ []) v) (not_whole_in p ms) h in
      nothing (λ (place : Pointer). k ∷ place) (unwhole_places v) (places_in_members ms)
      (unwhole_places-none (p ++ k ∷ []) v both.0) (places_in_members-none p ms both.1)

value_whole : (q : Pointer) (v : Json) → value_fault rules q v ≡ None → unwhole_places v ≡ []
value_whole q v h = unwhole_places-none q v (option_map-None _ (first_not_whole q v) h)

values_whole : (k : List ℕ) (q : Pointer) (v : Json) → values_fault rules k q v ≡ None → unwhole_places v ≡ []
values_whole k q (array vs) h = value_whole q (array vs) h
values_whole k q _ h = absurd (none-some _ (sym h))

-- ---- patterns

none_test : {A : Type 0} (o : Option A) → o ≡ None → is_none o ≡ true
none_test o h = ap is_none h

word_pattern : (k : List ℕ) (q : Pointer) (v : Json) → pattern_word_fault rules k q v ≡ None
    → is_pattern_word v ≡ true
word_pattern k q (string w) h = none_test (pattern_fault rules w) (option_map-None _ (pattern_fault rules w) h)
word_pattern k q _ h = absurd (none-some _ (sym h))

names_patterns : (q : Pointer) (ms : Members) → names_fault rules q ms ≡ None → names_are_patterns ms ≡ true
names_patterns q no_members h = refl
names_patterns q (member w v ms) h =
    let both = neither _ (names_fault rules q ms) h in
    and_from (is_pattern w) (names_are_patterns ms)
    (none_test (pattern_fault rules w) (option_map-None _ (pattern_fault rules w) both.0))
    (names_patterns q ms both.1)

map_patterns : (k : List ℕ) (q : Pointer) (v : Json) → pattern_map_fault rules k q v ≡ None → are_patterns v ≡ true
map_patterns k q (object ms) h = names_patterns q ms h
map_patterns k q _ h = absurd (none-some _ (sym h))

-- ---- keywords

keyword_shaped : (k : Keyword) (shape : Shape) → shape_by k ≡ Some shape → (shape ≡ S.Schema → ⊥)
    → IsShaped (keyword_name k) shape
unfolding shape_of
keyword_shaped K.Id shape h n = absurd (none-some shape h)
keyword_shaped K.Ref shape h n = absurd (none-some shape h)
keyword_shaped K.AdditionalItems shape h n = absurd (n (sym (same_Some S.Schema shape h)))
keyword_shaped _ shape h n = is_shaped refl refl h

module _ (p : Pointer) (ms : Members) (plain : is_none (lookup (codes "$ref") ms) ≡ true)
    (faultless : is_faultless p ms ≡ true) where
  object_faultless : fault_at rules null (p, object ms) ≡ None
  object_faultless =
      ap (λ r. object_fault rules null r p ms) (is_none-None (lookup (codes "$ref") ms) plain)
      ∙ is_none-None (members_fault rules null ms p ms) faultless

  keyword_faultless : (k : Keyword) (shape : Shape) (v : Json) → shape_by k ≡ Some shape → (shape ≡ S.Schema → ⊥)
      → lookup (keyword_name k) ms ≡ Some v
      → keyword_fault rules shape (keyword_name k) (p ++ keyword_name k ∷ []) v ≡ None
  keyword_faultless k shape v is other h =
      let shaped = keyword_shaped k shape is other in
      ap (λ o. shape_fault rules null o (keyword_name k) p v) (sym (read_shape-of ms (keyword_name k) shape shaped))
      ∙ ap (λ b. cond b (id_fault rules null p v)
      (shape_fault rules null (read_shape ms (keyword_name k)) (keyword_name k) p v)) (sym shaped.not_id)
      ∙ member_faultless rules null ms p (keyword_name k) v object_faultless
      (is_none-None (lookup (codes "$ref") ms) plain) h

  natural_by : (k : Keyword) (v : Json) (o : Option Shape) → shape_by k ≡ o → is_natural o ≡ true
      → lookup (keyword_name k) ms ≡ Some v → natural v < 2 ^ 64
  natural_by k v (Some S.Count) is n h =
      below_top (natural v) (count_held rules (keyword_name k) (p ++ keyword_name k ∷ []) v
      (keyword_faultless k S.Count v is (λ e. cc) h))
  natural_by k v (Some S.PositiveNumber) is n h =
      multiple_below (natural v) (multiple_held rules (keyword_name k) (p ++ keyword_name k ∷ []) v
      (keyword_faultless k S.PositiveNumber v is (λ e. cc) h))
  natural_by k v _ is n h = absurd (true≢false (sym n))

  pub natural_fits : (k : Keyword) (v : Json) → is_natural (shape_by k) ≡ true
      → lookup (keyword_name k) ms ≡ Some v → natural v < 2 ^ 64
  natural_fits k v n h = natural_by k v (shape_by k) refl n h

  pub document_whole : (k : Keyword) (v : Json) → shape_by k ≡ Some S.AnyValue
      → lookup (keyword_name k) ms ≡ Some v → unwhole_places v ≡ []
  document_whole k v is h =
      value_whole (p ++ keyword_name k ∷ []) v (keyword_faultless k S.AnyValue v is (λ e. cc) h)

  pub documents_whole : (k : Keyword) (v : Json) → shape_by k ≡ Some S.AnyValues
      → lookup (keyword_name k) ms ≡ Some v → unwhole_places v ≡ []
  documents_whole k v is h =
      values_whole (keyword_name k) (p ++ keyword_name k ∷ []) v (keyword_faultless k S.AnyValues v is (λ e. cc) h)

  pub pattern_read : (k : Keyword) (v : Json) → shape_by k ≡ Some S.PatternWord
      → lookup (keyword_name k) ms ≡ Some v → is_pattern_word v ≡ true
  pattern_read k v is h =
      word_pattern (keyword_name k) (p ++ keyword_name k ∷ []) v (keyword_faultless k S.PatternWord v is (λ e. cc) h)

  pub patterns_read : (k : Keyword) (v : Json) → shape_by k ≡ Some S.PatternMap
      → lookup (keyword_name k) ms ≡ Some v → are_patterns v ≡ true
  patterns_read k v is h =
      map_patterns (keyword_name k) (p ++ keyword_name k ∷ []) v (keyword_faultless k S.PatternMap v is (λ e. cc) h)

-- the value of a keyword that is found
pub found : {A : Type 0} (see : A → Json) (o : Option A) (a : A) (k : List ℕ) (ms : Members)
    → option_map see o ≡ lookup k ms → o ≡ Some a → lookup k ms ≡ Some (see a)
found see o a k ms h e = sym h ∙ ap (option_map see) e
