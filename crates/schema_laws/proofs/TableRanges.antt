-- Each value of an entry has its range.
use Rattle.std.proofs.Common.{◌≡◌, ℕ, ◌<◌, ◌≤◌, ◌-◌, ◌^◌, ℤ, pos, negsuc, nat_abs, int_le, int_lt, List, [], ◌∷◌, ◌++◌, map, Bool, true, false, ◌&&◌, nat_lt, cond, Option, Some, None, option_map, option_and_then, codes, refl, sym, ap, ◌∙◌, arith, true≢false}
use Rattle.std.proofs.lemmas.Bool.{and_parts, and_from}
use Rattle.std.proofs.lemmas.Option.{none-some}
use Rattle.documents.specs.Tests.{every}
use Rattle.documents.specs.Document.{is_document}
use Rattle.documents.specs.Json.{Json, number, array, object, no_items, item, Members, no_members, member, lookup, entries}
use Rattle.documents.specs.WellFormed.{is_json, are_members}
use Rattle.documents.proofs.Parts.{member_parts, lookup_well_formed}
use Rattle.schemas.specs.Places.{Pointer}
use Rattle.schemas.specs.Keyword.{Shape, WholeNumber, PositiveNumber, Count, SchemaList, is_held, shape_of, read_shape}
use Rattle.schemas.specs.Fault.{Rules, unless, whole_fault, positive_fault, count_fault, schema_list_fault, keyword_fault}
use Rattle.schemas.specs.Reading.{id_fault, shape_fault, fault_at}
use Rattle.schemas.specs.Entry.{Needs}
use Rattle.schemas.specs.Entries.{document_of, listed, word, whole, natural, field, list_numbers, items_part, named_numbers, needs_of, all_needs, rest_number, keywords_of}
use Rattle.schemas.specs.Schema.{meets, is_count, is_multiple, is_filled, is_word, are_keys, need_words, are_needs, fits_items, is_in_range}
use Rattle.schema_laws.proofs.WellFormedLaws.{is_document-document_of, documents_listed, is_word-word, words_of, words_listed, are_keys-named}
use Rattle.schema_laws.proofs.Shapes.{IsShaped, is_shaped, read_shape-of}
use Rattle.schema_laws.proofs.Faultless.{neither, member_faultless}

both : {a b : Bool} → a ≡ true → b ≡ true → (a && b) ≡ true
both {a = a} {b = b} h k = and_from a b h k

holds : {A : Type 0} (test : Bool) (x : A) → unless test x ≡ None → test ≡ true
holds true x h = refl
holds false x h = absurd (none-some x (sym h))

-- ---- what the values of a shape without a fault are

below_most : (n : ℕ) → is_held (pos n) ≡ true → n < 2 ^ 64
below_most n h =
    let most = and_parts (int_le (negsuc (2 ^ 63 - 1)) (pos n)) (int_le (pos n) (pos (2 ^ 64 - 1))) h in
    let less : n ≤ 2 ^ 64 - 1 = grind (arith, most.1) in
    omega (arith, less)

held_count : (n : ℤ) → is_held n ≡ true → int_le (pos 0) n ≡ true → is_count (nat_abs n) ≡ true
held_count (pos n) h low = let less = below_most n h in grind (arith, less)
held_count (negsuc n) h low = absurd (true≢false (sym low))

held_multiple : (n : ℤ) → is_held n ≡ true → int_lt (pos 0) n ≡ true → is_multiple (nat_abs n) ≡ true
held_multiple (pos n) h low =
    let less = below_most n h in
    let some : 0 < n = grind (arith, low) in
    and_from (nat_lt 0 n) (nat_lt n (2 ^ 64)) (grind (arith, some)) (grind (arith, less))
held_multiple (negsuc n) h low = absurd (true≢false (sym low))

module _ {P R : Type 0} (rules : Rules P R) (k : List ℕ) (q : Pointer) where
  whole_held : (v : Json) → whole_fault rules k q v ≡ None → is_held (whole v) ≡ true
  whole_held (number n) h = holds (is_held n) _ h
  whole_held _ h = absurd (none-some _ (sym h))

  pub count_held : (v : Json) → count_fault rules k q v ≡ None → is_count (natural v) ≡ true
  count_held (number n) h =
      let none = neither (unless (is_held n) _) (unless (int_le (pos 0) n) _) h in
      held_count n (holds (is_held n) _ none.0) (holds (int_le (pos 0) n) _ none.1)
  count_held _ h = absurd (none-some _ (sym h))

  pub multiple_held : (v : Json) → positive_fault rules k q v ≡ None → is_multiple (natural v) ≡ true
  multiple_held (number n) h =
      let none = neither (unless (is_held n) _) (unless (int_lt (pos 0) n) _) h in
      held_multiple n (holds (is_held n) _ none.0) (holds (int_lt (pos 0) n) _ none.1)
  multiple_held _ h = absurd (none-some _ (sym h))

  list_filled : (entry_of : Pointer → ℕ) (p : Pointer) (v : Json) → schema_list_fault rules k q v ≡ None
      → is_filled (list_numbers entry_of p k v) ≡ true
  list_filled entry_of p (array (item v vs)) h = refl
  list_filled entry_of p (array no_items) h = absurd (none-some _ (sym h))
  list_filled entry_of p _ h = absurd (none-some _ (sym h))

-- ---- names

module _ (entry_of : Pointer → ℕ) (p : Pointer) (k : List ℕ) where
  names_are_keys : (v : Json) → is_json v ≡ true → are_keys (named_numbers entry_of p k v) ≡ true
  names_are_keys (object ms) h = are_keys-named (λ m. entry_of ((p ++ k ∷ []) ++ m.0 ∷ [])) ms h
  names_are_keys _ h = refl

  need_is_words : (w : List ℕ) (v : Json) → is_json v ≡ true → need_words (needs_of entry_of p k (w, v)) ≡ true
  need_is_words w (array vs) h = words_of vs h
  need_is_words w _ h = refl

  needs_are_words : (ms : Members) → are_members ms ≡ true
      → every (λ (n : List ℕ × Needs). need_words n.1) (map (λ m. (m.0, needs_of entry_of p k m)) (entries ms)) ≡ true
  needs_are_words no_members h = refl
  needs_are_words (member w v ms) h =
      let parts = member_parts w v ms h in both (need_is_words w v parts.value) (needs_are_words ms parts.others)

  needs_are_needs : (v : Json) → is_json v ≡ true → are_needs (all_needs entry_of p k v) ≡ true
  needs_are_needs (object ms) h = both (are_keys-named (needs_of entry_of p k) ms h) (needs_are_words ms h)
  needs_are_needs _ h = refl

  -- `additionalItems` is there only beside a list
  rest_fits : (items o : Option Json) (j : List ℕ)
      → fits_items (option_map (items_part entry_of p k) items)
      (option_and_then (rest_number entry_of p items j) o) ≡ true
  rest_fits None None j = refl
  rest_fits None (Some w) j = refl
  rest_fits (Some (array vs)) None j = refl
  rest_fits (Some (array vs)) (Some w) j = refl
  rest_fits (Some v) None j = refl
  rest_fits (Some v) (Some w) j = refl

-- ---- the keywords of an object

module _ {P R : Type 0} (rules : Rules P R) (root : Json) (entry_of : Pointer → ℕ) (p : Pointer) (ms : Members)
    (well : are_members ms ≡ true) (none : fault_at rules root (p, object ms) ≡ None)
    (plain : lookup (codes "$ref") ms ≡ None) where
  keyword_faultless : (k : List ℕ) (S : Shape) (v : Json) → IsShaped k S → lookup k ms ≡ Some v
      → keyword_fault rules S k (p ++ k ∷ []) v ≡ None
  keyword_faultless k S v is h =
      ap (λ o. shape_fault rules root o k p v) (sym (read_shape-of ms k S is))
      ∙ ap (λ b. cond b (id_fault rules root p v) (shape_fault rules root (read_shape ms k) k p v)) (sym is.not_id)
      ∙ member_faultless rules root ms p k v none plain h

  field_in : {A : Type 0} (test : A → Bool) (make : List ℕ → Json → A) (k : List ℕ)
      → ((v : Json) → lookup k ms ≡ Some v → test (make k v) ≡ true) → meets test (field ms k make) ≡ true
  field_in test make k h = go (lookup k ms) refl
    where
      go : (o : Option Json) → lookup k ms ≡ o → meets test (option_map (make k) o) ≡ true
      go None e = refl
      go (Some v) e = h v e

  -- by what is well formed
  well_in : {A : Type 0} (test : A → Bool) (make : List ℕ → Json → A) (k : List ℕ)
      → ((v : Json) → is_json v ≡ true → test (make k v) ≡ true) → meets test (field ms k make) ≡ true
  well_in test make k h = field_in test make k (λ v e. h v (lookup_well_formed k ms v well e))

  -- by what has no fault
  sound_in : {A : Type 0} (test : A → Bool) (make : List ℕ → Json → A) (k : List ℕ) (S : Shape) → IsShaped k S
      → ((v : Json) → keyword_fault rules S k (p ++ k ∷ []) v ≡ None → test (make k v) ≡ true)
      → meets test (field ms k make) ≡ true
  sound_in test make k S is h = field_in test make k (λ v e. h v (keyword_faultless k S v is e))

  whole_in : (k : List ℕ) → IsShaped k WholeNumber → meets is_held (field ms k (λ j. whole)) ≡ true
  whole_in k is = sound_in is_held (λ j. whole) k WholeNumber is (whole_held rules k (p ++ k ∷ []))

  count_in : (k : List ℕ) → IsShaped k Count → meets is_count (field ms k (λ j. natural)) ≡ true
  count_in k is = sound_in is_count (λ j. natural) k Count is (count_held rules k (p ++ k ∷ []))

  list_in : (k : List ℕ) → IsShaped k SchemaList → meets is_filled (field ms k (list_numbers entry_of p)) ≡ true
  list_in k is =
      sound_in is_filled (list_numbers entry_of p) k SchemaList is (list_filled rules k (p ++ k ∷ []) entry_of p)

  names_in : (k : List ℕ) → meets are_keys (field ms k (named_numbers entry_of p)) ≡ true
  names_in k = well_in are_keys (named_numbers entry_of p) k (names_are_keys entry_of p k)

  -- the keywords that are read of an object without fault have their ranges
  pub keywords_in_range : is_in_range (keywords_of entry_of p ms) ≡ true
  unfolding shape_of
  keywords_in_range =
      let enumeration = well_in (every is_document) (λ k v. map document_of (listed v)) (codes "enum")
      documents_listed in
      let constant = well_in is_document (λ k. document_of) (codes "const") is_document-document_of in
      let multiple = sound_in is_multiple (λ k. natural) (codes "multipleOf") PositiveNumber
      (is_shaped refl refl refl)
      (multiple_held rules (codes "multipleOf") (p ++ codes "multipleOf" ∷ [])) in
      let minimum = whole_in (codes "minimum") (is_shaped refl refl refl) in
      let maximum = whole_in (codes "maximum") (is_shaped refl refl refl) in
      let above = whole_in (codes "exclusiveMinimum") (is_shaped refl refl refl) in
      let below = whole_in (codes "exclusiveMaximum") (is_shaped refl refl refl) in
      let shortest = count_in (codes "minLength") (is_shaped refl refl refl) in
      let longest = count_in (codes "maxLength") (is_shaped refl refl refl) in
      let pattern = well_in is_word (λ k. word) (codes "pattern") is_word-word in
      let rest = rest_fits entry_of p (codes "items") (lookup (codes "items") ms)
      (lookup (codes "additionalItems") ms) (codes "additionalItems") in
      let fewest_items = count_in (codes "minItems") (is_shaped refl refl refl) in
      let most_items = count_in (codes "maxItems") (is_shaped refl refl refl) in
      let required = well_in (every is_word) (λ k v. map word (listed v)) (codes "required") words_listed in
      let needs = well_in are_needs (all_needs entry_of p) (codes "dependencies")
      (needs_are_needs entry_of p (codes "dependencies")) in
      let fewest = count_in (codes "minProperties") (is_shaped refl refl refl) in
      let most = count_in (codes "maxProperties") (is_shaped refl refl refl) in
      let all_of = list_in (codes "allOf") (is_shaped refl refl refl) in
      let any_of = list_in (codes "anyOf") (is_shaped refl refl refl) in
      let one_of = list_in (codes "oneOf") (is_shaped refl refl refl) in
      both (both (both (both (both (both (both (both (both (both (both (both (both (both (both (both (both (both (both
      (both (both enumeration constant) multiple) minimum) maximum) above) below) shortest) longest) pattern) rest)
      fewest_items) most_items) required) (names_in (codes "properties"))) (names_in (codes "patternProperties")))
      needs) fewest) most) all_of) any_of) one_of
