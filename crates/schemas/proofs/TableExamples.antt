-- Which lists of entries are tables, computed.
use Rattle.std.specs.Prelude.{◌≡◌, ℕ, ◌^◌, List, [], ◌∷◌, map, Bool, true, false, Some, pos, codes, refl, Result, Ok, Err}
use Rattle.documents.specs.Json as J
use Rattle.documents.specs.Json.{Json}
use Rattle.schemas.specs.Places.{index_token}
use Rattle.schemas.specs.Keyword.{keywords, shape_of}
use Rattle.schemas.specs.Fault.{Fault}
use Rattle.schemas.specs.Walk.{walk, places}
use Rattle.schemas.specs.Entry.{Listed, Each, Names, Keywords, Entry, Always, Ref, Asks, no_keywords, entry}
use Rattle.schemas.specs.Schema.{is_ascending, is_table, in_place, of_parts, form_size}
use Rattle.schemas.proofs.ExampleRules.{Bad, path, object, list, text, number, entries}

-- the keywords are in the order of their names
ascending : is_ascending (map (λ k. k.0) keywords) ≡ true
ascending = refl

abbrev is_read_table : Result (List Entry) (Fault ℕ Bad) → Bool
is_read_table (Ok es) = is_table es
is_read_table (Err f) = false

-- what is read is a table
read_table : is_read_table (entries (object (("additionalItems", J.boolean false)
    ∷ ("dependencies", object (("a", list (text "b" ∷ [])) ∷ ("c", J.boolean true) ∷ []))
    ∷ ("items", list (object (("$ref", text "#") ∷ []) ∷ [])) ∷ ("minimum", number 3) ∷ []))) ≡ true
unfolding places walk shape_of index_token
read_table = refl

-- an entry with these keywords, and one more entry
abbrev with_one : Keywords → List Entry
with_one k = entry [] (Asks k) ∷ entry (path ("not" ∷ [])) Always ∷ []

-- a table has a root, and names its own entries alone
no_root : is_table [] ≡ false
no_root = refl

no_entry : is_table (entry [] (Ref 1) ∷ []) ≡ false
no_entry = refl

one_entry : is_table (with_one (record no_keywords { not = Some 1 })) ≡ true
one_entry = refl

-- `additionalItems` beside a list, and beside one schema
beside_list : is_table (with_one (record no_keywords { items = Some (Listed []); additional_items = Some 1 })) ≡ true
beside_list = refl

beside_one : is_table (with_one (record no_keywords { items = Some (Each 1); additional_items = Some 1 })) ≡ false
beside_one = refl

-- no number is too great, no list of schemas empty, and no name comes twice or too early
wide_bound : is_table (with_one (record no_keywords { maximum = Some (pos (2 ^ 64)) })) ≡ false
wide_bound = refl

zero_multiple : is_table (with_one (record no_keywords { multiple_of = Some 0 })) ≡ false
zero_multiple = refl

empty_list : is_table (with_one (record no_keywords { any_of = Some [] })) ≡ false
empty_list = refl

same_name : is_table (with_one (record no_keywords {
  properties = Some ((codes "a", 1) ∷ (codes "a", 1) ∷ []);
})) ≡ false
same_name = refl

early_name : is_table (with_one (record no_keywords {
  dependencies = Some ((codes "b", Names []) ∷ (codes "a", Names []) ∷ []);
})) ≡ false
early_name = refl

-- which entries apply to the same document, and which to its parts
place_and_parts :
    in_place (Asks (record no_keywords { items = Some (Listed (3 ∷ 4 ∷ [])); one_of = Some (1 ∷ 2 ∷ []) }))
    ≡ 1 ∷ 2 ∷ []
place_and_parts = refl

parts :
    of_parts (Asks (record no_keywords { items = Some (Listed (3 ∷ 4 ∷ [])); one_of = Some (1 ∷ 2 ∷ []) }))
    ≡ 3 ∷ 4 ∷ []
parts = refl

-- 8 for a list of two and its two values, and 1
size_two : form_size (Asks (record no_keywords { one_of = Some (1 ∷ 2 ∷ []) })) ≡ 25
size_two = refl
