-- Worked examples of the keywords of arrays, each computed from both definitions.
use Rattle.std.specs.Prelude.{◌≡◌, [], ◌∷◌, refl, pos}
use Rattle.documents.specs.Document.{null, number}
use Rattle.levels.specs.Levels.{is_met}
use Rattle.schemas.specs.Places.{index_token}
use Rattle.schemas.specs.Keyword.{shape_of}
use Rattle.schemas.specs.Walk.{walk, places}
use Rattle.schemas.proofs.ExampleRules.{object, list, text}
use Rattle.schemas.proofs.ExampleRules as S
use Rattle.draft06.specs.Validity.{valid}
use Rattle.draft06.specs.EntryValidity.{entry_valid}
use Rattle.draft06.proofs.ExampleVerdicts.{says, accepted, refused, word, items, members, keyword, yes, nothing}

-- `additionalItems` beside one schema, or without `items`, asks nothing
rest_beside_one :
    says (object (("additionalItems", nothing) ∷ ("items", yes) ∷ []))
    (items (null ∷ null ∷ [])) ≡ accepted
unfolding valid entry_valid is_met places walk shape_of index_token
rest_beside_one = refl

rest_alone : says (keyword "additionalItems" nothing) (items (null ∷ [])) ≡ accepted
unfolding valid entry_valid is_met places walk shape_of index_token
rest_alone = refl

-- beside a list it applies to the later elements alone
later_elements :
    says (object (("additionalItems", nothing) ∷ ("items", list (yes ∷ [])) ∷ []))
    (items (null ∷ null ∷ [])) ≡ refused
unfolding valid entry_valid is_met places walk shape_of index_token
later_elements = refl

listed_elements :
    says (object (("additionalItems", keyword "type" (text "null"))
    ∷ ("items", list (keyword "type" (text "string") ∷ [])) ∷ []))
    (items (word "" ∷ null ∷ null ∷ [])) ≡ accepted
unfolding valid entry_valid is_met places walk shape_of index_token
listed_elements = refl

no_rest :
    says (keyword "items" (list (keyword "type" (text "string") ∷ [])))
    (items (word "" ∷ number (pos 1) ∷ [])) ≡ accepted
unfolding valid entry_valid is_met places walk shape_of index_token
no_rest = refl

-- a list of schemas asks nothing of the elements that aren't there
fewer_elements : says (keyword "items" (list (yes ∷ nothing ∷ []))) (items (null ∷ [])) ≡ accepted
unfolding valid entry_valid is_met places walk shape_of index_token
fewer_elements = refl

element_by_place : says (keyword "items" (list (yes ∷ nothing ∷ []))) (items (null ∷ null ∷ [])) ≡ refused
unfolding valid entry_valid is_met places walk shape_of index_token
element_by_place = refl

no_schemas : says (object (("additionalItems", nothing) ∷ ("items", list []) ∷ [])) (items []) ≡ accepted
unfolding valid entry_valid is_met places walk shape_of index_token
no_schemas = refl

no_schemas_rest : says (object (("additionalItems", nothing) ∷ ("items", list []) ∷ [])) (items (null ∷ [])) ≡ refused
unfolding valid entry_valid is_met places walk shape_of index_token
no_schemas_rest = refl

-- one schema applies to each element
each_element : says (keyword "items" (keyword "type" (text "null"))) (items (null ∷ number (pos 1) ∷ [])) ≡ refused
unfolding valid entry_valid is_met places walk shape_of index_token
each_element = refl

no_element : says (keyword "items" nothing) (items []) ≡ accepted
unfolding valid entry_valid is_met places walk shape_of index_token
no_element = refl

-- an empty array has no element that could be valid
contains_in_none : says (keyword "contains" yes) (items []) ≡ refused
unfolding valid entry_valid is_met places walk shape_of index_token
contains_in_none = refl

contains_one :
    says (keyword "contains" (keyword "type" (text "null")))
    (items (number (pos 1) ∷ null ∷ [])) ≡ accepted
unfolding valid entry_valid is_met places walk shape_of index_token
contains_one = refl

contains_other : says (keyword "contains" (keyword "type" (text "null"))) (items (number (pos 1) ∷ [])) ≡ refused
unfolding valid entry_valid is_met places walk shape_of index_token
contains_other = refl

-- counts are inclusive
most_items : says (keyword "maxItems" (S.number 1)) (items (null ∷ [])) ≡ accepted
unfolding valid entry_valid is_met places walk shape_of index_token
most_items = refl

too_many_items : says (keyword "maxItems" (S.number 1)) (items (null ∷ null ∷ [])) ≡ refused
unfolding valid entry_valid is_met places walk shape_of index_token
too_many_items = refl

fewest_items : says (keyword "minItems" (S.number 1)) (items (null ∷ [])) ≡ accepted
unfolding valid entry_valid is_met places walk shape_of index_token
fewest_items = refl

too_few_items : says (keyword "minItems" (S.number 1)) (items []) ≡ refused
unfolding valid entry_valid is_met places walk shape_of index_token
too_few_items = refl

equal_items : says (keyword "uniqueItems" nothing) (items (number (pos 1) ∷ number (pos 1) ∷ [])) ≡ accepted
unfolding valid entry_valid is_met places walk shape_of index_token
equal_items = refl

-- documents of other kinds are not constrained
not_an_array :
    says (object (("additionalItems", nothing) ∷ ("contains", nothing) ∷ ("items", list (nothing ∷ []))
    ∷ ("maxItems", S.number 0) ∷ ("minItems", S.number 9) ∷ []))
    (members (("", number (pos 1)) ∷ [])) ≡ accepted
unfolding valid entry_valid is_met places walk shape_of index_token
not_an_array = refl
