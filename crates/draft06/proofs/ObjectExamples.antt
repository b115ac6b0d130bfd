-- Worked examples of the keywords of objects, each computed from both definitions.
use Rattle.std.specs.Prelude.{◌≡◌, [], ◌∷◌, refl, pos}
use Rattle.documents.specs.Document.{null, number}
use Rattle.levels.specs.Levels.{is_met}
use Rattle.schemas.specs.Places.{index_token}
use Rattle.schemas.specs.Keyword.{shape_of}
use Rattle.schemas.specs.Walk.{walk, places}
use Rattle.schemas.proofs.ExampleRules.{object, list, text}
use Rattle.schemas.proofs.ExampleRules as S
use Rattle.draft06.specs.Validity.{valid}
use Rattle.draft06.specs.EntryValidity.{entry_valid}
use Rattle.draft06.proofs.ExampleVerdicts.{says, accepted, refused, word, items, members, keyword, yes, nothing}

-- a name in `properties` that also matches a pattern has both schemas
both_schemas :
    says (object (("patternProperties", keyword "b" (keyword "type" (text "null")))
    ∷ ("properties", keyword "ab" (keyword "type" (text "string"))) ∷ []))
    (members (("ab", null) ∷ [])) ≡ refused
unfolding valid entry_valid is_met places walk shape_of index_token
both_schemas = refl

one_schema :
    says (object (("patternProperties", keyword "^b" (keyword "type" (text "null")))
    ∷ ("properties", keyword "ab" (keyword "type" (text "string"))) ∷ []))
    (members (("ab", word "") ∷ [])) ≡ accepted
unfolding valid entry_valid is_met places walk shape_of index_token
one_schema = refl

two_patterns :
    says (keyword "patternProperties" (object (("^b", yes) ∷ ("b", keyword "type" (text "null")) ∷ [])))
    (members (("ba", number (pos 1)) ∷ [])) ≡ refused
unfolding valid entry_valid is_met places walk shape_of index_token
two_patterns = refl

-- `additionalProperties` applies to names that neither speaks of, whatever their schemas are
other_names :
    says (object (("additionalProperties", nothing) ∷ ("patternProperties", keyword "^b" yes)
    ∷ ("properties", keyword "a" yes) ∷ []))
    (members (("a", number (pos 1)) ∷ ("ba", number (pos 1)) ∷ [])) ≡ accepted
unfolding valid entry_valid is_met places walk shape_of index_token
other_names = refl

another_name :
    says (object (("additionalProperties", nothing) ∷ ("patternProperties", keyword "^b" yes)
    ∷ ("properties", keyword "a" yes) ∷ []))
    (members (("ab", number (pos 1)) ∷ [])) ≡ refused
unfolding valid entry_valid is_met places walk shape_of index_token
another_name = refl

anchored_name :
    says (object (("additionalProperties", keyword "type" (text "null"))
    ∷ ("patternProperties", keyword "^b" (keyword "type" (text "string"))) ∷ []))
    (members (("ab", null) ∷ ("b", word "") ∷ [])) ≡ accepted
unfolding valid entry_valid is_met places walk shape_of index_token
anchored_name = refl

every_name :
    says (keyword "additionalProperties" (keyword "type" (text "null")))
    (members (("", null) ∷ ("a", number (pos 1)) ∷ [])) ≡ refused
unfolding valid entry_valid is_met places walk shape_of index_token
every_name = refl

-- required names needn't be in `properties`; an empty name is one
required_name :
    says (keyword "required" (list (text "" ∷ text "a" ∷ text "a" ∷ [])))
    (members (("", null) ∷ ("a", number (pos 1)) ∷ [])) ≡ accepted
unfolding valid entry_valid is_met places walk shape_of index_token
required_name = refl

missing_name : says (keyword "required" (list (text "a" ∷ text "b" ∷ []))) (members (("a", null) ∷ [])) ≡ refused
unfolding valid entry_valid is_met places walk shape_of index_token
missing_name = refl

no_names : says (keyword "required" (list [])) (members []) ≡ accepted
unfolding valid entry_valid is_met places walk shape_of index_token
no_names = refl

-- a schema in `properties` asks nothing where the member isn't there
absent_member : says (keyword "properties" (keyword "a" nothing)) (members (("b", number (pos 1)) ∷ [])) ≡ accepted
unfolding valid entry_valid is_met places walk shape_of index_token
absent_member = refl

present_member : says (keyword "properties" (keyword "a" nothing)) (members (("a", number (pos 1)) ∷ [])) ≡ refused
unfolding valid entry_valid is_met places walk shape_of index_token
present_member = refl

-- the schema applies to each name as a string
names_as_strings :
    says (keyword "propertyNames" (object (("maxLength", S.number 1) ∷ ("type", text "string") ∷ [])))
    (members (("a", number (pos 1)) ∷ ("b", items []) ∷ [])) ≡ accepted
unfolding valid entry_valid is_met places walk shape_of index_token
names_as_strings = refl

long_name :
    says (keyword "propertyNames" (keyword "maxLength" (S.number 1)))
    (members (("a", number (pos 1)) ∷ ("ab", number (pos 1)) ∷ [])) ≡ refused
unfolding valid entry_valid is_met places walk shape_of index_token
long_name = refl

no_name : says (keyword "propertyNames" nothing) (members []) ≡ accepted
unfolding valid entry_valid is_met places walk shape_of index_token
no_name = refl

any_name : says (keyword "propertyNames" nothing) (members (("", number (pos 1)) ∷ [])) ≡ refused
unfolding valid entry_valid is_met places walk shape_of index_token
any_name = refl

-- a dependency on names, and on a schema of the whole object, where the key is there
needed_names :
    says (keyword "dependencies" (keyword "a" (list (text "b" ∷ text "c" ∷ []))))
    (members (("a", number (pos 1)) ∷ ("b", number (pos 1)) ∷ [])) ≡ refused
unfolding valid entry_valid is_met places walk shape_of index_token
needed_names = refl

needed_names_there :
    says (keyword "dependencies" (keyword "a" (list (text "b" ∷ []))))
    (members (("a", number (pos 1)) ∷ ("b", number (pos 1)) ∷ [])) ≡ accepted
unfolding valid entry_valid is_met places walk shape_of index_token
needed_names_there = refl

needs_of_absent :
    says (keyword "dependencies" (object (("a", list (text "b" ∷ [])) ∷ ("c", nothing) ∷ [])))
    (members (("b", number (pos 1)) ∷ [])) ≡ accepted
unfolding valid entry_valid is_met places walk shape_of index_token
needs_of_absent = refl

needed_schema :
    says (keyword "dependencies" (keyword "a" (keyword "maxProperties" (S.number 1))))
    (members (("a", number (pos 1)) ∷ ("b", number (pos 1)) ∷ [])) ≡ refused
unfolding valid entry_valid is_met places walk shape_of index_token
needed_schema = refl

needed_schema_met :
    says (keyword "dependencies" (keyword "a" (keyword "maxProperties" (S.number 1))))
    (members (("a", number (pos 1)) ∷ [])) ≡ accepted
unfolding valid entry_valid is_met places walk shape_of index_token
needed_schema_met = refl

no_needs : says (keyword "dependencies" (keyword "a" (list []))) (members (("a", number (pos 1)) ∷ [])) ≡ accepted
unfolding valid entry_valid is_met places walk shape_of index_token
no_needs = refl

-- counts are inclusive
most_members : says (keyword "maxProperties" (S.number 1)) (members (("a", number (pos 1)) ∷ [])) ≡ accepted
unfolding valid entry_valid is_met places walk shape_of index_token
most_members = refl

too_many_members :
    says (keyword "maxProperties" (S.number 1))
    (members (("a", number (pos 1)) ∷ ("b", number (pos 1)) ∷ [])) ≡ refused
unfolding valid entry_valid is_met places walk shape_of index_token
too_many_members = refl

fewest_members : says (keyword "minProperties" (S.number 1)) (members (("a", number (pos 1)) ∷ [])) ≡ accepted
unfolding valid entry_valid is_met places walk shape_of index_token
fewest_members = refl

too_few_members : says (keyword "minProperties" (S.number 1)) (members []) ≡ refused
unfolding valid entry_valid is_met places walk shape_of index_token
too_few_members = refl

-- documents of other kinds are not constrained
not_an_object :
    says (object (("additionalProperties", nothing) ∷ ("dependencies", keyword "a" nothing)
    ∷ ("minProperties", S.number 9) ∷ ("propertyNames", nothing) ∷ ("required", list (text "a" ∷ [])) ∷ []))
    (items (word "a" ∷ [])) ≡ accepted
unfolding valid entry_valid is_met places walk shape_of index_token
not_an_object = refl
