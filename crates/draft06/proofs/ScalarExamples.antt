-- Worked examples of the keywords of numbers and strings, and of those of all documents, each computed from both
-- definitions.
use Rattle.std.specs.Prelude.{◌≡◌, ◌^◌, [], ◌∷◌, false, refl, pos, negsuc}
use Rattle.documents.specs.Document.{null, boolean, number, string}
use Rattle.documents.specs.Json as J
use Rattle.levels.specs.Levels.{is_met}
use Rattle.schemas.specs.Places.{index_token}
use Rattle.schemas.specs.Keyword.{shape_of}
use Rattle.schemas.specs.Walk.{walk, places}
use Rattle.schemas.proofs.ExampleRules.{object, list, text}
use Rattle.schemas.proofs.ExampleRules as S
use Rattle.draft06.specs.Validity.{valid}
use Rattle.draft06.specs.EntryValidity.{entry_valid}
use Rattle.draft06.proofs.ExampleVerdicts.{says, accepted, refused, word, items, members, keyword}

-- bounds are inclusive, and strict ones aren't
least_number : says (keyword "minimum" (S.number 3)) (number (pos 3)) ≡ accepted
unfolding valid entry_valid is_met places walk shape_of index_token
least_number = refl

below_least : says (keyword "minimum" (S.number 3)) (number (pos 2)) ≡ refused
unfolding valid entry_valid is_met places walk shape_of index_token
below_least = refl

most_number : says (keyword "maximum" (S.below 2)) (number (negsuc 2)) ≡ accepted
unfolding valid entry_valid is_met places walk shape_of index_token
most_number = refl

above_most : says (keyword "maximum" (S.below 2)) (number (negsuc 1)) ≡ refused
unfolding valid entry_valid is_met places walk shape_of index_token
above_most = refl

strictly_above : says (keyword "exclusiveMinimum" (S.number 3)) (number (pos 3)) ≡ refused
unfolding valid entry_valid is_met places walk shape_of index_token
strictly_above = refl

strictly_below : says (keyword "exclusiveMaximum" (S.number 3)) (number (pos 2)) ≡ accepted
unfolding valid entry_valid is_met places walk shape_of index_token
strictly_below = refl

both_minima :
    says (object (("exclusiveMinimum", S.number 3) ∷ ("minimum", S.number 5) ∷ []))
    (number (pos 4)) ≡ refused
unfolding valid entry_valid is_met places walk shape_of index_token
both_minima = refl

-- 0 is a multiple of every number, and so are negative numbers of their divisors
multiple_of_zero : says (keyword "multipleOf" (S.number 7)) (number (pos 0)) ≡ accepted
unfolding valid entry_valid is_met places walk shape_of index_token
multiple_of_zero = refl

negative_multiple : says (keyword "multipleOf" (S.number 7)) (number (negsuc 13)) ≡ accepted
unfolding valid entry_valid is_met places walk shape_of index_token
negative_multiple = refl

no_multiple : says (keyword "multipleOf" (S.number 7)) (number (negsuc 12)) ≡ refused
unfolding valid entry_valid is_met places walk shape_of index_token
no_multiple = refl

-- numbers of documents have any size
large_multiple :
    says (object (("minimum", S.number 2) ∷ ("multipleOf", S.number 1048576) ∷ []))
    (number (pos (2 ^ 70))) ≡ accepted
unfolding valid entry_valid is_met places walk shape_of index_token
large_multiple = refl

large_negative : says (keyword "minimum" (S.below 4)) (number (negsuc (2 ^ 70))) ≡ refused
unfolding valid entry_valid is_met places walk shape_of index_token
large_negative = refl

-- lengths are counted in scalar values
one_scalar_value :
    says (object (("maxLength", S.number 1) ∷ ("minLength", S.number 1) ∷ []))
    (string (128512 ∷ [])) ≡ accepted
unfolding valid entry_valid is_met places walk shape_of index_token
one_scalar_value = refl

two_scalar_values : says (keyword "maxLength" (S.number 1)) (word "ab") ≡ refused
unfolding valid entry_valid is_met places walk shape_of index_token
two_scalar_values = refl

empty_string : says (keyword "minLength" (S.number 1)) (word "") ≡ refused
unfolding valid entry_valid is_met places walk shape_of index_token
empty_string = refl

-- a pattern may match anywhere, unless it is anchored
matches_inside : says (keyword "pattern" (text "b")) (word "abc") ≡ accepted
unfolding valid entry_valid is_met places walk shape_of index_token
matches_inside = refl

matches_nowhere : says (keyword "pattern" (text "b")) (word "ac") ≡ refused
unfolding valid entry_valid is_met places walk shape_of index_token
matches_nowhere = refl

matches_later : says (keyword "pattern" (text "^b")) (word "ab") ≡ refused
unfolding valid entry_valid is_met places walk shape_of index_token
matches_later = refl

-- documents of other kinds are not constrained
no_number :
    says (object (("exclusiveMaximum", S.number 0) ∷ ("exclusiveMinimum", S.number 9) ∷ ("maximum", S.number 0)
    ∷ ("minimum", S.number 9) ∷ ("multipleOf", S.number 2) ∷ []))
    (word "3") ≡ accepted
unfolding valid entry_valid is_met places walk shape_of index_token
no_number = refl

no_string :
    says (object (("maxLength", S.number 0) ∷ ("minLength", S.number 9) ∷ ("pattern", text "b") ∷ []))
    (number (pos 3)) ≡ accepted
unfolding valid entry_valid is_met places walk shape_of index_token
no_string = refl

-- a type, or one of a list; `integer` and `number` are one kind
one_type : says (keyword "type" (text "integer")) (number (pos 5)) ≡ accepted
unfolding valid entry_valid is_met places walk shape_of index_token
one_type = refl

another_type : says (keyword "type" (text "string")) (number (pos 5)) ≡ refused
unfolding valid entry_valid is_met places walk shape_of index_token
another_type = refl

one_of_types :
    says (keyword "type" (list (text "null" ∷ text "number" ∷ text "null" ∷ [])))
    (number (pos 5)) ≡ accepted
unfolding valid entry_valid is_met places walk shape_of index_token
one_of_types = refl

boolean_type : says (keyword "type" (text "boolean")) (boolean false) ≡ accepted
unfolding valid entry_valid is_met places walk shape_of index_token
boolean_type = refl

array_no_object : says (keyword "type" (text "object")) (items []) ≡ refused
unfolding valid entry_valid is_met places walk shape_of index_token
array_no_object = refl

-- an empty list of types or of values accepts nothing
no_type : says (keyword "type" (list [])) null ≡ refused
unfolding valid entry_valid is_met places walk shape_of index_token
no_type = refl

no_value : says (keyword "enum" (list [])) null ≡ refused
unfolding valid entry_valid is_met places walk shape_of index_token
no_value = refl

-- values are equal by JSON equality
equal_number : says (keyword "const" (S.number 1)) (number (pos 1)) ≡ accepted
unfolding valid entry_valid is_met places walk shape_of index_token
equal_number = refl

number_and_text : says (keyword "const" (S.number 1)) (word "1") ≡ refused
unfolding valid entry_valid is_met places walk shape_of index_token
number_and_text = refl

zero_and_false : says (keyword "enum" (list (S.number 0 ∷ text "" ∷ []))) (boolean false) ≡ refused
unfolding valid entry_valid is_met places walk shape_of index_token
zero_and_false = refl

repeated_value : says (keyword "enum" (list (S.number 1 ∷ S.number 1 ∷ J.null ∷ []))) null ≡ accepted
unfolding valid entry_valid is_met places walk shape_of index_token
repeated_value = refl

equal_objects :
    says (keyword "const" (object (("a", list (S.number 1 ∷ object [] ∷ [])) ∷ ("b", J.null) ∷ [])))
    (members (("a", items (number (pos 1) ∷ members [] ∷ [])) ∷ ("b", null) ∷ [])) ≡ accepted
unfolding valid entry_valid is_met places walk shape_of index_token
equal_objects = refl

fewer_members :
    says (keyword "const" (object (("a", S.number 1) ∷ ("b", S.number 2) ∷ [])))
    (members (("a", number (pos 1)) ∷ [])) ≡ refused
unfolding valid entry_valid is_met places walk shape_of index_token
fewer_members = refl

order_of_elements :
    says (keyword "const" (list (S.number 1 ∷ S.number 2 ∷ [])))
    (items (number (pos 2) ∷ number (pos 1) ∷ [])) ≡ refused
unfolding valid entry_valid is_met places walk shape_of index_token
order_of_elements = refl

more_elements :
    says (keyword "const" (list (S.number 1 ∷ [])))
    (items (number (pos 1) ∷ number (pos 1) ∷ [])) ≡ refused
unfolding valid entry_valid is_met places walk shape_of index_token
more_elements = refl

null_value : says (keyword "const" J.null) (number (pos 0)) ≡ refused
unfolding valid entry_valid is_met places walk shape_of index_token
null_value = refl
