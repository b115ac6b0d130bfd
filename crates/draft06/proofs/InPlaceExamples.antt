-- Worked examples of schemas that apply to the same document, each computed from both definitions.
use Rattle.std.specs.Prelude.{◌≡◌, [], ◌∷◌, refl, pos}
use Rattle.documents.specs.Document.{null, number}
use Rattle.levels.specs.Levels.{is_met}
use Rattle.schemas.specs.Places.{index_token}
use Rattle.schemas.specs.Keyword.{shape_of}
use Rattle.schemas.specs.Walk.{walk, places}
use Rattle.schemas.proofs.ExampleRules.{object, list, text}
use Rattle.schemas.proofs.ExampleRules as S
use Rattle.draft06.specs.Validity.{valid}
use Rattle.draft06.specs.EntryValidity.{entry_valid}
use Rattle.draft06.proofs.ExampleVerdicts.{says, accepted, refused, word, items, members, keyword, yes, nothing}

-- booleans, and an object that asks nothing
anything : says yes null ≡ accepted
unfolding valid entry_valid is_met places walk shape_of index_token
anything = refl

nothing_at_all : says nothing null ≡ refused
unfolding valid entry_valid is_met places walk shape_of index_token
nothing_at_all = refl

no_keywords : says (object []) (items (number (pos 1) ∷ [])) ≡ accepted
unfolding valid entry_valid is_met places walk shape_of index_token
no_keywords = refl

-- other members ask nothing, nor does a format
other_members :
    says (object (("additionalItem", nothing) ∷ ("definitions", keyword "a" nothing) ∷ ("format", text "email")
    ∷ ("title", text "") ∷ []))
    (word "x") ≡ accepted
unfolding valid entry_valid is_met places walk shape_of index_token
other_members = refl

-- all, some, exactly one, none
all_of : says (keyword "allOf" (list (yes ∷ keyword "minimum" (S.number 1) ∷ []))) (number (pos 0)) ≡ refused
unfolding valid entry_valid is_met places walk shape_of index_token
all_of = refl

any_of : says (keyword "anyOf" (list (nothing ∷ keyword "minimum" (S.number 1) ∷ []))) (number (pos 1)) ≡ accepted
unfolding valid entry_valid is_met places walk shape_of index_token
any_of = refl

none_of_any : says (keyword "anyOf" (list (nothing ∷ keyword "minimum" (S.number 1) ∷ []))) (number (pos 0)) ≡ refused
unfolding valid entry_valid is_met places walk shape_of index_token
none_of_any = refl

one_of_one : says (keyword "oneOf" (list (nothing ∷ keyword "minimum" (S.number 1) ∷ []))) (number (pos 1)) ≡ accepted
unfolding valid entry_valid is_met places walk shape_of index_token
one_of_one = refl

two_of_one :
    says (keyword "oneOf" (list (keyword "maximum" (S.number 5) ∷ nothing ∷ keyword "minimum" (S.number 1) ∷ [])))
    (number (pos 3)) ≡ refused
unfolding valid entry_valid is_met places walk shape_of index_token
two_of_one = refl

three_of_one : says (keyword "oneOf" (list (yes ∷ yes ∷ yes ∷ []))) (number (pos 3)) ≡ refused
unfolding valid entry_valid is_met places walk shape_of index_token
three_of_one = refl

none_of_one :
    says (keyword "oneOf" (list (keyword "maximum" (S.number 1) ∷ keyword "minimum" (S.number 3) ∷ [])))
    (number (pos 2)) ≡ refused
unfolding valid entry_valid is_met places walk shape_of index_token
none_of_one = refl

negation : says (keyword "not" (keyword "type" (text "number"))) (number (pos 1)) ≡ refused
unfolding valid entry_valid is_met places walk shape_of index_token
negation = refl

twice_negated : says (keyword "not" (keyword "not" (keyword "type" (text "number")))) (number (pos 1)) ≡ accepted
unfolding valid entry_valid is_met places walk shape_of index_token
twice_negated = refl

-- whatever is beside a reference asks nothing
beside_reference :
    says (object (("$ref", text "#/definitions/a")
    ∷ ("definitions", keyword "a" (keyword "type" (text "number"))) ∷ ("maximum", S.number 1)
    ∷ ("type", text "string") ∷ []))
    (number (pos 5)) ≡ accepted
unfolding valid entry_valid is_met places walk shape_of index_token
beside_reference = refl

reference :
    says (object (("$ref", text "#/definitions/a")
    ∷ ("definitions", keyword "a" (keyword "type" (text "number"))) ∷ []))
    (word "x") ≡ refused
unfolding valid entry_valid is_met places walk shape_of index_token
reference = refl

-- a reference leads to any object or boolean of the file, also through others
reference_to_boolean : says (object (("$ref", text "#/not") ∷ ("not", nothing) ∷ [])) (number (pos 5)) ≡ refused
unfolding valid entry_valid is_met places walk shape_of index_token
reference_to_boolean = refl

references_in_turn :
    says (object (("$ref", text "#/definitions/a")
    ∷ (
      "definitions",
      object (("a", keyword "$ref" (text "#/definitions/b"))
          ∷ ("b", keyword "type" (text "null")) ∷ []),
    ) ∷ []))
    (number (pos 1)) ≡ refused
unfolding valid entry_valid is_met places walk shape_of index_token
references_in_turn = refl

reference_of_property :
    says (keyword "properties" (keyword "$ref" (keyword "type" (text "null"))))
    (members (("$ref", number (pos 1)) ∷ [])) ≡ refused
unfolding valid entry_valid is_met places walk shape_of index_token
reference_of_property = refl

-- a schema that refers to itself below
list_of_lists :
    says (object (("items", keyword "$ref" (text "#")) ∷ ("type", text "array") ∷ []))
    (items (items [] ∷ items (items [] ∷ []) ∷ [])) ≡ accepted
unfolding valid entry_valid is_met places walk shape_of index_token
list_of_lists = refl

list_of_numbers :
    says (object (("items", keyword "$ref" (text "#")) ∷ ("type", text "array") ∷ []))
    (items (items [] ∷ items (number (pos 1) ∷ []) ∷ [])) ≡ refused
unfolding valid entry_valid is_met places walk shape_of index_token
list_of_numbers = refl

-- more steps in place than there are entries aren't needed
many_steps :
    says (keyword "allOf" (list (keyword "allOf" (list (keyword "not" (keyword "not" (keyword "anyOf" (list
    (keyword "type" (text "null") ∷ [])))) ∷ [])) ∷ [])))
    null ≡ accepted
unfolding valid entry_valid is_met places walk shape_of index_token
many_steps = refl
