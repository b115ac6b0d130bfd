-- What is wrong in a keyword's value, computed on schemas with one fault.
use Rattle.std.specs.Prelude.{◌≡◌, [], ◌∷◌, Some, codes, refl, true}
use Rattle.documents.specs.Json as J
use Rattle.schemas.specs.Places.{index_token}
use Rattle.schemas.specs.Keyword.{shape_of}
use Rattle.schemas.specs.Walk.{walk, places}
use Rattle.schemas.specs.Fault.{NotASchema, WrongShape, NotWhole, NotPositive, Negative, EmptyList, UniqueItems, InnerId, BadPattern}
use Rattle.schemas.proofs.ExampleRules.{path, fault, object, list, text, number, below}

-- a value that is no object and no boolean
no_schema : fault (number 5) ≡ Some (NotASchema (path []))
unfolding places walk shape_of index_token
no_schema = refl

-- a word that names no type; in a list it is reported at its element
no_type :
    fault (object (("type", text "frob") ∷ []))
    ≡ Some (WrongShape (codes "type") (path ("type" ∷ [])))
unfolding places walk shape_of index_token
no_type = refl

no_type_listed :
    fault (object (("type", list (text "null" ∷ text "frob" ∷ [])) ∷ []))
    ≡ Some (WrongShape (codes "type") (path ("type" ∷ "1" ∷ [])))
unfolding places walk shape_of index_token
no_type_listed = refl

-- where a type is required, a number is of the wrong shape, whole or not
type_number :
    fault (object (("type", list (J.not_whole ∷ [])) ∷ []))
    ≡ Some (WrongShape (codes "type") (path ("type" ∷ "0" ∷ [])))
unfolding places walk shape_of index_token
type_number = refl

-- `enum` is a list; the numbers in it are whole, however deep
no_values :
    fault (object (("enum", J.not_whole) ∷ []))
    ≡ Some (WrongShape (codes "enum") (path ("enum" ∷ [])))
unfolding places walk shape_of index_token
no_values = refl

values_deep :
    fault (object ((
      "enum",
      list (number 1
          ∷ object (("a", list (number 2 ∷ object (("b", J.not_whole) ∷ []) ∷ []))
          ∷ ("c", J.not_whole) ∷ []) ∷ []),
    ) ∷ []))
    ≡ Some (NotWhole (path ("enum" ∷ "1" ∷ "a" ∷ "1" ∷ "b" ∷ [])))
unfolding places walk shape_of index_token
values_deep = refl

-- the values in `const` are looked at as deep as they nest
value_deep :
    fault (object (("const", list (list [] ∷ list (J.not_whole ∷ []) ∷ [])) ∷ []))
    ≡ Some (NotWhole (path ("const" ∷ "1" ∷ "0" ∷ [])))
unfolding places walk shape_of index_token
value_deep = refl

-- a number that isn't whole, no number, and numbers out of range
no_multiple :
    fault (object (("multipleOf", J.not_whole) ∷ []))
    ≡ Some (NotWhole (path ("multipleOf" ∷ [])))
unfolding places walk shape_of index_token
no_multiple = refl

multiple_word :
    fault (object (("multipleOf", text "2") ∷ []))
    ≡ Some (WrongShape (codes "multipleOf") (path ("multipleOf" ∷ [])))
unfolding places walk shape_of index_token
multiple_word = refl

multiple_zero :
    fault (object (("multipleOf", number 0) ∷ []))
    ≡ Some (NotPositive (path ("multipleOf" ∷ [])))
unfolding places walk shape_of index_token
multiple_zero = refl

no_bound :
    fault (object (("minimum", J.not_whole) ∷ []))
    ≡ Some (NotWhole (path ("minimum" ∷ [])))
unfolding places walk shape_of index_token
no_bound = refl

bound_word :
    fault (object (("exclusiveMaximum", J.boolean true) ∷ []))
    ≡ Some (WrongShape (codes "exclusiveMaximum") (path ("exclusiveMaximum" ∷ [])))
unfolding places walk shape_of index_token
bound_word = refl

-- also one that isn't held in 64 bits
too_wide :
    fault (object (("maximum", number 18446744073709551616) ∷ []))
    ≡ Some (NotWhole (path ("maximum" ∷ [])))
unfolding places walk shape_of index_token
too_wide = refl

low_multiple :
    fault (object (("multipleOf", below 9223372036854775808) ∷ []))
    ≡ Some (NotWhole (path ("multipleOf" ∷ [])))
unfolding places walk shape_of index_token
low_multiple = refl

below_zero :
    fault (object (("minLength", below 0) ∷ []))
    ≡ Some (Negative (path ("minLength" ∷ [])))
unfolding places walk shape_of index_token
below_zero = refl

count_part :
    fault (object (("maxProperties", J.not_whole) ∷ []))
    ≡ Some (NotWhole (path ("maxProperties" ∷ [])))
unfolding places walk shape_of index_token
count_part = refl

-- a pattern's fault is reported at the text, or at the member whose name it is
no_pattern :
    fault (object (("pattern", text "ab(") ∷ []))
    ≡ Some (BadPattern 2 (path ("pattern" ∷ [])))
unfolding places walk shape_of index_token
no_pattern = refl

pattern_number :
    fault (object (("pattern", number 5) ∷ []))
    ≡ Some (WrongShape (codes "pattern") (path ("pattern" ∷ [])))
unfolding places walk shape_of index_token
pattern_number = refl

no_pattern_name :
    fault (object (("patternProperties", object (("a", number 5) ∷ ("b(", J.boolean true) ∷ []))
    ∷ []))
    ≡ Some (BadPattern 1 (path ("patternProperties" ∷ "b(" ∷ [])))
unfolding places walk shape_of index_token
no_pattern_name = refl

-- names are strings; in a list and in a dependency they are reported at the element
no_names :
    fault (object (("required", text "a") ∷ []))
    ≡ Some (WrongShape (codes "required") (path ("required" ∷ [])))
unfolding places walk shape_of index_token
no_names = refl

name_number :
    fault (object (("required", list (text "a" ∷ number 5 ∷ [])) ∷ []))
    ≡ Some (WrongShape (codes "required") (path ("required" ∷ "1" ∷ [])))
unfolding places walk shape_of index_token
name_number = refl

needs_number :
    fault (object (("dependencies", object (("a", list (text "b" ∷ [])) ∷ ("c", list (text "d" ∷ J.null ∷ [])) ∷ []))
    ∷ []))
    ≡ Some (WrongShape (codes "dependencies") (path ("dependencies" ∷ "c" ∷ "1" ∷ [])))
unfolding places walk shape_of index_token
needs_number = refl

no_needs :
    fault (object (("dependencies", list []) ∷ []))
    ≡ Some (WrongShape (codes "dependencies") (path ("dependencies" ∷ [])))
unfolding places walk shape_of index_token
no_needs = refl

-- a keyword whose value should be a schema
not_number :
    fault (object (("not", number 5) ∷ []))
    ≡ Some (WrongShape (codes "not") (path ("not" ∷ [])))
unfolding places walk shape_of index_token
not_number = refl

items_number :
    fault (object (("items", number 5) ∷ []))
    ≡ Some (WrongShape (codes "items") (path ("items" ∷ [])))
unfolding places walk shape_of index_token
items_number = refl

no_properties :
    fault (object (("properties", list (J.boolean true ∷ [])) ∷ []))
    ≡ Some (WrongShape (codes "properties") (path ("properties" ∷ [])))
unfolding places walk shape_of index_token
no_properties = refl

-- a list of schemas that is none, or is empty
no_list :
    fault (object (("oneOf", object []) ∷ []))
    ≡ Some (WrongShape (codes "oneOf") (path ("oneOf" ∷ [])))
unfolding places walk shape_of index_token
no_list = refl

empty_list :
    fault (object (("anyOf", list []) ∷ []))
    ≡ Some (EmptyList (path ("anyOf" ∷ [])))
unfolding places walk shape_of index_token
empty_list = refl

-- unique elements aren't decided; saying that they needn't be is nothing
unique_items :
    fault (object (("uniqueItems", J.boolean true) ∷ []))
    ≡ Some (UniqueItems (path ("uniqueItems" ∷ [])))
unfolding places walk shape_of index_token
unique_items = refl

unique_word :
    fault (object (("uniqueItems", number 0) ∷ []))
    ≡ Some (WrongShape (codes "uniqueItems") (path ("uniqueItems" ∷ [])))
unfolding places walk shape_of index_token
unique_word = refl

-- the root's identifier is a string, and no schema below it has one
root_id :
    fault (object (("$id", number 5) ∷ []))
    ≡ Some (WrongShape (codes "$id") (path ("$id" ∷ [])))
unfolding places walk shape_of index_token
root_id = refl

inner_id :
    fault (object (("not", object (("$id", text "a") ∷ [])) ∷ []))
    ≡ Some (InnerId (path ("not" ∷ "$id" ∷ [])))
unfolding places walk shape_of index_token
inner_id = refl

-- a reference is a string
reference_number :
    fault (object (("$ref", number 5) ∷ []))
    ≡ Some (WrongShape (codes "$ref") (path ("$ref" ∷ [])))
unfolding places walk shape_of index_token
reference_number = refl
