-- Which places a walk comes to, in their order, and what they weigh; and schemas that have no fault.
use Rattle.std.specs.Prelude.{◌≡◌, [], ◌∷◌, Some, None, true, false, codes, refl}
use Rattle.documents.specs.Json as J
use Rattle.schemas.specs.Places.{index_token}
use Rattle.schemas.specs.Keyword.{shape_of}
use Rattle.schemas.specs.Walk.{walk, places}
use Rattle.schemas.specs.Fault.{WrongShape, TooLarge}
use Rattle.schemas.proofs.ExampleRules.{path, pointers, fault, fault_up_to, object, list, text, number}

-- a place, then the schemas in it, by the names of their keywords
nested :
    pointers (object (("anyOf", list (object (("not", J.boolean true) ∷ []) ∷ J.boolean false ∷ []))
    ∷ ("not", object []) ∷ []))
    ≡ path [] ∷ path ("anyOf" ∷ "0" ∷ [])
    ∷ path ("anyOf" ∷ "0" ∷ "not" ∷ []) ∷ path ("anyOf" ∷ "1" ∷ [])
    ∷ path ("not" ∷ []) ∷ []
unfolding places walk shape_of index_token
nested = refl

-- members by their names; other members lead nowhere
by_names :
    pointers (object (("default", object [])
    ∷ ("patternProperties", object (("a", J.boolean true) ∷ []))
    ∷ (
      "properties",
      object (("b", J.boolean true)
          ∷ ("c", object (("enum", list (object [] ∷ [])) ∷ [])) ∷ []),
    )
    ∷ ("propertyNames", object []) ∷ []))
    ≡ path [] ∷ path ("patternProperties" ∷ "a" ∷ [])
    ∷ path ("properties" ∷ "b" ∷ []) ∷ path ("properties" ∷ "c" ∷ [])
    ∷ path ("propertyNames" ∷ []) ∷ []
unfolding places walk shape_of index_token
by_names = refl

-- beside a reference there is nothing but its target
reference_alone :
    pointers (object (("$ref", text "#/definitions/a")
    ∷ ("definitions", object (("a", J.boolean true) ∷ ("b", J.boolean true) ∷ []))
    ∷ ("not", object []) ∷ []))
    ≡ path [] ∷ path ("definitions" ∷ "a" ∷ []) ∷ []
unfolding places walk shape_of index_token
reference_alone = refl

to_itself : pointers (object (("$ref", text "#") ∷ [])) ≡ path [] ∷ []
unfolding places walk shape_of index_token
to_itself = refl

-- a place that two references name is walked at the first, and one that waits may be come to earlier
once :
    pointers (object ((
      "allOf",
      list (object (("$ref", text "#/definitions/a") ∷ [])
          ∷ object (("$ref", text "#/definitions/a") ∷ []) ∷ []),
    )
    ∷ (
      "definitions",
      object (("a", object (("not", object (("$ref", text "#/allOf/1") ∷ [])) ∷ []))
          ∷ []),
    ) ∷ []))
    ≡ path [] ∷ path ("allOf" ∷ "0" ∷ []) ∷ path ("definitions" ∷ "a" ∷ [])
    ∷ path ("definitions" ∷ "a" ∷ "not" ∷ []) ∷ path ("allOf" ∷ "1" ∷ [])
    ∷ []
unfolding places walk shape_of index_token
once = refl

-- an object that is no schema where it is may be one for a reference; both come to what is in it
two_parents :
    pointers (object (("allOf", list (object (("$ref", text "#/properties") ∷ []) ∷ []))
    ∷ ("properties", object (("a", object []) ∷ ("not", J.boolean true) ∷ []))
    ∷ []))
    ≡ path [] ∷ path ("allOf" ∷ "0" ∷ []) ∷ path ("properties" ∷ [])
    ∷ path ("properties" ∷ "not" ∷ []) ∷ path ("properties" ∷ "a" ∷ [])
    ∷ []
unfolding places walk shape_of index_token
two_parents = refl

-- `additionalItems` leads on only beside a list
listed_items :
    pointers (object (("additionalItems", J.boolean true)
    ∷ ("items", list (J.boolean false ∷ J.boolean true ∷ [])) ∷ []))
    ≡ path [] ∷ path ("additionalItems" ∷ []) ∷ path ("items" ∷ "0" ∷ [])
    ∷ path ("items" ∷ "1" ∷ []) ∷ []
unfolding places walk shape_of index_token
listed_items = refl

single_items :
    pointers (object (("additionalItems", J.boolean true) ∷ ("items", J.boolean false) ∷ []))
    ≡ path [] ∷ path ("items" ∷ []) ∷ []
unfolding places walk shape_of index_token
single_items = refl

-- of dependencies those that are no lists
needs :
    pointers (object ((
      "dependencies",
      object (("a", list (text "b" ∷ [])) ∷ ("c", object [])
          ∷ ("d", list (text "e" ∷ [])) ∷ ("f", J.boolean true) ∷ []),
    ) ∷ []))
    ≡ path [] ∷ path ("dependencies" ∷ "c" ∷ [])
    ∷ path ("dependencies" ∷ "f" ∷ []) ∷ []
unfolding places walk shape_of index_token
needs = refl

-- a reference into a list of values
inner :
    pointers (object (("enum", list (list (object (("not", J.boolean true) ∷ []) ∷ []) ∷ []))
    ∷ ("not", object (("$ref", text "#/enum/0/0") ∷ [])) ∷ []))
    ≡ path [] ∷ path ("not" ∷ []) ∷ path ("enum" ∷ "0" ∷ "0" ∷ [])
    ∷ path ("enum" ∷ "0" ∷ "0" ∷ "not" ∷ []) ∷ []
unfolding places walk shape_of index_token
inner = refl

-- a keyword weighs 8 for each value in it, at any depth
weighs_values :
    fault_up_to 33 (object (("enum", list (number 1 ∷ list (number 2 ∷ []) ∷ [])) ∷ []))
    ≡ None
unfolding places walk shape_of index_token
weighs_values = refl

weighs_values_over :
    fault_up_to 32 (object (("enum", list (number 1 ∷ list (number 2 ∷ []) ∷ [])) ∷ []))
    ≡ Some (TooLarge (path []))
unfolding places walk shape_of index_token
weighs_values_over = refl

-- members' names weigh nothing; schemas weigh at their own places, and as one value where they are
weighs_map :
    fault_up_to 26 (object (("properties", object (("a", object (("type", text "null") ∷ [])) ∷ []))
    ∷ []))
    ≡ None
unfolding places walk shape_of index_token
weighs_map = refl

weighs_map_over :
    fault_up_to 25 (object (("properties", object (("a", object (("type", text "null") ∷ [])) ∷ []))
    ∷ []))
    ≡ Some (TooLarge (path ("properties" ∷ "a" ∷ [])))
unfolding places walk shape_of index_token
weighs_map_over = refl

weighs_needs :
    fault_up_to 42 (object ((
      "dependencies",
      object (("a", list (text "b" ∷ text "c" ∷ []))
          ∷ ("d", J.boolean true) ∷ []),
    ) ∷ []))
    ≡ None
unfolding places walk shape_of index_token
weighs_needs = refl

weighs_needs_over :
    fault_up_to 41 (object ((
      "dependencies",
      object (("a", list (text "b" ∷ text "c" ∷ []))
          ∷ ("d", J.boolean true) ∷ []),
    ) ∷ []))
    ≡ Some (TooLarge (path ("dependencies" ∷ "d" ∷ [])))
unfolding places walk shape_of index_token
weighs_needs_over = refl

-- a reference and a place that is walked already weigh little and nothing
weighs_reference :
    fault_up_to 10 (object (("not", object (("$ref", text "#") ∷ [])) ∷ []))
    ≡ None
unfolding places walk shape_of index_token
weighs_reference = refl

weighs_reference_over :
    fault_up_to 9 (object (("not", object (("$ref", text "#") ∷ [])) ∷ []))
    ≡ Some (TooLarge (path ("not" ∷ [])))
unfolding places walk shape_of index_token
weighs_reference_over = refl

-- `additionalItems` that isn't read weighs nothing, nor do other members
weighs_unread :
    fault_up_to 10 (object (("additionalItems", object (("enum", list (number 1 ∷ number 2 ∷ number 3 ∷ [])) ∷ []))
    ∷ ("items", J.boolean true) ∷ ("title", text "a") ∷ []))
    ≡ None
unfolding places walk shape_of index_token
weighs_unread = refl

weighs_unread_over :
    fault_up_to 9 (object (("additionalItems", object (("enum", list (number 1 ∷ number 2 ∷ number 3 ∷ [])) ∷ []))
    ∷ ("items", J.boolean true) ∷ ("title", text "a") ∷ []))
    ≡ Some (TooLarge (path ("items" ∷ [])))
unfolding places walk shape_of index_token
weighs_unread_over = refl

-- at the place that is too much its own faults come first
fault_before_weight :
    fault_up_to 17 (object (("not", object (("type", text "frob") ∷ [])) ∷ []))
    ≡ Some (WrongShape (codes "type") (path ("not" ∷ "type" ∷ [])))
unfolding places walk shape_of index_token
fault_before_weight = refl

-- empty lists of types, names, values and elements
empty_lists :
    fault (object (("enum", list []) ∷ ("items", list []) ∷ ("required", list [])
    ∷ ("type", list []) ∷ []))
    ≡ None
unfolding places walk shape_of index_token
empty_lists = refl

empty_maps :
    fault (object (("dependencies", object []) ∷ ("patternProperties", object [])
    ∷ ("properties", object []) ∷ []))
    ≡ None
unfolding places walk shape_of index_token
empty_maps = refl

repeated :
    fault (object (("enum", list (number 1 ∷ number 1 ∷ []))
    ∷ ("required", list (text "a" ∷ text "a" ∷ []))
    ∷ ("type", list (text "null" ∷ text "null" ∷ [])) ∷ []))
    ≡ None
unfolding places walk shape_of index_token
repeated = refl

unconstrained :
    fault (object (("uniqueItems", J.boolean false) ∷ []))
    ≡ None
unfolding places walk shape_of index_token
unconstrained = refl

-- a schema that refers to itself
itself :
    fault (object (("properties", object (("next", object (("$ref", text "#") ∷ [])) ∷ []))
    ∷ []))
    ≡ None
unfolding places walk shape_of index_token
itself = refl
