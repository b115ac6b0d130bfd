-- Which fault comes first, and where references lead, computed.
use Rattle.std.specs.Prelude.{◌≡◌, [], ◌∷◌, Some, codes, refl, None, true}
use Rattle.documents.specs.Json as J
use Rattle.schemas.specs.Places.{index_token}
use Rattle.schemas.specs.Keyword.{shape_of}
use Rattle.schemas.specs.Walk.{walk, places}
use Rattle.schemas.specs.Fault.{NotASchema, WrongShape, NotWhole, Negative, BadReference}
use Rattle.schemas.proofs.ExampleRules.{path, fault, object, list, text, number, below, Remote, BadPointer, Missing, NoSchema}

-- an element that is no schema is reported when its place is walked, after all keywords of the object that has it
element_last :
    fault (object (("allOf", list (number 5 ∷ [])) ∷ ("minimum", J.not_whole) ∷ []))
    ≡ Some (NotWhole (path ("minimum" ∷ [])))
unfolding places walk shape_of index_token
element_last = refl

element_walked :
    fault (object (("allOf", list (J.boolean true ∷ number 5 ∷ [])) ∷ ("minimum", number 1)
    ∷ []))
    ≡ Some (NotASchema (path ("allOf" ∷ "1" ∷ [])))
unfolding places walk shape_of index_token
element_walked = refl

-- a dependency that is neither a list nor a schema is no schema
need_walked :
    fault (object (("dependencies", object (("a", list (text "b" ∷ [])) ∷ ("c", number 5) ∷ []))
    ∷ []))
    ≡ Some (NotASchema (path ("dependencies" ∷ "c" ∷ [])))
unfolding places walk shape_of index_token
need_walked = refl

property_walked :
    fault (object (("properties", object (("a", J.null) ∷ [])) ∷ ("type", text "null") ∷ []))
    ≡ Some (NotASchema (path ("properties" ∷ "a" ∷ [])))
unfolding places walk shape_of index_token
property_walked = refl

-- keywords come by their names, and capitals before small letters
by_name :
    fault (object (("maxItems", below 0) ∷ ("maximum", J.not_whole) ∷ ("minItems", below 0)
    ∷ []))
    ≡ Some (Negative (path ("maxItems" ∷ [])))
unfolding places walk shape_of index_token
by_name = refl

-- in the order of the walk: a place before the schemas in it, and these before the next keyword's
in_order :
    fault (object ((
      "allOf",
      list (object (("not", object (("minimum", J.not_whole) ∷ [])) ∷ [])
          ∷ object (("type", text "frob") ∷ []) ∷ []),
    )
    ∷ ("anyOf", list (number 5 ∷ [])) ∷ []))
    ≡ Some (NotWhole (path ("allOf" ∷ "0" ∷ "not" ∷ "minimum" ∷ [])))
unfolding places walk shape_of index_token
in_order = refl

items_first :
    fault (object (("contains", object (("type", text "frob") ∷ []))
    ∷ ("items", list (number 5 ∷ [])) ∷ []))
    ≡ Some (WrongShape (codes "type") (path ("contains" ∷ "type" ∷ [])))
unfolding places walk shape_of index_token
items_first = refl

-- what nothing leads to isn't looked at: other members, and definitions that no reference names
not_reached :
    fault (object (("default", object (("$id", text "a") ∷ []))
    ∷ ("definitions", object (("a", number 5) ∷ ("b", object (("type", text "frob") ∷ [])) ∷ []))
    ∷ ("title", J.not_whole) ∷ []))
    ≡ None
unfolding places walk shape_of index_token
not_reached = refl

-- but those that one names are
reached :
    fault (object (("anyOf", list (object (("$ref", text "#/definitions/b") ∷ []) ∷ []))
    ∷ ("definitions", object (("a", number 5) ∷ ("b", object (("type", text "frob") ∷ [])) ∷ []))
    ∷ []))
    ≡ Some (WrongShape (codes "type") (path ("definitions" ∷ "b" ∷ "type" ∷ [])))
unfolding places walk shape_of index_token
reached = refl

-- beside a reference nothing is looked at, also no identifier
beside_reference :
    fault (object (("$id", number 5) ∷ ("$ref", text "#/definitions/x")
    ∷ ("definitions", object (("x", J.boolean true) ∷ []))
    ∷ ("uniqueItems", J.boolean true) ∷ []))
    ≡ None
unfolding places walk shape_of index_token
beside_reference = refl

id_beside_reference :
    fault (object (("not", object (("$id", text "a") ∷ ("$ref", text "#") ∷ [])) ∷ []))
    ≡ None
unfolding places walk shape_of index_token
id_beside_reference = refl

-- a reference may lead into what is no schema where it is, as an element of `enum`, and it is read there
inside_unread :
    fault (object (("enum", list (object (("type", text "frob") ∷ []) ∷ number 0 ∷ []))
    ∷ ("not", object (("$ref", text "#/enum/0") ∷ [])) ∷ []))
    ≡ Some (WrongShape (codes "type") (path ("enum" ∷ "0" ∷ "type" ∷ [])))
unfolding places walk shape_of index_token
inside_unread = refl

-- `additionalItems` isn't read beside one schema, nor without `items`
unread_items :
    fault (object (("additionalItems", number 5) ∷ ("items", J.boolean true) ∷ []))
    ≡ None
unfolding places walk shape_of index_token
unread_items = refl

unread_without : fault (object (("additionalItems", number 5) ∷ [])) ≡ None
unfolding places walk shape_of index_token
unread_without = refl

read_items :
    fault (object (("additionalItems", number 5) ∷ ("items", list []) ∷ []))
    ≡ Some (WrongShape (codes "additionalItems") (path ("additionalItems" ∷ [])))
unfolding places walk shape_of index_token
read_items = refl

-- a reference's fault is reported at the object that has it
no_target :
    fault (object (("not", object (("$ref", text "#/definitions/x") ∷ [])) ∷ []))
    ≡ Some (BadReference Missing (path ("not" ∷ [])))
unfolding places walk shape_of index_token
no_target = refl

remote :
    fault (object (("$ref", text "o.json") ∷ []))
    ≡ Some (BadReference Remote (path []))
unfolding places walk shape_of index_token
remote = refl

anchor :
    fault (object (("$ref", text "#x") ∷ []))
    ≡ Some (BadReference BadPointer (path []))
unfolding places walk shape_of index_token
anchor = refl

no_schema_there :
    fault (object (("$ref", text "#/required") ∷ ("required", list (text "a" ∷ [])) ∷ []))
    ≡ Some (BadReference NoSchema (path []))
unfolding places walk shape_of index_token
no_schema_there = refl

-- an element's number has no zero before it
index_zero :
    fault (object (("anyOf", list (object (("$ref", text "#/anyOf/00") ∷ []) ∷ [])) ∷ []))
    ≡ Some (BadReference Missing (path ("anyOf" ∷ "0" ∷ [])))
unfolding places walk shape_of index_token
index_zero = refl

-- the root's identifier names the file, also beside a reference
own_name :
    fault (object (("$id", text "me") ∷ ("$ref", text "me#/definitions/x")
    ∷ ("definitions", object (("x", object (("not", object (("$ref", text "me#") ∷ [])) ∷ [])) ∷ []))
    ∷ []))
    ≡ None
unfolding places walk shape_of index_token
own_name = refl

other_name :
    fault (object (("$id", number 5) ∷ ("$ref", text "me#/definitions/x")
    ∷ ("definitions", object (("x", J.boolean true) ∷ [])) ∷ []))
    ≡ Some (BadReference Remote (path []))
unfolding places walk shape_of index_token
other_name = refl
