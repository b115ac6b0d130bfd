-- The entries that schemas are read as, computed.
use Rattle.std.specs.Prelude.{◌≡◌, [], ◌∷◌, Some, Ok, Err, true, false, pos, negsuc, codes, refl}
use Rattle.documents.specs.Document as D
use Rattle.documents.specs.Json as J
use Rattle.schemas.specs.Places.{index_token}
use Rattle.schemas.specs.Keyword.{shape_of}
use Rattle.schemas.specs.Walk.{walk, places}
use Rattle.schemas.specs.Fault.{WrongShape}
use Rattle.schemas.specs.Entry.{Null, Text, Integer, Each, Listed, Names, Whole, Always, Never, Ref, Asks, no_keywords, entry}
use Rattle.schemas.proofs.ExampleRules.{path, entries, object, list, text, number, below}

-- `true` and `false`
booleans :
    entries (object (("not", J.boolean false) ∷ []))
    ≡ Ok (entry (path []) (Asks (record no_keywords { not = Some (1) }))
    ∷ entry (path ("not" ∷ [])) Never ∷ [])
unfolding places walk shape_of index_token
booleans = refl

-- words, patterns and numbers
scalars :
    entries (object (("maxLength", number 4) ∷ ("minimum", below 0)
    ∷ ("multipleOf", number 3) ∷ ("pattern", text "a")
    ∷ ("required", list (text "b" ∷ text "b" ∷ []))
    ∷ ("type", list (text "integer" ∷ text "null" ∷ [])) ∷ []))
    ≡ Ok (entry (path []) (Asks (record no_keywords {
      types = Some (Integer ∷ Null ∷ []);
      multiple_of = Some (3);
      minimum = Some (negsuc 0);
      max_length = Some (4);
      pattern = Some (codes "a");
      required = Some (codes "b" ∷ codes "b" ∷ []);
    }))
    ∷ [])
unfolding places walk shape_of index_token
scalars = refl

one_type :
    entries (object (("type", text "string") ∷ []))
    ≡ Ok (entry (path []) (Asks (record no_keywords { types = Some (Text ∷ []) }))
    ∷ [])
unfolding places walk shape_of index_token
one_type = refl

-- values of `const` and `enum` are documents
values :
    entries (object (("const", object (("a", list (number 1 ∷ [])) ∷ []))
    ∷ ("enum", list (J.null ∷ text "x" ∷ below 1 ∷ [])) ∷ []))
    ≡ Ok (entry (path []) (Asks (record no_keywords {
      enumeration = Some (D.null ∷ D.string (codes "x") ∷ D.number (negsuc 1) ∷ []);
      constant = Some (D.object (D.member (codes "a") (D.array (D.item (D.number (pos 1)) D.no_items)) D.no_members));
    }))
    ∷ [])
unfolding places walk shape_of index_token
values = refl

-- schemas by the numbers of their places; the target of a reference is one of them
listed :
    entries (object (("additionalItems", J.boolean false)
    ∷ ("items", list (J.boolean true ∷ object (("$ref", text "#") ∷ []) ∷ []))
    ∷ []))
    ≡ Ok (entry (path []) (Asks (record no_keywords {
      items = Some (Listed (2 ∷ 3 ∷ []));
      additional_items = Some (1);
    }))
    ∷ entry (path ("additionalItems" ∷ [])) Never
    ∷ entry (path ("items" ∷ "0" ∷ [])) Always
    ∷ entry (path ("items" ∷ "1" ∷ [])) (Ref 0) ∷ [])
unfolding places walk shape_of index_token
listed = refl

-- `additionalItems` beside one schema is as if it weren't there
single :
    entries (object (("additionalItems", number 5) ∷ ("items", J.boolean true) ∷ []))
    ≡ Ok (entry (path []) (Asks (record no_keywords { items = Some (Each 1) }))
    ∷ entry (path ("items" ∷ [])) Always ∷ [])
unfolding places walk shape_of index_token
single = refl

-- names with what they need or require
named :
    entries (object (("dependencies", object (("a", list (text "b" ∷ text "b" ∷ [])) ∷ ("c", J.boolean true) ∷ []))
    ∷ ("patternProperties", object (("y", J.boolean true) ∷ []))
    ∷ ("properties", object (("x", object []) ∷ ("z", J.boolean false) ∷ []))
    ∷ []))
    ≡ Ok (entry (path []) (Asks (record no_keywords {
      properties = Some ((codes "x", 3) ∷ (codes "z", 4) ∷ []);
      pattern_properties = Some ((codes "y", 2) ∷ []);
      dependencies = Some ((codes "a", Names (codes "b" ∷ codes "b" ∷ [])) ∷ (codes "c", Whole 1) ∷ []);
    })) ∷ entry (path ("dependencies" ∷ "c" ∷ [])) Always
    ∷ entry (path ("patternProperties" ∷ "y" ∷ [])) Always
    ∷ entry (path ("properties" ∷ "x" ∷ [])) (Asks no_keywords)
    ∷ entry (path ("properties" ∷ "z" ∷ [])) Never ∷ [])
unfolding places walk shape_of index_token
named = refl

-- lists of schemas, and one that two references share
combined :
    entries (object (("allOf", list (object (("$ref", text "#/definitions/a") ∷ []) ∷ []))
    ∷ ("anyOf", list (J.boolean true ∷ object (("$ref", text "#/definitions/a") ∷ []) ∷ []))
    ∷ ("definitions", object (("a", object (("contains", J.boolean false) ∷ [])) ∷ []))
    ∷ []))
    ≡ Ok (entry (path []) (Asks (record no_keywords {
      all_of = Some (1 ∷ []);
      any_of = Some (4 ∷ 5 ∷ []);
    }))
    ∷ entry (path ("allOf" ∷ "0" ∷ [])) (Ref 2)
    ∷ entry (path ("definitions" ∷ "a" ∷ [])) (Asks (record no_keywords { contains = Some (3) }))
    ∷ entry (path ("definitions" ∷ "a" ∷ "contains" ∷ [])) Never
    ∷ entry (path ("anyOf" ∷ "0" ∷ [])) Always
    ∷ entry (path ("anyOf" ∷ "1" ∷ [])) (Ref 2) ∷ [])
unfolding places walk shape_of index_token
combined = refl

-- members beside a reference are no keywords
beside :
    entries (object (("$ref", text "#/definitions/a")
    ∷ ("definitions", object (("a", J.boolean true) ∷ []))
    ∷ ("minimum", number 1) ∷ []))
    ≡ Ok (entry (path []) (Ref 1)
    ∷ entry (path ("definitions" ∷ "a" ∷ [])) Always ∷ [])
unfolding places walk shape_of index_token
beside = refl

-- a schema with a fault has no entries
refused :
    entries (object (("minimum", number 1) ∷ ("not", number 5) ∷ []))
    ≡ Err (WrongShape (codes "not") (path ("not" ∷ [])))
unfolding places walk shape_of index_token
refused = refl
