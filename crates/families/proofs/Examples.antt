-- Worked examples of the families, each computed from the definitions.
use Rattle.std.specs.Prelude.{◌≡◌, ℕ, pos, List, [], ◌∷◌, false, refl, codes}
use Rattle.std.specs.Fmt.{digits}
use Rattle.documents.specs.Json.{Json, boolean, number, string, object, array, items_of, members_of, null}
use Rattle.families.specs.Objects.{object_of, with_member, first}
use Rattle.families.specs.Families.{Chain, Wide, Patterns, Tree, family, numbered}

-- ---- members in any order

-- members are ordered by name, and a name that comes twice keeps its last value
any_order : object_of ((codes "b", null) ∷ (codes "a", null) ∷ (codes "b", boolean false) ∷ [])
    ≡ object (members_of ((codes "a", null) ∷ (codes "b", boolean false) ∷ []))
unfolding with_member
any_order = refl

-- names that end in numbers are ordered as texts, and not as the numbers
names_as_texts : object_of (first (λ i. (numbered (codes "d") i, number (pos i))) 12)
    ≡ object (members_of (
    (codes "d0", number (pos 0)) ∷ (codes "d1", number (pos 1)) ∷ (codes "d10", number (pos 10))
    ∷ (codes "d11", number (pos 11)) ∷ (codes "d2", number (pos 2)) ∷ (codes "d3", number (pos 3))
    ∷ (codes "d4", number (pos 4)) ∷ (codes "d5", number (pos 5)) ∷ (codes "d6", number (pos 6))
    ∷ (codes "d7", number (pos 7)) ∷ (codes "d8", number (pos 8)) ∷ (codes "d9", number (pos 9)) ∷ []))
unfolding with_member digits
names_as_texts = refl

-- ---- the families at 1 and at 2, with members in ascending order

abbrev obj : List (List ℕ × Json) → Json
obj ms = object (members_of ms)

abbrev arr : List Json → Json
arr ds = array (items_of ds)

-- the schema of the keyword `$ref` alone
abbrev refers : List ℕ → Json
refers path = obj ((codes "$ref", string path) ∷ [])

-- the schema of the keyword `type` alone
abbrev typed : List ℕ → Json
typed word = obj ((codes "type", string word) ∷ [])

-- {"$ref":"#/definitions/d0","definitions":{"d0":{"type":"null"}}}
chain_at_1 : family Chain 1
    ≡ (
      obj ((codes "$ref", string (codes "#/definitions/d0"))
          ∷ (codes "definitions", obj ((codes "d0", typed (codes "null")) ∷ [])) ∷ []),
      boolean false,
    )
unfolding with_member digits
chain_at_1 = refl

-- where the second definition is
abbrev next : List ℕ
next = codes "#/definitions/d1"

-- {"$ref":"#/definitions/d0","definitions":{"d0":{"properties":{"l":{"$ref":"#/definitions/d1"},
-- "r":{"$ref":"#/definitions/d1"}},"required":["l","r"],"type":"object"},"d1":{"type":"null"}}}
chain_at_2 : family Chain 2
    ≡ (
      obj ((codes "$ref", string (codes "#/definitions/d0"))
          ∷ (
            codes "definitions",
            obj ((
              codes "d0",
              obj ((
                codes "properties",
                obj ((codes "l", refers next) ∷ (codes "r", refers next) ∷ []),
              )
                  ∷ (codes "required", arr (string (codes "l") ∷ string (codes "r") ∷ []))
                  ∷ (codes "type", string (codes "object")) ∷ []),
            )
                ∷ (codes "d1", typed (codes "null")) ∷ []),
          ) ∷ []),
      boolean false,
    )
unfolding with_member digits
chain_at_2 = refl

-- a whole number of at least m
abbrev least : ℕ → Json
least m = obj ((codes "minimum", number (pos m)) ∷ (codes "type", string (codes "integer")) ∷ [])

-- {"additionalProperties":false,"properties":{"p0":{"minimum":0,"type":"integer"}},"required":["p0"],"type":"object"}
-- {"additionalProperties":false,"properties":{"p0":{"minimum":0,"type":"integer"}},"type":"object"}
wide_at_1 : family Wide 1
    ≡ (
      obj ((codes "additionalProperties", boolean false)
          ∷ (codes "properties", obj ((codes "p0", least 0) ∷ []))
          ∷ (codes "required", arr (string (codes "p0") ∷ []))
          ∷ (codes "type", string (codes "object")) ∷ []),
      obj ((codes "additionalProperties", boolean false)
          ∷ (codes "properties", obj ((codes "p0", least 0) ∷ []))
          ∷ (codes "type", string (codes "object")) ∷ []),
    )
unfolding with_member digits
wide_at_1 = refl

-- the second of the members has another least value in the two schemas
wide_at_2 : family Wide 2
    ≡ (
      obj ((codes "additionalProperties", boolean false)
          ∷ (codes "properties", obj ((codes "p0", least 0) ∷ (codes "p1", least 1) ∷ []))
          ∷ (codes "required", arr (string (codes "p0") ∷ string (codes "p1") ∷ []))
          ∷ (codes "type", string (codes "object")) ∷ []),
      obj ((codes "additionalProperties", boolean false)
          ∷ (codes "properties", obj ((codes "p0", least 0) ∷ (codes "p1", least 0) ∷ []))
          ∷ (codes "type", string (codes "object")) ∷ []),
    )
unfolding with_member digits
wide_at_2 = refl

-- {"minProperties":1,"patternProperties":{"a":{"minimum":0}},"type":"object"}
-- {"maxProperties":1}
patterns_at_1 : family Patterns 1
    ≡ (
      obj ((codes "minProperties", number (pos 1))
          ∷ (codes "patternProperties", obj ((codes "a", obj ((codes "minimum", number (pos 0)) ∷ [])) ∷ []))
          ∷ (codes "type", string (codes "object")) ∷ []),
      obj ((codes "maxProperties", number (pos 1)) ∷ []),
    )
unfolding with_member
patterns_at_1 = refl

-- {"minProperties":1,"patternProperties":{"a":{"minimum":0},"b":{"minimum":1}},"type":"object"}
-- {"maxProperties":2}
patterns_at_2 : family Patterns 2
    ≡ (
      obj ((codes "minProperties", number (pos 1))
          ∷ (
            codes "patternProperties",
            obj (
                (codes "a", obj ((codes "minimum", number (pos 0)) ∷ []))
                ∷ (codes "b", obj ((codes "minimum", number (pos 1)) ∷ [])) ∷ []),
          )
          ∷ (codes "type", string (codes "object")) ∷ []),
      obj ((codes "maxProperties", number (pos 2)) ∷ []),
    )
unfolding with_member
patterns_at_2 = refl

-- {"properties":{"kids":{"items":{"$ref":PATH},"minItems":1,"type":"array"},"v":{"type":"integer"}},
-- "required":["kids","v"],"type":"object"}
abbrev node : List ℕ → Json
node path =
    obj ((
      codes "properties",
      obj ((
        codes "kids",
        obj ((codes "items", refers path) ∷ (codes "minItems", number (pos 1))
            ∷ (codes "type", string (codes "array")) ∷ []),
      )
          ∷ (codes "v", typed (codes "integer")) ∷ []),
    )
    ∷ (codes "required", arr (string (codes "kids") ∷ string (codes "v") ∷ []))
    ∷ (codes "type", string (codes "object")) ∷ [])

-- the one definition names itself
tree_at_1 : family Tree 1
    ≡ (
      obj ((codes "$ref", string (codes "#/definitions/t0"))
          ∷ (codes "definitions", obj ((codes "t0", node (codes "#/definitions/t0")) ∷ [])) ∷ []),
      boolean false,
    )
unfolding with_member digits
tree_at_1 = refl

-- the last definition names the first one
tree_at_2 : family Tree 2
    ≡ (
      obj ((codes "$ref", string (codes "#/definitions/t0"))
          ∷ (
            codes "definitions",
            obj (
                (codes "t0", node (codes "#/definitions/t1")) ∷ (codes "t1", node (codes "#/definitions/t0")) ∷ []),
          ) ∷ []),
      boolean false,
    )
unfolding with_member digits
tree_at_2 = refl
