-- Families of pairs of schemas. Each has two schemas at each number n from 1 to its greatest.
use Rattle.std.specs.Prelude.{ℕ, ◌+◌, ◌%◌, nat_lt, pos, List, [], ◌∷◌, ◌++◌, false, if◌then◌else◌, codes}
use Rattle.std.specs.Fmt.{decimal}
use Rattle.documents.specs.Json.{Json, boolean, number, string}
use Rattle.families.specs.Objects.{object_of, array_of, first}

pub data Family : Type 0 where
  -- definitions, each of which names the next one twice
  Chain : Family
  -- objects of many members
  Wide : Family
  -- an object whose members' names are matched with patterns
  Patterns : Family
  -- definitions in a circle, each of which names the next one in an array
  Tree : Family

-- the word of a family
abbrev pub family_word : Family → List ℕ
family_word Chain = codes "chain"
family_word Wide = codes "wide"
family_word Patterns = codes "patterns"
family_word Tree = codes "tree"

-- the greatest number of a family
abbrev pub greatest : Family → ℕ
greatest Chain = 1000
greatest Wide = 200
greatest Patterns = 8
greatest Tree = 1000

-- ---- parts of the schemas

-- a name that ends in a number
abbrev pub numbered : List ℕ → ℕ → List ℕ
numbered start i = start ++ decimal i

-- the member `type` of that word
abbrev pub of_type : List ℕ → List ℕ × Json
of_type word = (codes "type", string word)

-- the member `$ref` that leads to definition i
abbrev pub to_definition : List ℕ → ℕ → List ℕ × Json
to_definition start i = (codes "$ref", string (codes "#/definitions/" ++ numbered start i))

-- the schema that refers to definition i
abbrev pub reference : List ℕ → ℕ → Json
reference start i = object_of (to_definition start i ∷ [])

-- a whole number, at least m
abbrev pub integer_from : ℕ → Json
integer_from m = object_of (of_type (codes "integer") ∷ (codes "minimum", number (pos m)) ∷ [])

-- objects that have both members, the first as one schema says and the second as the other one does
abbrev pub pair_schema : List ℕ × Json → List ℕ × Json → Json
pair_schema a b =
    object_of (
    of_type (codes "object")
    ∷ (codes "required", array_of (string a.0 ∷ string b.0 ∷ []))
    ∷ (codes "properties", object_of (a ∷ b ∷ []))
    ∷ [])

-- a reference to definition 0, over n definitions
abbrev pub defined : List ℕ → (ℕ → Json) → ℕ → Json
defined start value n =
    object_of (
    to_definition start 0 ∷ (codes "definitions", object_of (first (λ i. (numbered start i, value i)) n)) ∷ [])

-- ---- chain

-- definition i of n: objects with two members, each of them as the next definition says. The last one is null
abbrev pub link : ℕ → ℕ → Json
link n i =
    if nat_lt (i + 1) n
    then pair_schema (codes "l", reference (codes "d") (i + 1)) (codes "r", reference (codes "d") (i + 1))
    else object_of (of_type (codes "null") ∷ [])

-- ---- wide

-- no members but p0, p1 and so on, each of them a whole number
abbrev pub properties : (ℕ → ℕ) → ℕ → List (List ℕ × Json)
properties least n =
    (codes "properties", object_of (first (λ i. (numbered (codes "p") i, integer_from (least i))) n))
    ∷ (codes "additionalProperties", boolean false) ∷ []

-- that all of them are there
abbrev pub required : ℕ → List ℕ × Json
required n = (codes "required", array_of (first (λ i. string (numbered (codes "p") i)) n))

-- ---- patterns

-- the letter at place i of a to z
abbrev pub letter : ℕ → List ℕ
letter i = (97 + i) ∷ []

-- a number of at least i, where the name has the letter at that place
abbrev pub lettered : ℕ → List ℕ × Json
lettered i = (letter i, object_of ((codes "minimum", number (pos i)) ∷ []))

-- ---- tree

-- definition i of n: a whole number, and an array that isn't empty, whose elements are as the next definition says
abbrev pub branch : ℕ → ℕ → Json
branch n i =
    pair_schema (
      codes "kids",
      object_of (
          of_type (codes "array") ∷ (codes "minItems", number (pos 1))
          ∷ (codes "items", reference (codes "t") ((i + 1) % n)) ∷ []),
    ) (codes "v", object_of (of_type (codes "integer") ∷ []))

-- ---- the families

-- the first schema and the second one
abbrev pub family : Family → ℕ → Json × Json
family Chain n = (defined (codes "d") (link n) n, boolean false)
family Wide n = (
  object_of (of_type (codes "object") ∷ required n ∷ properties (λ i. i) n),
  object_of (of_type (codes "object") ∷ properties (λ i. 0) n),
)
family Patterns n = (
  object_of (
      of_type (codes "object") ∷ (codes "minProperties", number (pos 1))
      ∷ (codes "patternProperties", object_of (first lettered n)) ∷ []),
  object_of ((codes "maxProperties", number (pos n)) ∷ []),
)
family Tree n = (defined (codes "t") (branch n) n, boolean false)
