-- The keywords of draft-06, and the shape that the value of each has to have (JSON Schema validation, section 6).
use Rattle.std.specs.Prelude.{ℕ, ◌^◌, ◌-◌, ℤ, pos, negsuc, int_le, List, [], ◌∷◌, Bool, true, false, ◌&&◌, Option, Some, None, cond, codes}
use Rattle.documents.specs.Tests.{some, same_word}
use Rattle.documents.specs.Json.{Json, boolean, string, array, object, Members, lookup}

pub data Shape : Type 0 where
  -- a word that names a type, or a list of such words
  TypeWords : Shape
  -- a list of any values
  AnyValues : Shape
  -- any value
  AnyValue : Shape
  -- a whole number, one above 0, one not below 0
  WholeNumber : Shape
  PositiveNumber : Shape
  Count : Shape
  -- a string that is a pattern
  PatternWord : Shape
  -- a list of strings
  Words : Shape
  -- a schema; a schema or a list of schemas; a list of schemas that isn't empty
  Schema : Shape
  SchemaOrList : Shape
  SchemaList : Shape
  -- an object of schemas; one whose names are patterns; one of schemas and lists of strings
  SchemaMap : Shape
  PatternMap : Shape
  NeedMap : Shape
  -- a boolean
  Flag : Shape

-- each keyword with its shape, in the order of names
abbrev pub keywords : List (List ℕ × Shape)
keywords =
    (codes "additionalItems", Schema)  -- section 6.10
    ∷ (codes "additionalProperties", Schema)  -- 6.20
    ∷ (codes "allOf", SchemaList)  -- 6.26
    ∷ (codes "anyOf", SchemaList)  -- 6.27
    ∷ (codes "const", AnyValue)  -- 6.24
    ∷ (codes "contains", Schema)  -- 6.14
    ∷ (codes "dependencies", NeedMap)  -- 6.21
    ∷ (codes "enum", AnyValues)  -- 6.23
    ∷ (codes "exclusiveMaximum", WholeNumber)  -- 6.3
    ∷ (codes "exclusiveMinimum", WholeNumber)  -- 6.5
    ∷ (codes "items", SchemaOrList)  -- 6.9
    ∷ (codes "maxItems", Count)  -- 6.11
    ∷ (codes "maxLength", Count)  -- 6.6
    ∷ (codes "maxProperties", Count)  -- 6.15
    ∷ (codes "maximum", WholeNumber)  -- 6.2
    ∷ (codes "minItems", Count)  -- 6.12
    ∷ (codes "minLength", Count)  -- 6.7
    ∷ (codes "minProperties", Count)  -- 6.16
    ∷ (codes "minimum", WholeNumber)  -- 6.4
    ∷ (codes "multipleOf", PositiveNumber)  -- 6.1
    ∷ (codes "not", Schema)  -- 6.29
    ∷ (codes "oneOf", SchemaList)  -- 6.28
    ∷ (codes "pattern", PatternWord)  -- 6.8
    ∷ (codes "patternProperties", PatternMap)  -- 6.19
    ∷ (codes "properties", SchemaMap)  -- 6.18
    ∷ (codes "propertyNames", Schema)  -- 6.22
    ∷ (codes "required", Words)  -- 6.17
    ∷ (codes "type", TypeWords)  -- 6.25
    ∷ (codes "uniqueItems", Flag)  -- 6.13
    ∷ []

-- the shape that goes with a word
abbrev pub shape_in : List (List ℕ × Shape) → List ℕ → Option Shape
shape_in [] w = None
shape_in (k ∷ ks) w = cond (same_word w k.0) (Some k.1) (shape_in ks w)

-- the shape of a keyword; any other word is none and constrains nothing
unfoldable pub shape_of : List ℕ → Option Shape
shape_of w = shape_in keywords w

abbrev pub is_list : Option Json → Bool
is_list (Some (array vs)) = true
is_list _ = false

-- the shape of a member's value in an object, where the member is a keyword that is read:
-- `additionalItems` is read only where `items` is a list of schemas
abbrev pub read_shape : Members → List ℕ → Option Shape
read_shape ms w =
    cond (same_word w (codes "additionalItems"))
    (cond (is_list (lookup (codes "items") ms)) (shape_of w) None) (shape_of w)

-- the words that name types; `integer` and `number` are one kind of document, as numbers are whole
abbrev pub type_words : List (List ℕ)
type_words =
    codes "null" ∷ codes "boolean" ∷ codes "object" ∷ codes "array" ∷ codes "number" ∷ codes "string"
    ∷ codes "integer" ∷ []

abbrev pub is_type_word : Json → Bool
is_type_word (string w) = some (same_word w) type_words
is_type_word _ = false

abbrev pub is_string : Json → Bool
is_string (string w) = true
is_string _ = false

-- a whole number that is held in 64 bits, with a sign or without: from -2^63 to 2^64-1
abbrev pub is_held : ℤ → Bool
is_held n = int_le (negsuc (2 ^ 63 - 1)) n && int_le n (pos (2 ^ 64 - 1))

-- a value that can be a schema
abbrev pub is_object_or_boolean : Json → Bool
is_object_or_boolean (boolean b) = true
is_object_or_boolean (object ms) = true
is_object_or_boolean _ = false
