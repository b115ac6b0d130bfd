-- When a document is valid for a schema, read off the schema's JSON value (JSON Schema validation, draft-06), and when
-- one schema includes another. The section of the standard is beside each keyword.
use Rattle.std.specs.Prelude.{◌≡◌, ℕ, suc, ℤ, pos, int_le, int_lt, nat_abs, List, [], map, length, drop, Bool, true, false, ◌&&◌, ◌||◌, not, Option, Some, None, Result, Ok, Err, codes}
use Prim.Native.String.{String}
use Rattle.documents.specs.Tests.{every, some, same_word}
use Rattle.documents.specs.Kind.{Kind, Null, Boolean, Number, Text, Array, Object}
use Rattle.documents.specs.Document as D
use Rattle.documents.specs.Document.{Document, is_document, kind_of}
use Rattle.documents.specs.Json.{Json, boolean, array, object, Members, elements, lookup, count}
use Rattle.documents.specs.Measures.{exactly_one, is_multiple, at_number, at_string, at_array, at_object, meets_in_order, has_name, every_in}
use Rattle.levels.specs.Levels.{is_met}
use Rattle.documents.specs.Place.{value_at}
use Rattle.schemas.specs.Places.{Pointer}
use Rattle.schemas.specs.Fault.{Rules}
use Rattle.schemas.specs.Walk.{root_id}
use Rattle.schemas.specs.Schema.{if_there, meets}
use Rattle.schemas.specs.Entries.{listed, members, word, whole}
use Rattle.draft06.specs.Equality.{is_equal}
use Rattle.draft06.specs.Matching.{finds_text}
use Rattle.draft06.specs.Names.{is_additional, each_asks, where_present}

-- a name of the instance's kind; numbers are whole here, so `integer` and `number` are one kind
abbrev pub names_kind : List ℕ → Kind → Bool
names_kind w Null = same_word w (codes "null")
names_kind w Boolean = same_word w (codes "boolean")
names_kind w Number = same_word w (codes "number") || same_word w (codes "integer")
names_kind w Text = same_word w (codes "string")
names_kind w Array = same_word w (codes "array")
names_kind w Object = same_word w (codes "object")

-- one name, or one of a list
abbrev pub type_names : Kind → Json → Bool
type_names t (array ws) = some (λ w. names_kind (word w) t) (elements ws)
type_names t w = names_kind (word w) t

-- one schema asks something of each element, and the schemas of a list one each
abbrev pub items_ask : (Json → Document → Bool) → Json → List Document → Bool
items_ask below (array ss) ds = meets_in_order below (elements ss) ds
items_ask below s ds = every (below s) ds

-- the elements after those that a list of schemas speaks of; without such a list any elements pass
abbrev pub rest_asks : (Json → Document → Bool) → Option Json → Json → List Document → Bool
rest_asks below (Some (array ss)) s ds = every (below s) (drop (length (elements ss)) ds)
rest_asks below _ s ds = true

-- what the presence of a name asks of an object: other names, or a schema of the whole object
abbrev pub need_asks : (Json → Bool) → Json → List (List ℕ × Document) → Bool
need_asks here (array ws) ms = every (λ w. has_name (word w) ms) (elements ws)
need_asks here s ms = here s

-- the names of an object, where the keyword is there
abbrev pub names_in : Option Json → List (List ℕ)
names_in None = []
names_in (Some v) = map (λ m. m.0) (members v)

-- `matches t w` says whether the pattern with the text t matches somewhere in w
module _ (matches : List ℕ → List ℕ → Bool) (here : Json → Bool) (below : Json → Document → Bool) (ms : Members) where
  -- the value of a keyword, where it is there
  abbrev pub keyword : String → Option Json
  keyword k = lookup (codes k) ms

  -- what the keywords ask of every document
  abbrev pub asks_any : Document → Bool
  asks_any J =
      meets (λ v. some (λ w. is_equal w J) (listed v)) (keyword "enum")  -- section 6.23
      && meets (λ v. is_equal v J) (keyword "const")  -- 6.24
      && meets (type_names (kind_of J)) (keyword "type")  -- 6.25
      && meets (λ v. every here (listed v)) (keyword "allOf")  -- 6.26
      && meets (λ v. some here (listed v)) (keyword "anyOf")  -- 6.27
      && meets (λ v. exactly_one here (listed v)) (keyword "oneOf")  -- 6.28
      && meets (λ s. not (here s)) (keyword "not")  -- 6.29

  abbrev pub asks_number : ℤ → Bool
  asks_number x =
      meets (λ v. is_multiple (nat_abs (whole v)) x) (keyword "multipleOf")  -- section 6.1
      && meets (λ v. int_le x (whole v)) (keyword "maximum")  -- 6.2
      && meets (λ v. int_lt x (whole v)) (keyword "exclusiveMaximum")  -- 6.3
      && meets (λ v. int_le (whole v) x) (keyword "minimum")  -- 6.4
      && meets (λ v. int_lt (whole v) x) (keyword "exclusiveMinimum")  -- 6.5

  abbrev pub asks_string : List ℕ → Bool
  asks_string w =
      meets (λ v. int_le (pos (length w)) (whole v)) (keyword "maxLength")  -- section 6.6
      && meets (λ v. int_le (whole v) (pos (length w))) (keyword "minLength")  -- 6.7
      && meets (λ v. matches (word v) w) (keyword "pattern")  -- 6.8

  -- what the keywords ask of an array's elements
  abbrev pub asks_array : List Document → Bool
  asks_array ds =
      meets (λ v. items_ask below v ds) (keyword "items")  -- section 6.9
      && meets (λ s. rest_asks below (keyword "items") s ds) (keyword "additionalItems")  -- 6.10
      && meets (λ v. int_le (pos (length ds)) (whole v)) (keyword "maxItems")  -- 6.11
      && meets (λ v. int_le (whole v) (pos (length ds))) (keyword "minItems")  -- 6.12
      && meets (λ s. some (below s) ds) (keyword "contains")  -- 6.14

  -- a name that neither `properties` nor `patternProperties` speaks of
  abbrev pub is_other : List ℕ → Bool
  is_other w = is_additional matches (names_in (keyword "properties")) (names_in (keyword "patternProperties")) w

  -- what the keywords ask of an object's members, by name and value
  abbrev pub asks_object : List (List ℕ × Document) → Bool
  asks_object ns =
      meets (λ v. int_le (pos (length ns)) (whole v)) (keyword "maxProperties")  -- section 6.15
      && meets (λ v. int_le (whole v) (pos (length ns))) (keyword "minProperties")  -- 6.16
      && meets (λ v. every (λ w. has_name (word w) ns) (listed v)) (keyword "required")  -- 6.17
      && meets (λ v. each_asks same_word below (members v) ns) (keyword "properties")  -- 6.18
      && meets (λ v. each_asks matches below (members v) ns) (keyword "patternProperties")  -- 6.19
      && meets (λ s. every_in is_other (below s) ns) (keyword "additionalProperties")  -- 6.20
      && meets (λ v. where_present (λ s. need_asks here s ns) (members v) ns) (keyword "dependencies")  -- 6.21
      && meets (λ s. every (λ n. below s (D.string n.0)) ns) (keyword "propertyNames")  -- 6.22

  -- keywords of one kind of document ask nothing of other kinds, and other members ask nothing; a schema with
  -- `uniqueItems` (section 6.13) other than `false` isn't read
  abbrev pub asks_keywords : Document → Bool
  asks_keywords J =
      asks_any J && at_number asks_number J && at_string asks_string J && at_array asks_array J
      && at_object asks_object J

-- `target r` is the value to which the reference with the text r leads
module _ (matches : List ℕ → List ℕ → Bool) (target : List ℕ → Option Json) where
  -- a reference asks what its target asks, and whatever is beside it asks nothing (core, section 8)
  abbrev pub object_asks : Option Json → (Json → Bool) → (Json → Document → Bool) → Members → Document → Bool
  object_asks (Some r) here below ms J = if_there false here (target (word r))
  object_asks None here below ms J = asks_keywords matches here below ms J

  -- what a schema asks of a document. `here` says which schemas the document itself meets, `below` which ones its
  -- elements and members meet, and its names as strings
  abbrev pub asks : (here : Json → Bool) (below : Json → Document → Bool) → Json → Document → Bool
  asks here below (boolean b) J = b
  asks here below (object ms) J = object_asks (lookup (codes "$ref") ms) here below ms J
  asks here below _ J = false

module _ {P R : Type 0} (rules : Rules P R) (root : Json) where
  -- the value at a place, where a reference leads to one
  abbrev pub value_referred : Result Pointer R → Option Json
  value_referred (Ok q) = value_at q root
  value_referred (Err e) = None

  -- the value in the file to which the reference with that text leads
  abbrev pub target : List ℕ → Option Json
  target w = value_referred (rules.target root w (root_id root))

  -- the document is valid for a schema of the file, with less than n steps from schema to schema at one document
  abbrev pub valid_within : ℕ → Json → Document → Bool
  valid_within n s J = is_met (asks (finds_text rules) target) n s J

  -- the document is valid for the schema that the file's value is. As many steps in place as the file has values are
  -- more than a schema without a circle in place needs
  unfoldable pub valid : Document → Bool
  valid J = valid_within (suc (count root)) root J

-- every document that is valid for the first is valid for the second
abbrev pub Included : {P R : Type 0} → Rules P R → Json → Json → Type 0
Included rules a b = (J : Document) → is_document J ≡ true → valid rules a J ≡ true → valid rules b J ≡ true

-- a document that the first accepts and the second does not
pub record Separates {P R : Type 0} (rules : Rules P R) (a b : Json) (J : Document) : Type 0 where
  pub document : is_document J ≡ true
  pub first : valid rules a J ≡ true
  pub second : valid rules b J ≡ false
