-- The entries that a schema is read as: one for each place, in the order of the walk.
use Rattle.std.specs.Prelude.{ℕ, zero, suc, ℤ, pos, nat_abs, List, [], ◌∷◌, ◌++◌, map, filter_map, true, false, Option, Some, None, option_map, option_and_then, Result, Ok, Err, cond, codes}
use Rattle.documents.specs.Tests.{same_word}
use Rattle.documents.specs.Document as D
use Rattle.documents.specs.Json.{Json, null, boolean, number, not_whole, string, array, object, Items, no_items, item, Members, no_members, member, lookup, elements, entries}
use Rattle.schemas.specs.Places.{Pointer, Place, same_pointer}
use Rattle.schemas.specs.SubSchemas.{in_list}
use Rattle.schemas.specs.Fault.{Fault, Rules}
use Rattle.schemas.specs.Walk.{places, root_id}
use Rattle.schemas.specs.Reading.{first_fault}
use Rattle.schemas.specs.Entry.{TypeName, Null, Boolean, Object, Array, Number, Text, Integer, ItemsPart, Each, Listed, Needs, Names, Whole, Keywords, Form, Always, Never, Ref, Asks, Entry, entry}

-- the document that a value of whole numbers is
abbrev mutual
  pub document_of : Json → D.Document
  document_of null = D.null
  document_of (boolean b) = D.boolean b
  document_of (number n) = D.number n
  document_of not_whole = D.null
  document_of (string s) = D.string s
  document_of (array vs) = D.array (items_of vs)
  document_of (object ms) = D.object (members_of ms)

  pub items_of : Items → D.Items
  items_of no_items = D.no_items
  items_of (item v vs) = D.item (document_of v) (items_of vs)

  pub members_of : Members → D.Members
  members_of no_members = D.no_members
  members_of (member k v ms) = D.member k (document_of v) (members_of ms)

-- the values of a list
abbrev pub listed : Json → List Json
listed (array vs) = elements vs
listed _ = []

-- the members of an object
abbrev pub members : Json → List (List ℕ × Json)
members (object ms) = entries ms
members _ = []

abbrev pub word : Json → List ℕ
word (string w) = w
word _ = []

abbrev pub whole : Json → ℤ
whole (number n) = n
whole _ = pos 0

abbrev pub natural : Json → ℕ
natural v = nat_abs (whole v)

-- the type that a word names
abbrev pub type_in : List (List ℕ × TypeName) → List ℕ → Option TypeName
type_in [] w = None
type_in (t ∷ ts) w = cond (same_word w t.0) (Some t.1) (type_in ts w)

abbrev pub type_named : List ℕ → Option TypeName
type_named w =
    type_in ((codes "null", Null) ∷ (codes "boolean", Boolean) ∷ (codes "object", Object) ∷ (codes "array", Array)
    ∷ (codes "number", Number) ∷ (codes "string", Text) ∷ (codes "integer", Integer) ∷ []) w

-- the types of a word, or of a list of words, as they are
abbrev pub types_of : Json → List TypeName
types_of (array vs) = filter_map (λ v. type_named (word v)) (elements vs)
types_of v = filter_map (λ w. type_named (word w)) (v ∷ [])

-- the number of the place with that pointer
abbrev pub number_of : List Place → Pointer → ℕ
number_of [] p = zero
number_of (c ∷ cs) p = cond (same_pointer p c.0) zero (suc (number_of cs p))

-- a keyword's value, made into its field
abbrev pub field : {A : Type 0} → Members → List ℕ → (List ℕ → Json → A) → Option A
field ms k f = option_map (f k) (lookup k ms)

-- the schemas of an object at p by their numbers, where `entry_of` gives the number of a place
module _ (entry_of : Pointer → ℕ) (p : Pointer) where
  -- the schema that is the value of the keyword
  abbrev pub one_number : List ℕ → Json → ℕ
  one_number k v = entry_of (p ++ k ∷ [])

  -- the schemas of a list
  abbrev pub list_numbers : List ℕ → Json → List ℕ
  list_numbers k v = map (λ c. entry_of c.0) (in_list (p ++ k ∷ []) v)

  abbrev pub items_part : List ℕ → Json → ItemsPart
  items_part k (array vs) = Listed (list_numbers k (array vs))
  items_part k v = Each (entry_of (p ++ k ∷ []))

  -- the schemas of an object, with their names
  abbrev pub named_numbers : List ℕ → Json → List (List ℕ × ℕ)
  named_numbers k v = map (λ m. (m.0, entry_of ((p ++ k ∷ []) ++ m.0 ∷ []))) (members v)

  -- what a name needs
  abbrev pub needs_of : List ℕ → List ℕ × Json → Needs
  needs_of k (w, array vs) = Names (map word (elements vs))
  needs_of k (w, v) = Whole (entry_of ((p ++ k ∷ []) ++ w ∷ []))

  abbrev pub all_needs : List ℕ → Json → List (List ℕ × Needs)
  all_needs k v = map (λ m. (m.0, needs_of k m)) (members v)

  -- `additionalItems`, given `items`
  abbrev pub rest_number : Option Json → List ℕ → Json → Option ℕ
  rest_number (Some (array vs)) k v = Some (one_number k v)
  rest_number _ k v = None

  -- the keywords of an object
  abbrev pub keywords_of : Members → Keywords
  keywords_of ms = record {
    types = field ms (codes "type") (λ k. types_of);
    enumeration = field ms (codes "enum") (λ k v. map document_of (listed v));
    constant = field ms (codes "const") (λ k. document_of);
    multiple_of = field ms (codes "multipleOf") (λ k. natural);
    minimum = field ms (codes "minimum") (λ k. whole);
    maximum = field ms (codes "maximum") (λ k. whole);
    exclusive_minimum = field ms (codes "exclusiveMinimum") (λ k. whole);
    exclusive_maximum = field ms (codes "exclusiveMaximum") (λ k. whole);
    min_length = field ms (codes "minLength") (λ k. natural);
    max_length = field ms (codes "maxLength") (λ k. natural);
    pattern = field ms (codes "pattern") (λ k. word);
    items = field ms (codes "items") items_part;
    additional_items = option_and_then (rest_number (lookup (codes "items") ms) (codes "additionalItems"))
        (lookup (codes "additionalItems") ms);
    contains = field ms (codes "contains") one_number;
    min_items = field ms (codes "minItems") (λ k. natural);
    max_items = field ms (codes "maxItems") (λ k. natural);
    required = field ms (codes "required") (λ k v. map word (listed v));
    properties = field ms (codes "properties") named_numbers;
    pattern_properties = field ms (codes "patternProperties") named_numbers;
    additional_properties = field ms (codes "additionalProperties") one_number;
    property_names = field ms (codes "propertyNames") one_number;
    dependencies = field ms (codes "dependencies") all_needs;
    min_properties = field ms (codes "minProperties") (λ k. natural);
    max_properties = field ms (codes "maxProperties") (λ k. natural);
    all_of = field ms (codes "allOf") list_numbers;
    any_of = field ms (codes "anyOf") list_numbers;
    one_of = field ms (codes "oneOf") list_numbers;
    not = field ms (codes "not") one_number;
  }

module _ {P R : Type 0} (rules : Rules P R) (root : Json) where
  -- the entry at a place. A reference leads to one place
  abbrev pub referred_form : (Pointer → ℕ) → Result Pointer R → Form
  referred_form entry_of (Ok q) = Ref (entry_of q)
  referred_form entry_of (Err e) = Never

  abbrev pub reference_form : (Pointer → ℕ) → Json → Form
  reference_form entry_of (string w) = referred_form entry_of (rules.target root w (root_id root))
  reference_form entry_of _ = Never

  abbrev pub object_form : (Pointer → ℕ) → Option Json → Pointer → Members → Form
  object_form entry_of (Some r) p ms = reference_form entry_of r
  object_form entry_of None p ms = Asks (keywords_of entry_of p ms)

  abbrev pub form_at : (Pointer → ℕ) → Place → Form
  form_at entry_of (p, boolean true) = Always
  form_at entry_of (p, boolean false) = Never
  form_at entry_of (p, object ms) = object_form entry_of (lookup (codes "$ref") ms) p ms
  form_at entry_of (p, _) = Never

  abbrev pub entry_at : (Pointer → ℕ) → Place → Entry
  entry_at entry_of c = entry c.0 (form_at entry_of c)

  -- the entries of some places, numbered as they are
  abbrev pub entries_at : List Place → List Entry
  entries_at cs = map (entry_at (number_of cs)) cs

  abbrev pub entries_or : Option (Fault P R) → Result (List Entry) (Fault P R)
  entries_or None = Ok (entries_at (places rules root))
  entries_or (Some f) = Err f

  -- what a schema is read as: its entries, or its first fault
  abbrev pub read : Result (List Entry) (Fault P R)
  read = entries_or (first_fault rules root)
