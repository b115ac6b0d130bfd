-- Documents: the values that JSON has, where every number is whole, of any size, and a string is its scalar values.
use Rattle.std.specs.Prelude.{ℕ, suc, max, ℤ, List, [], ◌∷◌, Bool, true, ◌&&◌, Option, Some, None, cond}
use Rattle.documents.specs.Kind.{Kind, Null, Boolean, Number, Text, Array, Object}
use Rattle.documents.specs.Tests.{every, same_word, comes_before, is_scalar}

mutual
  pub data Document : Type 0 where
    null : Document
    boolean : Bool → Document
    number : ℤ → Document
    string : List ℕ → Document
    array : Items → Document
    object : Members → Document

  pub data Items : Type 0 where
    no_items : Items
    item : Document → Items → Items

  pub data Members : Type 0 where
    no_members : Members
    member : List ℕ → Document → Members → Members

abbrev pub elements : Items → List Document
elements no_items = []
elements (item d ds) = d ∷ elements ds

-- the members, by name and value
abbrev pub entries : Members → List (List ℕ × Document)
entries no_members = []
entries (member k d ms) = (k, d) ∷ entries ms

abbrev pub items_of : List Document → Items
items_of [] = no_items
items_of (d ∷ ds) = item d (items_of ds)

abbrev pub members_of : List (List ℕ × Document) → Members
members_of [] = no_members
members_of (m ∷ ms) = member m.0 m.1 (members_of ms)

-- the value of that name, where there is one
abbrev pub lookup : List ℕ → Members → Option Document
lookup n no_members = None
lookup n (member k d ms) = cond (same_word n k) (Some d) (lookup n ms)

abbrev pub kind_of : Document → Kind
kind_of null = Null
kind_of (boolean b) = Boolean
kind_of (number n) = Number
kind_of (string s) = Text
kind_of (array ds) = Array
kind_of (object ms) = Object

-- how deep arrays and objects nest: 0 for a scalar, 1 for an empty container
abbrev mutual
  pub depth : Document → ℕ
  depth null = 0
  depth (boolean b) = 0
  depth (number n) = 0
  depth (string s) = 0
  depth (array ds) = suc (items_depth ds)
  depth (object ms) = suc (members_depth ms)

  pub items_depth : Items → ℕ
  items_depth no_items = 0
  items_depth (item d ds) = max (depth d) (items_depth ds)

  pub members_depth : Members → ℕ
  members_depth no_members = 0
  members_depth (member k d ms) = max (depth d) (members_depth ms)

-- the name comes before the first name of the members
abbrev pub is_before : List ℕ → Members → Bool
is_before k no_members = true
is_before k (member l e ms) = comes_before k l

-- each name comes before the next one
abbrev pub names_rise : Members → Bool
names_rise no_members = true
names_rise (member k d ms) = is_before k ms && names_rise ms

-- strings and names are scalar values, and an object has each name once. An object has no order of its own:
-- its members are listed by name, so that equal documents are the same value
abbrev mutual
  pub is_document : Document → Bool
  is_document null = true
  is_document (boolean b) = true
  is_document (number n) = true
  is_document (string s) = every is_scalar s
  is_document (array ds) = are_documents ds
  is_document (object ms) = are_members ms

  pub are_documents : Items → Bool
  are_documents no_items = true
  are_documents (item d ds) = is_document d && are_documents ds

  pub are_members : Members → Bool
  are_members no_members = true
  are_members (member k d ms) = every is_scalar k && is_document d && is_before k ms && are_members ms
