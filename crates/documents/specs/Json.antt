-- What a JSON text holds: a document, but for numbers that aren't whole, which are one leaf.
use Rattle.std.specs.Prelude.{ℕ, suc, ◌+◌, ℤ, List, [], ◌∷◌, Bool, Option, Some, None, cond}
use Rattle.documents.specs.Tests.{same_word}

mutual
  pub data Json : Type 0 where
    null : Json
    boolean : Bool → Json
    number : ℤ → Json
    not_whole : Json
    string : List ℕ → Json
    array : Items → Json
    object : Members → Json

  pub data Items : Type 0 where
    no_items : Items
    item : Json → Items → Items

  pub data Members : Type 0 where
    no_members : Members
    member : List ℕ → Json → Members → Members

abbrev pub elements : Items → List Json
elements no_items = []
elements (item d ds) = d ∷ elements ds

-- the members, by name and value
abbrev pub entries : Members → List (List ℕ × Json)
entries no_members = []
entries (member k d ms) = (k, d) ∷ entries ms

abbrev pub items_of : List Json → Items
items_of [] = no_items
items_of (d ∷ ds) = item d (items_of ds)

abbrev pub members_of : List (List ℕ × Json) → Members
members_of [] = no_members
members_of (m ∷ ms) = member m.0 m.1 (members_of ms)

-- the value of that name, where there is one
abbrev pub lookup : List ℕ → Members → Option Json
lookup n no_members = None
lookup n (member k d ms) = cond (same_word n k) (Some d) (lookup n ms)

-- the number of values: this one and all inside it
abbrev mutual
  pub count : Json → ℕ
  count null = 1
  count (boolean b) = 1
  count (number n) = 1
  count not_whole = 1
  count (string s) = 1
  count (array ds) = suc (items_count ds)
  count (object ms) = suc (members_count ms)

  pub items_count : Items → ℕ
  items_count no_items = 0
  items_count (item d ds) = count d + items_count ds

  pub members_count : Members → ℕ
  members_count no_members = 0
  members_count (member k d ms) = count d + members_count ms
