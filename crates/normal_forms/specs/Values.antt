-- The nodes of values: a document meets one exactly where it is the value.
use Rattle.std.specs.Prelude.{ℕ, List, [], ◌∷◌, map, length}
use Rattle.documents.specs.Kind.{Kind, Null, Boolean, Number, Text, Array, Object}
use Rattle.documents.specs.Document as D
use Rattle.documents.specs.Document.{Document, null, boolean, number, string, array, object, no_items, item, Members, no_members, member, elements, entries}
use Rattle.positions.specs.Position.{Position, True, False, All, Types, BoolIs, NumIn, Words, Items, CountMin, CountMax, MembersOf, Named, Others, Has}
use Rattle.normal_forms.specs.Nodes.{Maker, nothing, node, both, above, the_one}

-- documents of one kind that meet a further position
abbrev pub of_kind : Kind → Position → Maker
of_kind t P = above All (both (node (Types (t ∷ []))) (node P))

-- all numbers but the last, and the last one
abbrev pub but_last : List ℕ → List ℕ
but_last [] = []
but_last (q ∷ []) = []
but_last (q ∷ r ∷ rs) = q ∷ but_last (r ∷ rs)

abbrev pub last_of : List ℕ → ℕ
last_of [] = 0
last_of (q ∷ []) = q
last_of (q ∷ r ∷ rs) = last_of (r ∷ rs)

-- the last position is required of all elements after those that the others speak of
abbrev pub items_of : List ℕ → Position
items_of qs = Items (but_last qs) (last_of qs)

abbrev pub names_of : Members → List (List ℕ)
names_of ms = map (λ m. m.0) (entries ms)

-- the member of that name has a value that meets the position
abbrev pub member_of : List ℕ → List ℕ → Position
member_of k qs = MembersOf (Named k) (the_one qs)

-- there are no other members
abbrev pub no_others : List (List ℕ) → Maker
no_others ks = above (λ qs. MembersOf (Others ks []) (the_one qs)) (node False)

abbrev mutual
  pub value_node : Document → Maker
  value_node null = node (Types (Null ∷ []))
  value_node (boolean b) = of_kind Boolean (BoolIs b)
  value_node (number n) = of_kind Number (NumIn (n ∷ []))
  value_node (string w) = of_kind Text (Words (w ∷ []))
  value_node (array ds) =
      above All
      (both (node (Types (Array ∷ [])))
      (both (above items_of (both (item_nodes ds) (node True)))
      (both (node (CountMin (length (elements ds)))) (node (CountMax (length (elements ds)))))))
  value_node (object ms) =
      above All (both (node (Types (Object ∷ []))) (both (member_nodes ms) (no_others (names_of ms))))

  pub item_nodes : D.Items → Maker
  item_nodes no_items = nothing
  item_nodes (item d ds) = both (value_node d) (item_nodes ds)

  pub member_nodes : Members → Maker
  member_nodes no_members = nothing
  member_nodes (member k d ms) = both (node (Has k)) (both (above (member_of k) (value_node d)) (member_nodes ms))
