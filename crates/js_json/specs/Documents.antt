-- Documents among JSON values, and the places of numbers that aren't whole.
use Rattle.std.specs.Prelude.{ℕ, ◌+◌, List, [], ◌∷◌, ◌++◌, map, decimal}
use Rattle.documents.specs.Document as D
use Rattle.documents.specs.Json as J

-- a document is a JSON value whose numbers are all whole
abbrev mutual
  pub json_of_document : D.Document → J.Json
  json_of_document D.null = J.null
  json_of_document (D.boolean b) = J.boolean b
  json_of_document (D.number n) = J.number n
  json_of_document (D.string s) = J.string s
  json_of_document (D.array ds) = J.array (json_of_items ds)
  json_of_document (D.object ms) = J.object (json_of_members ms)

  pub json_of_items : D.Items → J.Items
  json_of_items D.no_items = J.no_items
  json_of_items (D.item d ds) = J.item (json_of_document d) (json_of_items ds)

  pub json_of_members : D.Members → J.Members
  json_of_members D.no_members = J.no_members
  json_of_members (D.member k d ms) = J.member k (json_of_document d) (json_of_members ms)

-- the places of the numbers that aren't whole, elements in their order and members in the order of their names: for
-- each level of nesting the element's index or the member's name
abbrev mutual
  pub unwhole_places : J.Json → List (List (List ℕ))
  unwhole_places J.null = []
  unwhole_places (J.boolean b) = []
  unwhole_places (J.number n) = []
  unwhole_places J.not_whole = [] ∷ []
  unwhole_places (J.string s) = []
  unwhole_places (J.array ds) = places_in_items 0 ds
  unwhole_places (J.object ms) = places_in_members ms

  -- among elements of which the first has this index
  pub places_in_items : ℕ → J.Items → List (List (List ℕ))
  places_in_items i J.no_items = []
  places_in_items i (J.item d ds) = map (λ place. decimal i ∷ place) (unwhole_places d) ++ places_in_items (i + 1) ds

  pub places_in_members : J.Members → List (List (List ℕ))
  places_in_members J.no_members = []
  places_in_members (J.member k d ms) = map (λ place. k ∷ place) (unwhole_places d) ++ places_in_members ms
