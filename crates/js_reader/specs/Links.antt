-- The schemas in the value at a place by their numbers among some places.
use Rattle.std.specs.Prelude.{ℕ, List, [], ◌∷◌, ◌++◌, map}
use Rattle.documents.specs.Json.{Json, array, object, Items, Members, elements, entries}
use Rattle.schemas.specs.Places.{Pointer, Place, elements_under}
use Rattle.schemas.specs.Entry.{ItemsPart, Each, Listed, Needs, Names, Whole}
use Rattle.schemas.specs.Entries.{number_of, word}

abbrev pub element_numbers : List Place → Pointer → ℕ → Items → List ℕ
element_numbers cs p i vs = map (λ c. number_of cs c.0) (elements_under p i vs)

abbrev pub list_at : List Place → Pointer → Json → List ℕ
list_at cs p (array vs) = element_numbers cs p 0 vs
list_at cs p _ = []

abbrev pub items_at : List Place → Pointer → Json → ItemsPart
items_at cs p (array vs) = Listed (element_numbers cs p 0 vs)
items_at cs p _ = Each (number_of cs p)

abbrev pub names_at : List Place → Pointer → Members → List (List ℕ × ℕ)
names_at cs p ms = map (λ m. (m.0, number_of cs (p ++ m.0 ∷ []))) (entries ms)

abbrev pub map_at : List Place → Pointer → Json → List (List ℕ × ℕ)
map_at cs p (object ms) = names_at cs p ms
map_at cs p _ = []

abbrev pub need_at : List Place → Pointer → List ℕ → Json → Needs
need_at cs p w (array vs) = Names (map word (elements vs))
need_at cs p w _ = Whole (number_of cs (p ++ w ∷ []))

abbrev pub needs_at : List Place → Pointer → Members → List (List ℕ × Needs)
needs_at cs p ms = map (λ m. (m.0, need_at cs p m.0 m.1)) (entries ms)

abbrev pub all_needs_at : List Place → Pointer → Json → List (List ℕ × Needs)
all_needs_at cs p (object ms) = needs_at cs p ms
all_needs_at cs p _ = []
