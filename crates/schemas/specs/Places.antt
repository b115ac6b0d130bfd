-- Places in a JSON value, each known by its pointer (RFC 6901). Which value is at one is in `documents`.
use Rattle.std.specs.Prelude.{ℕ, suc, List, [], ◌∷◌, ◌++◌, Bool, true, false, ◌&&◌}
use Rattle.std.specs.Fmt.{digits_onto}
use Rattle.documents.specs.Tests.{same_word, some}
use Rattle.documents.specs.Json.{Json, Items, no_items, item}

-- the tokens that lead to a place, outermost first: names of members, and numbers of elements in decimal
abbrev pub Pointer : Type 0
Pointer = List (List ℕ)

-- a value, and where it is
abbrev pub Place : Type 0
Place = Pointer × Json

abbrev pub same_pointer : Pointer → Pointer → Bool
same_pointer [] [] = true
same_pointer (t ∷ p) (u ∷ q) = same_word t u && same_pointer p q
same_pointer _ _ = false

-- one of the places has that pointer
abbrev pub has_place : List Place → Pointer → Bool
has_place cs p = some (λ c. same_pointer p c.0) cs

-- the token of element i: its number in decimal, without a zero before it
unfoldable pub index_token : ℕ → List ℕ
index_token i = digits_onto (suc i) 10 false i []

-- the places of a list's elements, whose numbers begin at i
abbrev pub elements_under : Pointer → ℕ → Items → List Place
elements_under p i no_items = []
elements_under p i (item v vs) = (p ++ index_token i ∷ [], v) ∷ elements_under p (suc i) vs
