-- The places that are numbered, in their order, pointers by their numbers, and where references lead.
use Rattle.std.specs.Prelude.{ℕ, List, [], get_or, Option}
use Rattle.schemas.specs.Places as P
use Rattle.js_reader.specs.declared.numbers.Numbers.{Numbers}
use Rattle.js_walk.specs.declared.places.Places.{Places}
use Rattle.js_walk.specs.PlacesView as W

abbrev pub places_in : Numbers → Places
places_in n = n.places

abbrev pub numbered : Numbers → List P.Place
numbered n = W.places_view (places_in n)

abbrev pub pointers_in : Numbers → List P.Pointer
pointers_in n = W.pointers_in (places_in n)

abbrev pub pointer_at : Numbers → ℕ → P.Pointer
pointer_at n i = get_or (pointers_in n) i []

abbrev pub targets_in : Numbers → List (Option ℕ)
targets_in n = W.targets_of (places_in n)
