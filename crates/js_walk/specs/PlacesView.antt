-- The places that the program's values stand for.
use Rattle.std.specs.Prelude.{◌≡◌, ℕ, ◌<◌, List, [], map, length, get_or, codes, Option, Some, None, Ok}
use Rattle.documents.specs.Json.{Json, string, object, lookup}
use Rattle.js_doc.specs.JsonView.{view}
use Rattle.schemas.specs.Places as P
use Rattle.schemas.specs.Walk.{root_id}
use Rattle.js_json.specs.Reference.{target_of}
use Rattle.js_pointers.specs.Table.{Leads}
use Rattle.js_pointers.specs.PointersView.{pointers_of}
use Rattle.js_walk.specs.declared.place.Place.{Place}
use Rattle.js_walk.specs.declared.place.Done.{Done}
use Rattle.js_walk.specs.declared.places.Places.{Places}

-- a place, where pointers have these numbers
abbrev pub place_view : List P.Pointer → Place → P.Place
place_view ps p = (get_or ps p.pointer [], view p.value.now)

abbrev pub done_view : List P.Pointer → ℕ × Done → P.Place
done_view ps e = (get_or ps e.0 [], view e.1.value.now)

-- the pointers that have numbers there
abbrev pub pointers_in : Places → List P.Pointer
pointers_in p = pointers_of p.pointers

abbrev pub places_view : Places → List P.Place
places_view p = map (done_view (pointers_in p)) p.done

-- where the references of the places lead, in their order
abbrev pub targets_of : Places → List (Option ℕ)
targets_of p = map (λ e. e.1.target) p.done

-- the number leads to where the reference does, if the value is one
abbrev pub RefersTo : Json → List P.Pointer → Option Json → Option ℕ → Type 0
RefersTo root ps (Some (string w)) t = (q : P.Pointer) × (target_of root w (root_id root) ≡ Ok q) × Leads ps t q
RefersTo root ps _ t = Unit {0}

-- the value of `$ref`
abbrev pub reference_in : Json → Option Json
reference_in (object ms) = lookup (codes "$ref") ms
reference_in _ = None

abbrev pub IsTarget : Json → List P.Pointer → Json → Option ℕ → Type 0
IsTarget root ps v t = RefersTo root ps (reference_in v) t

-- each place has the target of its reference
abbrev pub AreTargets : Json → List P.Pointer → List P.Place → List (Option ℕ) → Type 0
AreTargets root ps cs ts = (i : ℕ) (c : P.Place) (t : Option ℕ) → i < length cs
    → c ≡ get_or cs i c → t ≡ get_or ts i t → IsTarget root ps c.1 t
