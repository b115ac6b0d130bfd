-- Every JSON value that the program can hold is well formed: the names of each object rise, texts are scalar values.
use Rattle.std.proofs.Common.{◌≡◌, ℕ, List, [], ◌∷◌, map, true, ◌&&◌, refl, ap, ◌∙◌, subst}
use Rattle.std.proofs.lemmas.Bool.{and_parts, and_from}
use Rattle.documents.specs.Tests.{every, is_scalar}
use Rattle.documents.specs.Json as D
use Rattle.documents.specs.WellFormed as F
use Rattle.js_doc.specs.declared.rising.Named.{Named}
use Rattle.js_doc.specs.declared.json.Json.{Json, roll-Json}
use Rattle.js_doc.specs.declared.json.Json.TheOpen.{Json-F, JsonList-F, JsonMap-F}
use Rattle.js_doc.specs.declared.json.Json.TheFolds.{map-Json, map-JsonList, map-JsonMap, fold-roll-Json, fold-roll-JsonList, fold-roll-JsonMap, fold_out-JsonMap, ind-Json, ind-JsonMap}
use Rattle.js_doc.specs.declared.json.JsonList.{JsonList, roll-JsonList}
use Rattle.js_doc.specs.declared.json.JsonMap.{JsonMap, out-JsonMap, roll-JsonMap}
use Rattle.js_doc.specs.Names.{starts_after, rise, names_of}
use Rattle.js_doc.specs.JsonView.{json_step, list_step, map_step, view, list_view, map_view, member_view}
use Rattle.js_doc.proofs.Mapped.{with_value, pairs_of-with_value}

-- ---- a map by its members

pub map_view-roll : (x : JsonMap-F Json JsonList JsonMap)
    → map_view (roll-JsonMap x) ≡ D.members_of (map member_view x.members.members.items)
map_view-roll x =
    fold-roll-JsonMap D.Json D.Items D.Members json_step list_step map_step x
    ∙ ap D.members_of (pairs_of-with_value view x.members.members.items)

pub map_view-out : (m : JsonMap) → map_view m ≡ D.members_of (map member_view (out-JsonMap m).members.members.items)
map_view-out m =
    fold_out-JsonMap D.Json D.Items D.Members json_step list_step map_step m
    ∙ ap D.members_of (pairs_of-with_value view (out-JsonMap m).members.members.items)

-- ---- well formed

abbrev IsGood : Json → Type 0
IsGood d = F.is_json (view d) ≡ true

abbrev IsGoodList : JsonList → Type 0
IsGoodList l = F.are_items (list_view l) ≡ true

abbrev IsGoodMap : JsonMap → Type 0
IsGoodMap m = F.are_members (map_view m) ≡ true

-- a level whose parts come with proofs
abbrev Good : Type 0
Good = Json-F ((d : Json) × IsGood d) ((l : JsonList) × IsGoodList l) ((m : JsonMap) × IsGoodMap m)

good_json : (y : Good) → F.is_json (json_step (map-Json _ _ _ _ _ _ view list_view map_view
    (map-Json _ _ _ _ _ _ (λ e. e.0) (λ e. e.0) (λ e. e.0) y))) ≡ true
good_json Json-F.Null = refl
good_json (Json-F.Bool b) = refl
good_json (Json-F.Num n) = refl
good_json Json-F.NotWhole = refl
good_json (Json-F.Text w) = w.scalar
good_json (Json-F.List l) = l.1
good_json (Json-F.Members m) = m.1

good_items : (es : List ((d : Json) × IsGood d)) → F.are_items (D.items_of (map view (map (λ e. e.0) es))) ≡ true
good_items [] = refl
good_items (e ∷ es) =
    and_from (F.is_json (view e.0)) (F.are_items (D.items_of (map view (map (λ e. e.0) es)))) e.1 (good_items es)

abbrev made : List (Named ((d : Json) × IsGood d)) → D.Members
made ms = D.members_of (map member_view (map (with_value (λ e. e.0)) ms))

made_after : (k : List ℕ) (ms : List (Named ((d : Json) × IsGood d)))
    → F.is_before k (made ms) ≡ starts_after k (names_of ms)
made_after k [] = refl
made_after k (m ∷ ms) = refl

good_members : (ms : List (Named ((d : Json) × IsGood d))) → rise (names_of ms) ≡ true → F.are_members (made ms) ≡ true
good_members [] r = refl
good_members (m ∷ ms) r =
    let both = and_parts (starts_after m.name.text (names_of ms)) (rise (names_of ms)) r in
    let name = every is_scalar m.name.text in
    let value = F.is_json (view m.value.0) in
    let before = F.is_before m.name.text (made ms) in
    and_from (name && value && before) (F.are_members (made ms))
    (and_from (name && value) before (and_from name value m.name.scalar m.value.1) (made_after m.name.text ms ∙ both.0))
    (good_members ms both.1)

json_rolls : (x : Json-F Json JsonList JsonMap) (y : Good)
    → map-Json _ _ _ _ _ _ (λ e. e.0) (λ e. e.0) (λ e. e.0) y ≡ x → IsGood (roll-Json x)
json_rolls x y is =
    ap F.is_json (fold-roll-Json D.Json D.Items D.Members json_step list_step map_step x)
    ∙ subst (λ z. F.is_json (json_step (map-Json _ _ _ _ _ _ view list_view map_view z)) ≡ true) is (good_json y)

list_rolls : (x : JsonList-F Json JsonList JsonMap)
    (y : JsonList-F ((d : Json) × IsGood d) ((l : JsonList) × IsGoodList l) ((m : JsonMap) × IsGoodMap m))
    → map-JsonList _ _ _ _ _ _ (λ e. e.0) (λ e. e.0) (λ e. e.0) y ≡ x → IsGoodList (roll-JsonList x)
list_rolls x y is =
    ap F.are_items (fold-roll-JsonList D.Json D.Items D.Members json_step list_step map_step x)
    ∙ subst (λ z. F.are_items (D.items_of (map view z.items.items)) ≡ true) is (good_items y.items.items)

map_rolls : (x : JsonMap-F Json JsonList JsonMap)
    (y : JsonMap-F ((d : Json) × IsGood d) ((l : JsonList) × IsGoodList l) ((m : JsonMap) × IsGoodMap m))
    → map-JsonMap _ _ _ _ _ _ (λ e. e.0) (λ e. e.0) (λ e. e.0) y ≡ x → IsGoodMap (roll-JsonMap x)
map_rolls x y is =
    ap F.are_members (map_view-roll x)
    ∙ subst (λ z. F.are_members (D.members_of (map member_view z.members.members.items)) ≡ true) is
    (good_members y.members.members.items y.members.rises)

-- each JSON value of the program stands for a well formed one
pub is_json-view : (d : Json) → F.is_json (view d) ≡ true
is_json-view = ind-Json IsGood IsGoodList IsGoodMap json_rolls list_rolls map_rolls

pub are_members-map_view : (m : JsonMap) → F.are_members (map_view m) ≡ true
are_members-map_view = ind-JsonMap IsGood IsGoodList IsGoodMap json_rolls list_rolls map_rolls
