-- The JSON value that a `Json` stands for.
use Rattle.std.specs.Prelude.{ℕ, List}
use Rattle.documents.specs.Json as D
use Rattle.js_doc.specs.declared.json.Json.{Json, fold-Json}
use Rattle.js_doc.specs.declared.json.Json.TheOpen.{Json-F, JsonList-F, JsonMap-F}
use Rattle.js_doc.specs.declared.json.JsonList.{JsonList, fold-JsonList}
use Rattle.js_doc.specs.declared.json.JsonMap.{JsonMap, fold-JsonMap}
use Rattle.js_doc.specs.declared.rising.Named.{Named}
use Rattle.js_doc.specs.Names.{pairs_of}

abbrev pub json_step : Json-F D.Json D.Items D.Members → D.Json
json_step Json-F.Null = D.null
json_step (Json-F.Bool b) = D.boolean b
json_step (Json-F.Num n) = D.number n
json_step Json-F.NotWhole = D.not_whole
json_step (Json-F.Text w) = D.string w.text
json_step (Json-F.List ds) = D.array ds
json_step (Json-F.Members ms) = D.object ms

abbrev pub list_step : JsonList-F D.Json D.Items D.Members → D.Items
list_step l = D.items_of l.items.items

abbrev pub map_step : JsonMap-F D.Json D.Items D.Members → D.Members
map_step m = D.members_of (pairs_of m.members.members.items)

abbrev pub view : Json → D.Json
view = fold-Json D.Json D.Items D.Members json_step list_step map_step

abbrev pub list_view : JsonList → D.Items
list_view = fold-JsonList D.Json D.Items D.Members json_step list_step map_step

abbrev pub map_view : JsonMap → D.Members
map_view = fold-JsonMap D.Json D.Items D.Members json_step list_step map_step

abbrev pub member_view : Named Json → List ℕ × D.Json
member_view m = (m.name.text, view m.value)
