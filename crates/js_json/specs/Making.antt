-- What the steps of making a document say of those of its parts.
use Rattle.std.specs.Prelude.{◌≡◌, ℕ, List, [], Some, Result, Ok, Err, reverse, slice_get}
use Rattle.documents.specs.Json as J
use Rattle.js_doc.specs.declared.document.Doc.{Doc}
use Rattle.js_doc.specs.declared.document.DocList.{DocList}
use Rattle.js_doc.specs.declared.document.DocMap.{DocMap}
use Rattle.js_doc.specs.View.{view, list_view, map_view}
use Rattle.js_json.specs.declared.fault.JsonFault.{JsonFault}
use Rattle.js_json.specs.declared.fault.JsonFault.TheVariants.{NotJson, NotWhole, Memory}
use Rattle.js_json.specs.Documents.{json_of_document, json_of_items, json_of_members, unwhole_places, places_in_items, places_in_members}

-- the fault names the first of the places, its tokens innermost first
abbrev pub TellsFirst : List (List (List ℕ)) → JsonFault → Type 0
TellsFirst places NotJson = ⊥
TellsFirst places (NotWhole tokens) = slice_get places 0 ≡ Some (reverse tokens)
TellsFirst places Memory = Unit {0}

-- the document that the value is, or the first place of a number that isn't whole
abbrev pub MakesOrTells : J.Json → Result Doc JsonFault → Type 0
MakesOrTells j (Ok d) = (json_of_document (view d) ≡ j) × (unwhole_places j ≡ [])
MakesOrTells j (Err fault) = TellsFirst (unwhole_places j) fault

abbrev pub MakesItemsOrTells : J.Items → Result DocList JsonFault → Type 0
MakesItemsOrTells ds (Ok l) = (json_of_items (list_view l) ≡ ds) × (places_in_items 0 ds ≡ [])
MakesItemsOrTells ds (Err fault) = TellsFirst (places_in_items 0 ds) fault

abbrev pub MakesMembersOrTells : J.Members → Result DocMap JsonFault → Type 0
MakesMembersOrTells ms (Ok m) = (json_of_members (map_view m) ≡ ms) × (places_in_members ms ≡ [])
MakesMembersOrTells ms (Err fault) = TellsFirst (places_in_members ms) fault
