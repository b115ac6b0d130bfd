use Rattle.std.proofs.Common.{◌≡◌, ◌++◌, map, drop}
use Rattle.std.specs.List.{filter_map}
use Rattle.documents.specs.Json.{elements, items_of}
use Rattle.schemas.specs.Entries.{type_named, word}
use Rattle.js_doc.specs.JsonView.{view, list_view}
use Rattle.js_keywords.specs.TypeView.{type_view}
use Rattle.js_reader.proofs.values.add_types.Given as goal

abbrev pub invariant-loop-item : goal.invariant-loop-item
invariant-loop-item l =
    map type_view l.made.items
    ++ filter_map (λ v. type_named (word v)) (elements (items_of (map view (drop l.item-index l.item-items))))
    ≡ map type_view l.initial.made.items ++ filter_map (λ v. type_named (word v)) (elements (list_view l.fn.items))
