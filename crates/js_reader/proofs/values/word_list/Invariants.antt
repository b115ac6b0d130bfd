use Rattle.std.proofs.Common.{◌≡◌, ◌++◌, map, drop}
use Rattle.documents.specs.Json.{elements, items_of}
use Rattle.schemas.specs.Entries.{word}
use Rattle.js_doc.specs.JsonView.{view, list_view}
use Rattle.js_reader.proofs.values.word_list.Given as goal

abbrev pub invariant-loop-item : goal.invariant-loop-item
invariant-loop-item l =
    l.made.items ++ map word (elements (items_of (map view (drop l.item-index l.item-items))))
    ≡ map word (elements (list_view l.fn.items))
