use Rattle.std.proofs.Common.{◌≡◌, List, ◌++◌, map, String, Global}
use Rattle.js_doc.specs.declared.json.Json.{Json}
use Rattle.js_doc.specs.JsonView.{view, member_view}
use Rattle.js_json.specs.Reading.{spelled_by}
use Rattle.js_json.proofs.json_reader.members_from.Given as goal

abbrev pub invariant-loop-key : goal.invariant-loop-key
invariant-loop-key l =
    (done : List (String Global × Json)) × (l.fn.found.entries ≡ done ++ l.key-iterator)
    × (map member_view l.made.items ≡ map (spelled_by view) done)
