use Rattle.std.proofs.Common.{◌≡◌, List, ◌++◌, map, String, Global}
use Rattle.js_doc.specs.declared.document.Doc.{Doc}
use Rattle.js_json.specs.DocumentView.{as_json}
use Rattle.js_json.specs.Reading.{spelled_by}
use Rattle.js_json.proofs.DocumentsLemmas.{json_of_member}
use Rattle.js_json.proofs.doc_reader.members_from.Given as goal

abbrev pub invariant-loop-key : goal.invariant-loop-key
invariant-loop-key l =
    (done : List (String Global × Doc)) × (l.fn.found.entries ≡ done ++ l.key-iterator)
    × (map json_of_member l.made.items ≡ map (spelled_by as_json) done)
