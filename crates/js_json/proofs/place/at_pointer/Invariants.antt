use Rattle.std.proofs.Common.{◌≡◌, drop}
use Rattle.js_doc.specs.JsonView.{view}
use Rattle.documents.specs.Place.{value_at}
use Rattle.js_json.proofs.place.at_pointer.Given as goal

abbrev pub invariant-loop-token : goal.invariant-loop-token
invariant-loop-token l = value_at (drop l.token-index l.tokens) (view l.here) ≡ value_at l.tokens (view l.fn.json)
