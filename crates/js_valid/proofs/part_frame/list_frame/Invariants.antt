use Rattle.std.proofs.Common.{◌≡◌, map, take}
use Rattle.documents.specs.Document.{null}
use Rattle.js_doc.specs.View.{view}
use Rattle.js_valid.proofs.part_frame.list_frame.Given as goal

abbrev pub invariant-loop : goal.invariant-loop
invariant-loop l = map view l.items.items ≡ map (λ i. null) (take l.index l.numbers)
