use Rattle.std.proofs.Common.{◌≡◌, ◌++◌, map, drop}
use Rattle.js_doc.specs.View.{view}
use Rattle.js_valid.specs.Choices.{values_of}
use Rattle.js_valid.proofs.choices.borrowed.Given as goal

abbrev pub invariant-loop-doc : goal.invariant-loop-doc
invariant-loop-doc l = values_of l.values.items ++ map view (drop l.doc-index l.docs) ≡ map view l.docs
