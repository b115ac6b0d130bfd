use Rattle.std.proofs.Common.{◌≡◌, map, codes}
use Rattle.documents.specs.Json as D
use Rattle.families.specs.Objects.{first}
use Rattle.families.specs.Families as F
use Rattle.js_doc.specs.JsonView.{view}
use Rattle.js_gen.proofs.wide.names.Given as goal

abbrev pub invariant-loop-i : goal.invariant-loop-i
invariant-loop-i l = map view l.texts.items ≡ first (λ i. D.string (F.numbered (codes "p") i)) l.i
