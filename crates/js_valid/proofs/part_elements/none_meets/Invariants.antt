use Rattle.std.proofs.Common.{◌≡◌, List, not, map, drop}
use Rattle.documents.specs.Tests.{every}
use Rattle.schemas.specs.Entry.{Entry}
use Rattle.shared_documents.specs.Part.{Part}
use Rattle.shared_documents.specs.Unshared.{unshared}
use Rattle.js_valid.specs.Plan.{valid_at}
use Rattle.js_valid.specs.PartTables.{KnowsTables}
use Rattle.js_valid.proofs.part_elements.none_meets.Given as goal

abbrev pub invariant-loop-id : goal.invariant-loop-id
invariant-loop-id l = (es : List Entry) (ps : List Part) → KnowsTables es ps l.tables
    → every (λ d. not (valid_at es l.entry d)) (map (λ i. unshared ps i.0) (drop l.id-index l.id-items))
    ≡ every (λ d. not (valid_at es l.entry d)) (map (λ i. unshared ps i.0) l.id-items)
