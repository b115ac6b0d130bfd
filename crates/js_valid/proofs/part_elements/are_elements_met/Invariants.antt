use Rattle.std.proofs.Common.{◌≡◌, List, map, drop}
use Rattle.documents.specs.Tests.{every}
use Rattle.schemas.specs.Entry.{Entry}
use Rattle.shared_documents.specs.Part.{Part}
use Rattle.shared_documents.specs.Unshared.{unshared}
use Rattle.js_schema.specs.View.{form_view}
use Rattle.js_valid.specs.Parts.{of_element}
use Rattle.js_valid.specs.Plan.{valid_at}
use Rattle.js_valid.specs.PartTables.{KnowsTables}
use Rattle.js_valid.specs.Requests.{each_at}
use Rattle.js_valid.proofs.part_elements.are_elements_met.Given as goal

abbrev pub invariant-loop-place : goal.invariant-loop-place
invariant-loop-place l = (es : List Entry) (ps : List Part) → KnowsTables es ps l.tables
    → each_at (λ i d. every (λ q. valid_at es q d) (of_element (form_view l.form) i)) l.place
    (map (λ i. unshared ps i.0) (drop l.place l.numbers))
    ≡ each_at (λ i d. every (λ q. valid_at es q d) (of_element (form_view l.form) i)) 0
    (map (λ i. unshared ps i.0) l.numbers)
