use Rattle.std.proofs.Common.{◌≡◌, map, drop}
use Rattle.std.specs.Ordering.{int_eq}
use Rattle.std.specs.List.{filter_map}
use Rattle.documents.specs.Document.{elements}
use Rattle.normal_forms.specs.KeywordNodes.{once, number_in}
use Rattle.js_doc.specs.View.{view, list_view}
use Rattle.js_values.specs.Distinct.{add_all, numbers_of}
use Rattle.js_values.proofs.groups.numbers_in.Given as goal

abbrev pub invariant-loop-doc : goal.invariant-loop-doc
invariant-loop-doc l =
    once int_eq (filter_map number_in (elements (list_view l.values)))
    ≡ add_all int_eq (numbers_of l.numbers) (filter_map number_in (map view (drop l.doc-index l.doc-items)))
