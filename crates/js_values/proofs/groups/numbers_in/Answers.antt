use Rattle.std.proofs.Common.{◌<◌, map, length, arith, sym, ap, ◌∙◌}
use Rattle.std.specs.Ordering.{int_eq}
use Rattle.std.specs.List.{filter_map}
use Rattle.documents.specs.Document.{elements}
use Rattle.normal_forms.specs.KeywordNodes.{once, number_in}
use Rattle.js_doc.specs.View.{view, list_view}
use Rattle.js_doc.proofs.Levels.{elements-of}
use Rattle.js_values.specs.Distinct.{add_all, numbers_of}
use Rattle.js_values.proofs.OnceLaws.{add_all-once, added-step}
use Rattle.js_values.proofs.groups.numbers_in.Goals as goal

pub loop-doc-init : goal.loop-doc-init
loop-doc-init c =
    ap (λ ds. once int_eq (filter_map number_in ds))
    (elements-of (map view c.as_slice-doc-items.result.now) (list_view c.args.values.now)
    c.as_slice-doc-items.ensures.view)
    ∙ sym (add_all-once int_eq (filter_map number_in (map view c.as_slice-doc-items.result.now)))
    ∙ ap (λ ks. add_all int_eq ks (filter_map number_in (map view c.as_slice-doc-items.result.now)))
    (sym c.new-numbers.ensures)

pub loop-doc-preserved : goal.loop-doc-preserved
loop-doc-preserved c =
    let within : c.loop-doc.doc-index < length c.as_slice-doc-items.result.now = omega arith in
    added-step int_eq number_in view c.as_slice-doc-items.result.now c.loop-doc.doc-index c.doc-item.result
    (numbers_of c.loop-doc.numbers) (numbers_of c.add_number.new.numbers)
    (once int_eq (filter_map number_in (elements (list_view c.args.values.now))))
    within c.doc-item.is c.in_ok-add_number.ensures c.loop-doc.invariant
