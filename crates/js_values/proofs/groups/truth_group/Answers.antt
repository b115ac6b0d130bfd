use Rattle.std.proofs.Common.{map, true, false, sym, ap, ◌∙◌}
use Rattle.std.proofs.lemmas.Result.{IfOk-equal}
use Rattle.std.specs.List.{filter_map}
use Rattle.documents.specs.Document.{elements}
use Rattle.positions.specs.Position.{Types}
use Rattle.normal_forms.specs.Nodes.{node}
use Rattle.normal_forms.specs.KeywordNodes.{truth_in}
use Rattle.js_doc.specs.View.{list_view}
use Rattle.js_algebra.specs.View.{kind_view}
use Rattle.js_values.specs.Runs.{run}
use Rattle.js_values.proofs.RunLemmas.{run-nothing}
use Rattle.js_values.proofs.GroupLemmas.{truths-found}
use Rattle.js_values.proofs.groups.truth_group.Goals as goal

pub returns-in_ok-kinds-in-true-true : goal.returns-in_ok-kinds-in-true-true
returns-in_ok-kinds-in-true-true c =
    let s = c.args.sink.now in
    IfOk-equal c.push.result _ _ _ c.push.ensures
    (ap (λ ks. run (node (Types (map kind_view ks))) s) c.in_ok-kinds-in-true-true.ensures
    ∙ truths-found (filter_map truth_in (elements (list_view c.args.values.now))) true true s c.in-true-true.ensures
    c.in-true-true.ensures')

pub returns-in-false-false : goal.returns-in-false-false
returns-in-false-false c =
    let s = c.args.sink.now in
    sym (run-nothing s)
    ∙ truths-found (filter_map truth_in (elements (list_view c.args.values.now))) false false s
    c.in-false-false.ensures c.in-false-false.ensures'
