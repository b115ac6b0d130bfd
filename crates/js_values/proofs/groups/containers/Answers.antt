use Rattle.std.proofs.Common.{◌<◌, ◌≤◌, map, length, filter, arith, sym, ap, ◌∙◌}
use Rattle.normal_forms.specs.Nodes.{each}
use Rattle.normal_forms.specs.Values.{value_node}
use Rattle.normal_forms.specs.KeywordNodes.{is_container}
use Rattle.js_doc.specs.View.{view, list_view}
use Rattle.js_doc.proofs.Levels.{elements-of}
use Rattle.js_values.specs.Runs.{run}
use Rattle.js_values.specs.GroupMakers.{container_maker}
use Rattle.js_values.proofs.RunLemmas.{each-step, each-end, run-filter}
use Rattle.js_values.proofs.groups.containers.Goals as goal

pub loop-doc-preserved : goal.loop-doc-preserved
loop-doc-preserved c =
    let within : c.loop-doc.doc-index < length c.as_slice-doc-items.result.now = omega arith in
    each-step container_maker view c.as_slice-doc-items.result.now c.loop-doc.doc-index c.doc-item.result
    c.loop-doc.sink
    c.container.new.sink
    (run (each container_maker (map view c.as_slice-doc-items.result.now))
    c.args.sink.now)
    within c.doc-item.is c.in_ok-container.ensures c.loop-doc.invariant

pub returns : goal.returns
returns c =
    let items = c.as_slice-doc-items.result.now in
    let past : length items ≤ c.loop-doc.doc-index = omega arith in
    let start = c.args.sink.now in
    each-end container_maker view items c.loop-doc.doc-index c.loop-doc.sink
    (run (each container_maker (map view items)) start) past c.loop-doc.invariant
    ∙ sym (run-filter is_container value_node (map view items) start)
    ∙ ap (λ ds. run (each value_node (filter is_container ds)) start)
    (sym (elements-of (map view items) (list_view c.args.values.now) c.as_slice-doc-items.ensures.view))
