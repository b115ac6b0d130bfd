use Rattle.std.proofs.Common.{◌<◌, ◌≤◌, map, length, arith, ap, ◌∙◌}
use Rattle.normal_forms.specs.Nodes.{each}
use Rattle.normal_forms.specs.KeywordNodes.{dependency_node}
use Rattle.js_schema.specs.View.{dependency_view}
use Rattle.js_values.specs.Runs.{run}
use Rattle.js_values.proofs.RunLemmas.{each-step, each-end}
use Rattle.js_normal.proofs.keywords.dependency_nodes.Goals as goal

pub loop-dependency-preserved : goal.loop-dependency-preserved
loop-dependency-preserved c =
    let items = c.as_slice-dependency-items.result.now in
    let within : c.loop-dependency.dependency-index < length items = omega arith in
    let s = c.loop-dependency.sink in
    each-step dependency_node dependency_view items c.loop-dependency.dependency-index
    c.dependency-item.result s c.dependency_node.new.sink
    (run (each dependency_node (map dependency_view items))
    c.args.sink.now) within c.dependency-item.is
    (c.in_ok-dependency_node.ensures)
    c.loop-dependency.invariant

pub returns : goal.returns
returns c =
    let items = c.as_slice-dependency-items.result.now in
    let past : length items ≤ c.loop-dependency.dependency-index = omega arith in
    let start = c.args.sink.now in
    each-end dependency_node dependency_view items c.loop-dependency.dependency-index
    c.loop-dependency.sink
    (run (each dependency_node (map dependency_view items)) start) past c.loop-dependency.invariant
    ∙ ap (λ xs. run (each dependency_node xs) start) (ap (map dependency_view) c.as_slice-dependency-items.ensures)
