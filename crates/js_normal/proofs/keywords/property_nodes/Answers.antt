use Rattle.std.proofs.Common.{◌<◌, ◌≤◌, map, length, arith, ap, ◌∙◌}
use Rattle.normal_forms.specs.Nodes.{node, each}
use Rattle.positions.specs.Position.{MembersOf, Named}
use Rattle.js_schema.specs.View.{property_view}
use Rattle.js_values.specs.Runs.{run}
use Rattle.js_values.proofs.RunLemmas.{each-step, each-end}
use Rattle.js_normal.proofs.keywords.property_nodes.Goals as goal

pub loop-property-preserved : goal.loop-property-preserved
loop-property-preserved c =
    let items = c.as_slice-property-items.result.now in
    let within : c.loop-property.property-index < length items = omega arith in
    let s = c.loop-property.sink in
    each-step (λ p. node (MembersOf (Named p.0) p.1)) property_view items c.loop-property.property-index
    c.property-item.result s c.push.new.self
    (run (each (λ p. node (MembersOf (Named p.0) p.1)) (map property_view items))
    c.args.sink.now) within c.property-item.is
    (c.in_ok-push.ensures
    ∙ ap (λ w. run (node (MembersOf (Named w) c.property-item.result.entry)) s) c.in_ok-copy.ensures)
    c.loop-property.invariant

pub returns : goal.returns
returns c =
    let items = c.as_slice-property-items.result.now in
    let past : length items ≤ c.loop-property.property-index = omega arith in
    let start = c.args.sink.now in
    each-end (λ p. node (MembersOf (Named p.0) p.1)) property_view items c.loop-property.property-index
    c.loop-property.sink
    (run (each (λ p. node (MembersOf (Named p.0) p.1)) (map property_view items)) start) past c.loop-property.invariant
    ∙ ap (λ xs. run (each (λ p. node (MembersOf (Named p.0) p.1)) xs) start)
    (ap (map property_view) c.as_slice-property-items.ensures)
