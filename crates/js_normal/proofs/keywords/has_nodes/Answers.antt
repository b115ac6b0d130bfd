use Rattle.std.proofs.Common.{◌<◌, ◌≤◌, map, length, arith, ap, ◌∙◌}
use Rattle.normal_forms.specs.Nodes.{node, each}
use Rattle.positions.specs.Position.{Has}
use Rattle.js_values.proofs.RunLemmas.{map-same}
use Rattle.js_values.specs.Runs.{run}
use Rattle.js_values.proofs.RunLemmas.{each-step, each-end}
use Rattle.js_normal.proofs.keywords.has_nodes.Goals as goal

pub loop-word-preserved : goal.loop-word-preserved
loop-word-preserved c =
    let items = c.as_slice-word-items.result.now in
    let within : c.loop-word.word-index < length items = omega arith in
    let s = c.loop-word.sink in
    each-step (λ w. node (Has w)) (λ w. w) items c.loop-word.word-index
    c.word-item.result s c.push.new.self
    (run (each (λ w. node (Has w)) (map (λ w. w) items))
    c.args.sink.now) within c.word-item.is
    (c.in_ok-push.ensures ∙ ap (λ w. run (node (Has w)) s) c.in_ok-copy.ensures)
    c.loop-word.invariant

pub returns : goal.returns
returns c =
    let items = c.as_slice-word-items.result.now in
    let past : length items ≤ c.loop-word.word-index = omega arith in
    let start = c.args.sink.now in
    each-end (λ w. node (Has w)) (λ w. w) items c.loop-word.word-index
    c.loop-word.sink
    (run (each (λ w. node (Has w)) (map (λ w. w) items)) start) past c.loop-word.invariant
    ∙ ap (λ xs. run (each (λ w. node (Has w)) xs) start) (map-same items ∙ c.as_slice-word-items.ensures)
