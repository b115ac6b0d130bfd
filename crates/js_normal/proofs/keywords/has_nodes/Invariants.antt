use Rattle.std.proofs.Common.{◌≡◌, map, drop}
use Rattle.normal_forms.specs.Nodes.{node, each}
use Rattle.positions.specs.Position.{Has}
use Rattle.js_values.specs.Runs.{run}
use Rattle.js_normal.proofs.keywords.has_nodes.Given as goal

abbrev pub invariant-loop-word : goal.invariant-loop-word
invariant-loop-word l =
    run (each (λ w. node (Has w)) (map (λ w. w) l.word-items)) l.fn.sink
    ≡ run (each (λ w. node (Has w)) (map (λ w. w) (drop l.word-index l.word-items)))
    l.sink
