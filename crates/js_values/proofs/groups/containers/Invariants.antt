use Rattle.std.proofs.Common.{◌≡◌, map, drop}
use Rattle.normal_forms.specs.Nodes.{each}
use Rattle.js_doc.specs.View.{view}
use Rattle.js_values.specs.Runs.{run}
use Rattle.js_values.specs.GroupMakers.{container_maker}
use Rattle.js_values.proofs.groups.containers.Given as goal

abbrev pub invariant-loop-doc : goal.invariant-loop-doc
invariant-loop-doc l =
    run (each container_maker (map view l.doc-items)) l.fn.sink
    ≡ run (each container_maker (map view (drop l.doc-index l.doc-items))) l.sink
