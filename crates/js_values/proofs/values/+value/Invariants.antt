use Rattle.std.proofs.Common.{◌≡◌, ◌+◌, ◌*◌, map, drop}
use Rattle.normal_forms.specs.Nodes.{each}
use Rattle.normal_forms.specs.Values.{value_node}
use Rattle.js_doc.specs.declared.document.Doc.{size-Doc}
use Rattle.js_doc.specs.declared.document.DocList.{size-DocList}
use Rattle.js_doc.specs.declared.document.DocMap.{size-DocMap}
use Rattle.js_doc.specs.View.{view, member_view}
use Rattle.js_values.specs.Runs.{run}
use Rattle.js_values.specs.MemberMaker.{member_maker}
use Rattle.js_values.proofs.values.+value.Given as goal

abbrev pub invariant-item_nodes-loop-doc : goal.invariant-item_nodes-loop-doc
invariant-item_nodes-loop-doc l =
    run (each value_node (map view l.doc-items)) l.fn.sink
    ≡ run (each value_node (map view (drop l.doc-index l.doc-items))) l.sink

abbrev pub invariant-member_nodes-loop-member : goal.invariant-member_nodes-loop-member
invariant-member_nodes-loop-member l =
    run (each member_maker (map member_view l.member-items)) l.fn.sink
    ≡ run (each member_maker (map member_view (drop l.member-index l.member-items)))
    l.sink

abbrev pub decreases-value_node : goal.decreases-value_node
decreases-value_node l = 8 * size-Doc l.doc.now

abbrev pub decreases-array_node : goal.decreases-array_node
decreases-array_node l = 8 * size-DocList l.list.now + 3

abbrev pub decreases-elements_node : goal.decreases-elements_node
decreases-elements_node l = 8 * size-DocList l.list.now + 2

abbrev pub decreases-item_nodes : goal.decreases-item_nodes
decreases-item_nodes l = 8 * size-DocList l.list.now + 1

abbrev pub decreases-object_node : goal.decreases-object_node
decreases-object_node l = 8 * size-DocMap l.members.now + 3

abbrev pub decreases-member_nodes : goal.decreases-member_nodes
decreases-member_nodes l = 8 * size-DocMap l.members.now + 2

abbrev pub decreases-member_node : goal.decreases-member_node
decreases-member_node l = 8 * size-Doc l.member.now.value + 1
