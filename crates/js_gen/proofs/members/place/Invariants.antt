use Rattle.std.proofs.Common.{map}
use Rattle.js_doc.specs.JsonView.{member_view}
use Rattle.js_gen.specs.Places.{names, AreBefore}
use Rattle.js_gen.proofs.members.place.Given as goal

abbrev pub invariant-loop-i : goal.invariant-loop-i
invariant-loop-i l = AreBefore (names (map member_view l.members)) l.name l.i
