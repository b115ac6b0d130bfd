use Rattle.std.proofs.Common.{◌≡◌, ◌+◌, map, take, drop, true}
use Rattle.documents.specs.Tests.{every}
use Rattle.js_algebra.specs.View.{places}
use Rattle.js_normal.specs.Room.{has_room}
use Rattle.js_normal.proofs.join.moved_list.Given as goal

abbrev pub invariant-loop-p : goal.invariant-loop-p
invariant-loop-p l = record {
  made : places l.moved.items ≡ map (λ q. l.by + q) (places (take l.p-index l.p-items));
  room : every (has_room l.by) (places (drop l.p-index l.p-items)) ≡ true;
}
