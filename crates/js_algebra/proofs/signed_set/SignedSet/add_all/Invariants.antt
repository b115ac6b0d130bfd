-- What is left of the list is still to be added, and what was there first is there still.
use Rattle.std.proofs.Common.{◌≡◌, map, drop, take, length}
use Rattle.js_algebra.specs.View.{signed_view}
use Rattle.js_algebra.specs.SignedSets.{with_members}
use Rattle.js_algebra.proofs.signed_set.SignedSet.add_all.Given as goal

abbrev pub invariant-loop-x : goal.invariant-loop-x
invariant-loop-x l = record {
  members :
      with_members (map signed_view (drop l.x-index l.list)) l.self ≡ with_members (map signed_view l.list) l.fn.self;
  first : take (length l.fn.self) l.self ≡ l.fn.self;
}
