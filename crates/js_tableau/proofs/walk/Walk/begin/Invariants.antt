-- What is left of the list is still to be added.
use Rattle.std.proofs.Common.{◌≡◌, [], map, drop}
use Rattle.js_algebra.specs.View.{signed_view}
use Rattle.js_algebra.specs.SignedSets.{with_members}
use Rattle.js_tableau.specs.Walks.{IsCovered}
use Rattle.js_tableau.proofs.walk.Walk.begin.Given as goal

abbrev pub invariant-loop-x : goal.invariant-loop-x
invariant-loop-x l = record {
  members : with_members (map signed_view (drop l.x-index l.list)) l.self.trail
      ≡ with_members (map signed_view l.list) [];
  settled : l.self.settled.items ≡ [];
  covered : IsCovered l.self;
}
