-- What is left of the choice is still to be added, and what was there first is there still.
use Rattle.std.proofs.Common.{◌≡◌, drop, take, length}
use Rattle.js_algebra.specs.Rules.{choice_view}
use Rattle.js_algebra.specs.SignedSets.{with_members}
use Rattle.js_algebra.proofs.signed_set.SignedSet.add_each.Given as goal

abbrev pub invariant-loop-k : goal.invariant-loop-k
invariant-loop-k l = record {
  members : with_members (drop l.k (choice_view l.choice)) l.self ≡ with_members (choice_view l.choice) l.fn.self;
  first : take (length l.fn.self) l.self ≡ l.fn.self;
}
