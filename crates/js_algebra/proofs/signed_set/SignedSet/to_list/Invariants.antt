-- The members that were listed, and those that are left, are all.
use Rattle.std.proofs.Common.{◌≡◌, ◌++◌, map, drop, true}
use Rattle.js_algebra.specs.View.{signed_view}
use Rattle.js_algebra.specs.Numbers.{signed_at, are_numbers}
use Rattle.js_algebra.proofs.signed_set.SignedSet.to_list.Given as goal

abbrev pub invariant-loop-number : goal.invariant-loop-number
invariant-loop-number l = record {
  listed : map signed_view l.items.items ++ map signed_at (drop l.number-index l.number-items) ≡ l.self;
  numbers : are_numbers (drop l.number-index l.number-items) ≡ true;
}
