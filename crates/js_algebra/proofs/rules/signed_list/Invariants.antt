use Rattle.std.proofs.Common.{◌≡◌, map, take}
use Rattle.js_algebra.specs.View.{signed_view}
use Rattle.js_algebra.specs.Rules.{choice_view}
use Rattle.js_algebra.proofs.rules.signed_list.Given as goal

abbrev pub invariant-loop-k : goal.invariant-loop-k
invariant-loop-k l = map signed_view l.list.items ≡ take l.k (choice_view l.choice)
