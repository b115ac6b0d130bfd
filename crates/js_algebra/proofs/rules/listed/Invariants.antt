use Rattle.std.proofs.Common.{◌≡◌, take}
use Rattle.goals.specs.Tree.{choice_list}
use Rattle.js_algebra.specs.Rules.{rule_view}
use Rattle.js_algebra.proofs.rules.listed.Given as goal

abbrev pub invariant-loop-index : goal.invariant-loop-index
invariant-loop-index l = l.lists.items ≡ take l.index (choice_list (rule_view l.rule))
