use Rattle.std.proofs.Common.{◌≡◌, take}
use Rattle.js_doc.proofs.lists.StrList.copy.Given as goal

abbrev pub invariant-loop-text : goal.invariant-loop-text
invariant-loop-text l = l.items.items ≡ take l.text-index l.self
