-- The ranks of the entries so far are there.
use Rattle.std.proofs.Common.{◌≡◌, map, take}
use Rattle.js_guard.specs.Searching.{rank_of}
use Rattle.js_guard.proofs.search.Search.ranks.Given as goal

abbrev pub invariant-loop-mark : goal.invariant-loop-mark
invariant-loop-mark l = l.ranks.items ≡ map rank_of (take l.mark-index l.mark-items)
