use Rattle.std.proofs.Common.{◌≡◌, ◌++◌, drop, flat_map}
use Rattle.patterns.specs.Tree.{one_of}
use Rattle.patterns.specs.Decision.{ends}
use Rattle.js_match.proofs.places.after_one.Given as goal

abbrev pub invariant-loop-start : goal.invariant-loop-start
invariant-loop-start l =
    l.found.items ++ flat_map (ends (one_of l.set) l.word) (drop l.start-index l.starts)
    ≡ flat_map (ends (one_of l.set) l.word) l.starts
