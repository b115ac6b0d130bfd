-- The tree by which a pattern's text matches, for every text.
use Rattle.std.specs.Prelude.{ℕ, List, [], Result, Ok, Err}
use Rattle.patterns.specs.Tree.{Tree, one_of}
use Rattle.js_pattern.specs.declared.fault.PatternFault.{PatternFault}
use Rattle.js_pattern.specs.Grammar.{pattern}

-- a set without members matches nothing
abbrev pub tree_or_none : Result Tree PatternFault → Tree
tree_or_none (Ok t) = t
tree_or_none (Err f) = one_of []

abbrev pub tree_of : List ℕ → Tree
tree_of t = tree_or_none (pattern t)
