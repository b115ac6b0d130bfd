-- Whether a text is a pattern of a tree, as a test.
use Rattle.std.specs.Prelude.{ℕ, List, Bool, false, Result, Ok, Err}
use Rattle.patterns.specs.Tree.{Tree}
use Rattle.patterns.specs.SameTree.{same_tree}
use Rattle.js_pattern.specs.declared.fault.PatternFault.{PatternFault}
use Rattle.js_pattern.specs.Grammar.{pattern}

abbrev pub is_read_as : Result Tree PatternFault → Tree → Bool
is_read_as (Ok u) t = same_tree u t
is_read_as (Err f) t = false

abbrev pub is_tree_of : List ℕ → Tree → Bool
is_tree_of w t = is_read_as (pattern w) t
