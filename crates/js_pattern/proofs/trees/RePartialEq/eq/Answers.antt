use Rattle.std.proofs.lemmas.Bool.Decides.{same_from_decides}
use Rattle.pattern_laws.proofs.SameTrees.{same_tree-Decides}
use Rattle.js_pattern.proofs.trees.RePartialEq.eq.Goals as goal

pub returns : goal.returns
returns c = same_from_decides _ _ c.same.ensures (same_tree-Decides _ _)
