-- The lines of a tree, where those of its saturated ends are known.
use Rattle.std.specs.Prelude.{List, [], ◌∷◌, flat_map}
use Rattle.goals.specs.Signed.{Signed}
use Rattle.goals.specs.Tree.{Step, Clash, Wrong, Rule, Saturated}
use Rattle.certificate_lines.specs.Line as L
use Rattle.certificate_lines.specs.Line.{Line}

module _ (leaf : List Signed → List Line) where
  abbrev pub step_lines : Step → List Line
  step_lines (Clash p) = L.Clash p ∷ []
  step_lines (Wrong x) = L.OfKind x ∷ []
  step_lines (Rule x cs) = L.Rule x ∷ []
  step_lines (Saturated S) = leaf S

  -- in pre-order, as the steps are
  abbrev pub tree_lines : List Step → List Line
  tree_lines ss = flat_map step_lines ss
