-- A tree's lines, step by step.
use Rattle.std.proofs.Common.{◌≡◌, true, List, [], ◌∷◌, ◌++◌, Option, Some, refl, ap, ◌∙◌, subst}
use Rattle.std.proofs.lemmas.Bool.{and_from}
use Rattle.documents.specs.Kind.{Kind}
use Rattle.positions.specs.Position.{Position}
use Rattle.goals.specs.Signed as G
use Rattle.certificate_lines.specs.Line.{Line}
use Rattle.refutations.specs.TreeLines.{step_lines, tree_lines}
use Rattle.js_algebra.specs.View.{is_in_table, are_in_table}
use Rattle.js_tableau.specs.Walks.{step_view}
use Rattle.js_tableau.specs.Progress.{left, told_set, IsTree, AfterStep}
use Rattle.js_tableau.specs.declared.walk.Step.{Step}
use Rattle.js_tableau.specs.declared.visits.Tree.{Tree}
use Rattle.js_goal_lines.proofs.Adding.{told-all}
use Rattle.goal_laws.proofs.Signs.{every-add_all}

module _ (T : List Position) (t : Kind) where
  -- the set of the last step is in the table
  pub set-inside : (tree : Tree) → IsTree T t tree → are_in_table T (told_set tree) ≡ true
  set-inside tree is =
      every-add_all (is_in_table T) tree.walk.trail [] ∙ and_from _ _ is.stands.in_table refl

  module _ (leaf : List G.Signed → List Line) (old new : Tree) (o : Option Step) (after : AfterStep T t old new o) where
    abbrev step-told : (s : Step) → o ≡ Some s → left T t old ≡ step_view T t (told_set new) s ∷ left T t new
    step-told s e = (subst (AfterStep T t old new) e after).told

    -- one more step
    pub step-more : (s : Step) → o ≡ Some s → (now added all : List Line)
        → added ≡ now ++ step_lines leaf (step_view T t (told_set new) s)
        → now ++ tree_lines leaf (left T t old) ≡ all → added ++ tree_lines leaf (left T t new) ≡ all
    step-more s e now added all h sum =
        told-all now added (tree_lines leaf (left T t old)) (tree_lines leaf (left T t new))
        (step_lines leaf (step_view T t (told_set new) s)) all h (ap (tree_lines leaf) (step-told s e)) sum
