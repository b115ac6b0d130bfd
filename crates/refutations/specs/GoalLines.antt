-- The lines of a goal that no document meets.
use Rattle.std.specs.Prelude.{ℕ, List, [], ◌∷◌, flat_map, true, Bool, Option, Some}
use Rattle.documents.specs.Kind as K
use Rattle.documents.specs.Kind.{Kind, all_kinds}
use Rattle.positions.specs.Position.{Position}
use Rattle.goals.specs.Signed.{Signed}
use Rattle.goals.specs.Tree.{steps}
use Rattle.frames.specs.ArrayFrame.{array_frame}
use Rattle.certificate_lines.specs.Line as L
use Rattle.certificate_lines.specs.Line.{Line}
use Rattle.verdicts.specs.Leaves.{crossed}
use Rattle.verdicts.specs.Duties.{OfArrays}
use Rattle.refutations.specs.TreeLines.{tree_lines}
use Rattle.refutations.specs.StringLines.{string_lines}
use Rattle.refutations.specs.PlanTreeLines.{plan_lines}
use Rattle.refutations.specs.ObjectLines.{object_lines}

-- where bounds are crossed, this is said alone
abbrev pub unless_crossed : Option Bool → List Line → List Line
unless_crossed (Some true) ls = L.Count ∷ []
unless_crossed _ ls = ls

-- `number`: the number of a goal that no document meets; a goal without number counts as met
module _ (number : List Signed → Option ℕ) (T : List Position) where
  -- null has no lines: a saturated set is met there
  abbrev pub open_lines : Kind → List Signed → List Line
  open_lines K.Null S = []
  open_lines K.Boolean S = L.NoTruth ∷ []
  open_lines K.Number S = L.NoNumber ∷ []
  open_lines K.Text S = string_lines T S
  open_lines K.Array S = L.Arrays ∷ plan_lines number OfArrays T (array_frame T S)
  open_lines K.Object S = object_lines number T S

  abbrev pub leaf_lines : Kind → List Signed → List Line
  leaf_lines t S = unless_crossed (crossed T S t) (open_lines t S)

  abbrev pub kind_lines : List Signed → Kind → List Line
  kind_lines g t = L.At t ∷ tree_lines (leaf_lines t) (steps T t g)

  -- of its trees at all kinds, without the line that names the goal
  unfoldable pub goal_lines : List Signed → List Line
  goal_lines g = flat_map (kind_lines g) all_kinds
