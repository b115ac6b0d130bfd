-- What the trees of a goal have left to show.
use Rattle.std.specs.Prelude.{List, [], ◌∷◌, ◌++◌, map, Bool, ◌||◌, Option, Some, None, is_some}
use Rattle.documents.specs.Kind as K
use Rattle.documents.specs.Kind.{Kind, all_kinds}
use Rattle.goals.specs.Signed.{Signed}
use Rattle.verdicts.specs.Duties.{Duty, AtKind}
use Rattle.js_algebra.specs.declared.node.JsonKind.{JsonKind}
use Rattle.js_algebra.specs.declared.node.JsonKind.TheVariants as V
use Rattle.js_checker.specs.Duties.{any_left}
use Rattle.js_checker.specs.TreeView.{tree_duties}
use Rattle.js_checker.specs.declared.entry.EntryCheck.{EntryCheck}

-- the kinds from that one on
abbrev pub kinds_from : Option JsonKind → List Kind
kinds_from None = []
kinds_from (Some V.Null) = all_kinds
kinds_from (Some V.Boolean) = K.Boolean ∷ K.Number ∷ K.Text ∷ K.Array ∷ K.Object ∷ []
kinds_from (Some V.Number) = K.Number ∷ K.Text ∷ K.Array ∷ K.Object ∷ []
kinds_from (Some V.Text) = K.Text ∷ K.Array ∷ K.Object ∷ []
kinds_from (Some V.Array) = K.Array ∷ K.Object ∷ []
kinds_from (Some V.Object) = K.Object ∷ []

-- a duty for each kind
abbrev pub kind_duties : List Signed → List Kind → List Duty
kind_duties g ts = map (λ t. AtKind t g) ts

-- the duties of the goal g that are left
abbrev pub goal_duties : List Signed → EntryCheck → List Duty
goal_duties g e = tree_duties e.tree ++ kind_duties g (kinds_from e.kind)

-- something is left
abbrev pub is_busy : EntryCheck → Bool
is_busy e = any_left (tree_duties e.tree) || is_some e.kind
