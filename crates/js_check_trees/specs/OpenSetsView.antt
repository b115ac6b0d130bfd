-- What contracts see of open sets.
use Rattle.std.specs.Prelude.{List, ◌∷◌, reverse, Bool, cond}
use Rattle.documents.specs.Kind.{Kind}
use Rattle.positions.specs.Position.{Position}
use Rattle.goals.specs.Signed.{Signed}
use Rattle.verdicts.specs.Duties.{Duty, OfSet}
use Rattle.js_algebra.specs.View.{kind_view}
use Rattle.js_algebra.specs.SignedSets.{set_of}
use Rattle.js_check_trees.specs.declared.open_sets.OpenSets.{OpenSets}
use Rattle.js_check_trees.specs.Choosing.{duties_left}

abbrev pub table_of : OpenSets → List Position
table_of o = o.core.now.positions

abbrev pub kind_of : OpenSets → Kind
kind_of o = kind_view o.kind

-- a set is at hand
abbrev pub has_set : OpenSets → Bool
has_set o = o.at_hand

abbrev pub set_at_hand : OpenSets → List Signed
set_at_hand o = set_of o.set

-- the duties after the set at hand
abbrev pub duties_after : OpenSets → List Duty
duties_after o = duties_left (table_of o) (kind_of o) o.set (reverse o.pending.items)

-- no document of the kind meets the set at hand, nor those of the choices that are left
abbrev pub duties_of : OpenSets → List Duty
duties_of o = cond (has_set o) (OfSet (kind_of o) (set_at_hand o) ∷ duties_after o) (duties_after o)
