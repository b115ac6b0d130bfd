-- What a line makes of duties, whatever may be cited.
use Rattle.std.specs.Prelude.{◌≡◌, ℕ, List, [], ◌∷◌, Bool, false, Ok}
use Rattle.documents.specs.Kind as K
use Rattle.documents.specs.Kind.{Kind, same_kind}
use Rattle.positions.specs.Position.{Position}
use Rattle.goals.specs.Signed.{Signed}
use Rattle.certificate_lines.specs.Line as L
use Rattle.certificate_lines.specs.Line.{Line}
use Rattle.verdicts.specs.Duties.{Duty, run}
use Rattle.js_rules.specs.declared.fault.RuleFault.{RuleFault}
use Rattle.js_rules.specs.Told.{Breaks}

-- the line begins the rows or the plan of a leaf of the kind
abbrev pub begins_leaf : Kind → Line → Bool
begins_leaf t (L.Strings count) = same_kind K.Text t
begins_leaf t L.Arrays = same_kind K.Array t
begins_leaf t (L.Objects count n) = same_kind K.Object t
begins_leaf t _ = false

-- after the line, the duties are these
abbrev pub IsTaken : List Position → List Duty → Line → List Duty → Type 0
IsTaken T ds l es = (cite : ℕ → List Signed → Bool) → run T cite ds (l ∷ []) ≡ Ok es

-- the line breaks this rule
abbrev pub IsBroken : List Position → List Duty → Line → RuleFault → Type 0
IsBroken T ds l fault = (cite : ℕ → List Signed → Bool) → Breaks (run T cite ds (l ∷ [])) fault
