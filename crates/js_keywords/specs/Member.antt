-- What is wrong in a member of an object, by its name, and by the keyword that the name is.
use Rattle.std.specs.Prelude.{ℕ, List, Bool, Option, Some, None, cond, codes}
use Rattle.documents.specs.Tests.{same_word}
use Rattle.documents.specs.Json.{Json}
use Rattle.schemas.specs.Places.{Pointer}
use Rattle.schemas.specs.Keyword.{Shape, shape_of}
use Rattle.schemas.specs.Fault.{Fault}
use Rattle.schemas.specs.Reading.{id_fault, shape_fault}
use Rattle.js_json.specs.declared.fault.RefFault.{RefFault}
use Rattle.js_pattern.specs.declared.fault.PatternFault.{PatternFault}
use Rattle.js_keywords.specs.declared.keyword.Keyword.{Keyword}
use Rattle.js_keywords.specs.declared.keyword.Keyword.TheVariants as K
use Rattle.js_keywords.specs.Names.{keyword_name}
use Rattle.js_keywords.specs.Words.{shape_by}
use Rattle.js_keywords.specs.Reading.{rules}

-- the shape of a member's value where `items` is a list, or isn't
abbrev pub shape_beside : Bool → List ℕ → Option Shape
shape_beside listed w =
    cond (same_word w (codes "additionalItems")) (cond listed (shape_of w) None) (shape_of w)

-- the shape of a keyword's value where `items` is a list, or isn't
abbrev pub shape_given : Bool → Option Keyword → Option Shape
shape_given listed None = None
shape_given listed (Some K.AdditionalItems) = cond listed (shape_by K.AdditionalItems) None
shape_given listed (Some k) = shape_by k

abbrev pub named_fault : Json → Bool → Pointer → List ℕ → Json → Option (Fault PatternFault RefFault)
named_fault root listed p w v =
    cond (same_word w (codes "$id")) (id_fault rules root p v)
    (shape_fault rules root (shape_beside listed w) w p v)

abbrev pub fault_by : Json → Bool → Pointer → Option Keyword → Json → Option (Fault PatternFault RefFault)
fault_by root listed p None v = None
fault_by root listed p (Some K.Id) v = id_fault rules root p v
fault_by root listed p (Some K.AdditionalItems) v =
    cond listed (shape_fault rules root (shape_by K.AdditionalItems) (keyword_name K.AdditionalItems) p v) None
fault_by root listed p (Some k) v = shape_fault rules root (shape_by k) (keyword_name k) p v
