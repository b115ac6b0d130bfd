-- The fault of a schema that the program's value stands for.
use Rattle.std.specs.Prelude.{◌≡◌, ℕ, List, Bool, true, false, Option, Some, None, Result, Ok, Err}
use Rattle.js_doc.specs.declared.text.Memory.{Memory}
use Rattle.schemas.specs.Fault as F
use Rattle.js_json.specs.declared.fault.RefFault.{RefFault}
use Rattle.js_pattern.specs.declared.fault.PatternFault.{PatternFault}
use Rattle.js_keywords.specs.declared.fault.SchemaFault.{SchemaFault}
use Rattle.js_keywords.specs.declared.fault.SchemaFault.TheVariants as S
use Rattle.js_keywords.specs.Names.{keyword_name}

-- want of memory is no fault of a schema
abbrev pub fault_view : SchemaFault → Option (F.Fault PatternFault RefFault)
fault_view (S.NotASchema p) = Some (F.NotASchema p)
fault_view (S.WrongShape k p) = Some (F.WrongShape (keyword_name k) p)
fault_view (S.NotWhole p) = Some (F.NotWhole p)
fault_view (S.NotPositive p) = Some (F.NotPositive p)
fault_view (S.Negative p) = Some (F.Negative p)
fault_view (S.EmptyList p) = Some (F.EmptyList p)
fault_view (S.UniqueItems p) = Some (F.UniqueItems p)
fault_view (S.InnerId p) = Some (F.InnerId p)
fault_view (S.Ref e p) = Some (F.BadReference e p)
fault_view (S.Pattern e p) = Some (F.BadPattern e p)
fault_view (S.TooLarge p) = Some (F.TooLarge p)
fault_view S.Memory = None

-- the fault is the one that is owed, unless memory was refused
abbrev pub Tells : Option (F.Fault PatternFault RefFault) → SchemaFault → Type 0
Tells owed S.Memory = Unit {0}
Tells owed f = owed ≡ fault_view f

-- nothing is wrong, or this is
abbrev pub ChecksOrTells : {A : Type 0} → Option (F.Fault PatternFault RefFault) → Result A SchemaFault → Type 0
ChecksOrTells owed (Ok a) = owed ≡ None
ChecksOrTells owed (Err f) = Tells owed f

-- whether there is a place that is looked for: then the pointer leads to it, and else it is as it was
abbrev pub Finds : Option (List (List ℕ)) → (old new : List (List ℕ)) → Result Bool Memory → Type 0
Finds owed old new (Ok true) = owed ≡ Some new
Finds owed old new (Ok false) = (owed ≡ None) × (new ≡ old)
Finds owed old new (Err e) = Unit {0}
