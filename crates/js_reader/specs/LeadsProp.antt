-- A number leads to a pointer in one way at most.
use Rattle.std.specs.Prelude.{ℕ, List, Option, Some, None}
use Rattle.std.proofs.Props.{props}
use Rattle.schemas.specs.Places.{Pointer}
use Rattle.js_pointers.specs.Table.{Leads}

pub Leads-prop : (ps : List Pointer) (o : Option ℕ) (p : Pointer) → IsProp (Leads ps o p)
Leads-prop ps (Some n) p = Prim.hlevel props
Leads-prop ps None p = Prim.hlevel props
