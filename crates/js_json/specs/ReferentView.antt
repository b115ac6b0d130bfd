-- The place to which a reference leads, without its value.
use Rattle.std.specs.Prelude.{ℕ, List, Result, Ok, Err}
use Rattle.js_json.specs.declared.fault.RefFault.{RefFault}
use Rattle.js_json.specs.declared.reference.Referent.{Referent}

abbrev pub place_told : Result Referent RefFault → Result (List (List ℕ)) RefFault
place_told (Ok t) = Ok t.place
place_told (Err f) = Err f
