-- What a refused step refuses.
use Rattle.std.proofs.Common.{◌≡◌, Option, None, Result, Ok, Err, sym, subst}
use Rattle.std.specs.Result.{IsErrAnd}
use Rattle.js_json.specs.declared.fault.RefFault.{RefFault}
use Rattle.js_json.specs.declared.fault.RefFault.TheVariants.{Remote, BadPointer, Missing, NotASchema, Memory}
use Rattle.js_json.specs.Steps.{ReadsOrRefuses}

refused_at : {A B : Type 0} (a : Option A) (b : Option B) (e : RefFault) → (a ≡ None → b ≡ None)
    → ReadsOrRefuses a (Err e) → ReadsOrRefuses b (Err e)
refused_at a b Remote none told = told
refused_at a b BadPointer none told = none told
refused_at a b Missing none told = told
refused_at a b NotASchema none told = told
refused_at a b Memory none told = tt

-- the fault of a step is the whole's
pub refused_up : {A B : Type 0} (a : Option A) (b : Option B) (e : RefFault) (r : Result B RefFault)
    → IsErrAnd r (λ made. made ≡ e) → (a ≡ None → b ≡ None)
    → ReadsOrRefuses a (Err e) → ReadsOrRefuses b r
refused_up a b e (Ok x) is none told = absurd is
refused_up a b e (Err made) is none told = subst (λ f. ReadsOrRefuses b (Err f)) (sym is) (refused_at a b e none told)
