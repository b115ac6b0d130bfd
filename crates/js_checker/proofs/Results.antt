-- What follows from facts of results.
use Rattle.std.proofs.Common.{◌≡◌, Result, Ok, Err, OnOk, IfErr, IsErrAnd, sym, subst}

pub on_ok : {A E P Q : Type 0} (r : Result A E) → (P → Q) → OnOk r P → OnOk r Q
on_ok (Ok x) f h = f h
on_ok (Err e) f h = tt

-- what follows from a property of errors holds of errors that have it
pub if_err : {A E : Type 0} {P Q : E → Type 0} (r : Result A E) → ((e : E) → P e → Q e) → IfErr r P → IfErr r Q
if_err (Ok x) f h = tt
if_err (Err e) f h = f e h

-- a fault that is passed on
pub passed : {A E : Type 0} (P : E → Type 0) (r : Result A E) (e : E) → IsErrAnd r (λ f. f ≡ e) → P e → IfErr r P
passed P (Ok x) e h p = absurd h
passed P (Err f) e h p = subst P (sym h) p
