-- What is read lies within the text.
use Rattle.std.proofs.Common.{ℕ, ◌+◌, ◌≤◌, List, length, drop, Option, Some, None, Result, Ok, Err, if◌then◌else◌, length-drop, arith}
use Rattle.std.specs.Option.{OnSome, is_some}
use Rattle.std.specs.Result.{IfOk}

-- what is read as one code unit, or as two, ends within the text
pub code_units-within : {A E : Type 0} (r : Result (A × ℕ) E) (low : Option ℕ) (t : List ℕ)
    → IfOk r (λ p. p.1 ≤ (if is_some low then 11 else 5)) → OnSome low (6 ≤ length (drop 4 t)) → 4 ≤ length t
    → IfOk r (λ p. p.1 ≤ 1 + length t)
code_units-within (Err e) low t h k l = tt
code_units-within (Ok p) None t h k l = omega (arith, h)
code_units-within (Ok p) (Some n) t h k l = omega (arith, h, k, length-drop 4 t)
