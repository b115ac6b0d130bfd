-- The least of a list that passes a test, found one by one.
use Rattle.std.specs.Prelude.{List, [], ◌∷◌, Bool, true, false, cond, nat_le, Option, Some, None}
use Rattle.goals.specs.Signed.{Signed}
use Rattle.js_algebra.specs.Order.{order_of}

abbrev pub lesser : Option Signed → Signed → Option Signed
lesser None x = Some x
lesser (Some y) x = cond (nat_le (order_of y) (order_of x)) (Some y) (Some x)

abbrev pub better : Bool → Option Signed → Signed → Option Signed
better true best x = lesser best x
better false best x = best

-- the least of what was found and those of the list that pass
abbrev pub least_from : (Signed → Bool) → Option Signed → List Signed → Option Signed
least_from p best [] = best
least_from p best (x ∷ xs) = least_from p (better (p x) best x) xs
