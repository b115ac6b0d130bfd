-- A clash of a rising list, found at neighbours.
use Rattle.std.specs.Prelude.{List, [], ◌∷◌, Bool, false, ◌||◌}
use Rattle.positions.specs.Position.{Position}
use Rattle.goals.specs.Signed.{Signed, opposite, same_signed}
use Rattle.goals.specs.Goal.{is_never}

abbrev pub begins_with : Signed → List Signed → Bool
begins_with x [] = false
begins_with x (y ∷ S) = same_signed x y

-- a signed position that no document meets, or one whose opposite comes next
abbrev pub clashes_nearby : List Position → List Signed → Bool
clashes_nearby T [] = false
clashes_nearby T (x ∷ S) = (is_never T x || begins_with (opposite x) S) || clashes_nearby T S
