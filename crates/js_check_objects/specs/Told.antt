-- What vectors say of literals.
use Rattle.std.specs.Prelude.{◌≡◌, ◌<◌, ℕ, List, length, get_or, Bool, false}
use Rattle.goals.specs.Signed.{Signed, Plus}
use Rattle.cells.specs.Cells.{vector_at, told}

-- what a vector says of a literal is at the literal's number
abbrev pub AreTold : List Signed → List (List Bool) → Type 0
AreTold xs vs =
    (c i : ℕ) → i < length xs
    → get_or (vector_at vs c) i false ≡ told xs (vector_at vs c) (get_or xs i (Plus 0))
