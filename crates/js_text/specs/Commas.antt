-- The commas of a list that is written element by element.
use Rattle.std.specs.Prelude.{ℕ, List, [], ◌∷◌, Bool, true, false}

-- what comes before an element
abbrev pub comma_unless : Bool → List ℕ
comma_unless true = []
comma_unless false = 44 ∷ []
