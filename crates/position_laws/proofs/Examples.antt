-- Two small tables, joined and computed.
use Rattle.std.specs.Prelude.{◌≡◌, List, [], ◌∷◌, true, refl}
use Rattle.documents.specs.Kind.{Null, Array}
use Rattle.positions.specs.Position.{Position, True, Not, All, Any, Types, is_table}
use Rattle.position_laws.specs.Join.{joined}

-- no array, and anything
first : List Position
first = Not 1 ∷ Types (Array ∷ []) ∷ True ∷ []

-- null, in two ways
second : List Position
second = Any (1 ∷ 2 ∷ []) ∷ Types (Null ∷ []) ∷ All (1 ∷ []) ∷ []

joined_names : joined first second
    ≡ Not 1 ∷ Types (Array ∷ []) ∷ True ∷ Any (4 ∷ 5 ∷ []) ∷ Types (Null ∷ []) ∷ All (4 ∷ []) ∷ []
unfolding first second
joined_names = refl

-- ranks are any numbers that fall in place; the ranks of the second table stay as they are
joined_table : is_table (joined first second) (7 ∷ 3 ∷ 0 ∷ 9 ∷ 2 ∷ 4 ∷ []) ≡ true
unfolding first second
joined_table = refl
