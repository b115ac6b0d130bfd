-- Whether a number is in a list of whole numbers.
use Rattle.std.specs.Prelude.{List, Bool, ℤ}
use Rattle.std.specs.List.{list_any}
use Rattle.std.specs.Ordering.{int_eq}

-- n is one of the values
abbrev pub has : List ℤ → ℤ → Bool
has values n = list_any (λ y. int_eq y n) values
