-- Places that are pending, in whatever order and however often they stand in a list.
use Rattle.std.specs.Prelude.{ℕ, List, [], ◌∷◌}
use Rattle.std.specs.Ordering.{nat_cmp}
use Rattle.std.specs.BTreeSet.{insert_key}

-- each of them once, in rising order
unfoldable pub rising : List ℕ → List ℕ
rising [] = []
rising (k ∷ ks) = insert_key nat_cmp (rising ks) k
