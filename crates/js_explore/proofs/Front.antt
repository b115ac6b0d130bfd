-- `front` puts a list before another one, where that is there.
use Rattle.std.proofs.Common.{List, ◌++◌, Option, Some, None}

abbrev pub front : {A : Type 0} → List A → Option (List A) → Option (List A)
front xs None = None
front xs (Some ys) = Some (xs ++ ys)
