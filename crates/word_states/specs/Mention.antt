-- Lists without repetition, in order of first mention.
use Rattle.std.specs.Prelude.{List, [], ◌∷◌, ◌++◌, Bool, if◌then◌else◌}
use Rattle.std.specs.List.{list_any}

-- the list, with x at its end where nothing in it is the same as x
abbrev pub mention : {A : Type 0} → (A → A → Bool) → List A → A → List A
mention same L x = if list_any (same x) L then L else L ++ x ∷ []

-- the list, with each of xs mentioned in turn
abbrev pub mention_all : {A : Type 0} → (A → A → Bool) → List A → List A → List A
mention_all same L [] = L
mention_all same L (x ∷ xs) = mention_all same (mention same L x) xs
