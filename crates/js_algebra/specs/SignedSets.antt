-- Sets of signed positions in the order in which their members came.
use Rattle.std.specs.Prelude.{List, [], ◌∷◌, ◌++◌, cond}
use Rattle.goals.specs.Signed.{Signed, has, add_all}

-- one more member, unless it is one
abbrev pub with_member : Signed → List Signed → List Signed
with_member x xs = cond (has x xs) xs (xs ++ x ∷ [])

-- the members that come one after another
abbrev pub with_members : List Signed → List Signed → List Signed
with_members [] xs = xs
with_members (x ∷ C) xs = with_members C (with_member x xs)

-- the members as a rising list
abbrev pub set_of : List Signed → List Signed
set_of xs = add_all xs []
