-- JSON values made of lists of elements and of members in any order.
use Rattle.std.specs.Prelude.{ℕ, zero, suc, List, [], ◌∷◌, ◌++◌, cond, fold}
use Rattle.documents.specs.Json.{Json, array, object, items_of, members_of}
use Rattle.documents.specs.Tests.{comes_before}

-- members by name, with one more: it comes behind those whose names come before its own, and replaces one of that name
unfoldable pub with_member : List (List ℕ × Json) → List ℕ × Json → List (List ℕ × Json)
with_member [] m = m ∷ []
with_member (n ∷ ns) m =
    cond (comes_before n.0 m.0) (n ∷ with_member ns m) (cond (comes_before m.0 n.0) (m ∷ n ∷ ns) (m ∷ ns))

-- the members by name, given in any order
abbrev pub by_name : List (List ℕ × Json) → List (List ℕ × Json)
by_name ms = fold with_member [] ms

-- the object that has these members
abbrev pub object_of : List (List ℕ × Json) → Json
object_of ms = object (members_of (by_name ms))

-- the array that has these elements
abbrev pub array_of : List Json → Json
array_of ds = array (items_of ds)

-- f at 0, at 1 and so on: at each number below n, in order
abbrev pub first : {A : Type 0} → (ℕ → A) → ℕ → List A
first f zero = []
first f (suc n) = first f n ++ f n ∷ []
