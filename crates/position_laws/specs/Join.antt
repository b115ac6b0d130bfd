-- Two tables in one: the second behind the first, with its names moved up by the length of the first.
use Rattle.std.specs.Prelude.{ℕ, ◌+◌, List, ◌++◌, map, length}
use Rattle.positions.specs.Position.{Position, Same, Not, All, Any, One, Depends, Items, Contains, MembersOf, NamesIn}

-- the position with other names
abbrev pub renamed : (ℕ → ℕ) → Position → Position
renamed f (Same q) = Same (f q)
renamed f (Not q) = Not (f q)
renamed f (All qs) = All (map f qs)
renamed f (Any qs) = Any (map f qs)
renamed f (One qs) = One (map f qs)
renamed f (Depends h q) = Depends (f h) (f q)
renamed f (Items qs r) = Items (map f qs) (f r)
renamed f (Contains q) = Contains (f q)
renamed f (MembersOf s q) = MembersOf s (f q)
renamed f (NamesIn q) = NamesIn (f q)
renamed f P = P

abbrev pub moved : ℕ → Position → Position
moved n P = renamed (λ q. n + q) P

-- position p of the first table is p, and position p of the second is `length A + p`
abbrev pub joined : List Position → List Position → List Position
joined A B = A ++ map (moved (length A)) B
