-- The choices of a signed position at a kind, and the literals, which have none.
use Rattle.std.specs.Prelude.{ℕ, List, [], ◌∷◌, ◌++◌, map, Bool, false, not, Option, Some, None}
use Rattle.documents.specs.Tests.{some}
use Rattle.documents.specs.Kind.{Kind, Object, same_kind}
use Rattle.positions.specs.Position.{Position, True, False, Same, Not, All, Any, One, Depends, Types, speaks_of, position_at}
use Rattle.goals.specs.Signed.{Signed, Plus, Minus}

-- for each of the positions: it plus, and the others minus
abbrev pub one_plus : List ℕ → List (List Signed)
one_plus [] = []
one_plus (q ∷ qs) = (Plus q ∷ map Minus qs) ∷ map (λ C. Minus q ∷ C) (one_plus qs)

-- for each two of the positions: both plus, in order of the first and then of the second
abbrev pub two_plus : List ℕ → List (List Signed)
two_plus [] = []
two_plus (q ∷ qs) = map (λ r. Plus q ∷ Plus r ∷ []) qs ++ two_plus qs

-- one thing for objects, and another one for the other kinds
abbrev pub for_objects : {A : Type 0} → Kind → A → A → A
for_objects Object x y = x
for_objects _ x y = y

-- the choices of a position that is to hold: a document of that kind meets it exactly where it meets all of one choice
abbrev pub plus_choices : Kind → Position → Option (List (List Signed))
plus_choices t True = Some ([] ∷ [])
plus_choices t False = Some []
plus_choices t (Same q) = Some ((Plus q ∷ []) ∷ [])
plus_choices t (Not q) = Some ((Minus q ∷ []) ∷ [])
plus_choices t (All qs) = Some (map Plus qs ∷ [])
plus_choices t (Any qs) = Some (map (λ q. Plus q ∷ []) qs)
plus_choices t (One qs) = Some (one_plus qs)
plus_choices t (Depends h q) = Some (for_objects t ((Minus h ∷ []) ∷ (Plus q ∷ []) ∷ []) ([] ∷ []))
plus_choices t _ = None

-- the choices of a position that is not to hold
abbrev pub minus_choices : Kind → Position → Option (List (List Signed))
minus_choices t True = Some []
minus_choices t False = Some ([] ∷ [])
minus_choices t (Same q) = Some ((Minus q ∷ []) ∷ [])
minus_choices t (Not q) = Some ((Plus q ∷ []) ∷ [])
minus_choices t (All qs) = Some (map (λ q. Minus q ∷ []) qs)
minus_choices t (Any qs) = Some (map Minus qs ∷ [])
minus_choices t (One qs) = Some (map Minus qs ∷ two_plus qs)
minus_choices t (Depends h q) = Some (for_objects t ((Plus h ∷ Minus q ∷ []) ∷ []) [])
minus_choices t _ = None

abbrev pub choices : List Position → Kind → Signed → Option (List (List Signed))
choices T t (Plus p) = plus_choices t (position_at T p)
choices T t (Minus p) = minus_choices t (position_at T p)

-- a typed position that speaks of another kind
abbrev pub is_elsewhere : Kind → Option Kind → Bool
is_elsewhere t None = false
is_elsewhere t (Some u) = not (same_kind t u)

-- a literal that no document of the kind meets
abbrev pub plus_wrong : Kind → Position → Bool
plus_wrong t (Types ts) = not (some (same_kind t) ts)
plus_wrong t _ = false

abbrev pub minus_wrong : Kind → Position → Bool
minus_wrong t (Types ts) = some (same_kind t) ts
minus_wrong t P = is_elsewhere t (speaks_of P)

abbrev pub is_wrong : List Position → Kind → Signed → Bool
is_wrong T t (Plus p) = plus_wrong t (position_at T p)
is_wrong T t (Minus p) = minus_wrong t (position_at T p)
