-- The goal that a list of signed positions forms, and when one goal contains another.
use Rattle.std.specs.Prelude.{ℕ, zero, suc, List, [], ◌∷◌, length, Bool, true, false, ◌||◌, cond, Option, Some, None}
use Rattle.documents.specs.Tests.{every, some}
use Rattle.positions.specs.Position.{Position, True, False, Same, Not, position_at}
use Rattle.goals.specs.Signed.{Signed, Plus, Minus, opposite, has, add_all}

-- the signed position that one of a reference stands for: of the same position it has the same sign, of an opposite the
-- other one
abbrev pub plus_reference : Position → Option Signed
plus_reference (Same q) = Some (Plus q)
plus_reference (Not q) = Some (Minus q)
plus_reference _ = None

abbrev pub minus_reference : Position → Option Signed
minus_reference (Same q) = Some (Minus q)
minus_reference (Not q) = Some (Plus q)
minus_reference _ = None

abbrev pub reference : List Position → Signed → Option Signed
reference T (Plus p) = plus_reference (position_at T p)
reference T (Minus p) = minus_reference (position_at T p)

abbrev pub follow_on : (Signed → Signed) → Signed → Option Signed → Signed
follow_on more x None = x
follow_on more x (Some y) = more y

-- at most n steps along references
abbrev pub follow_within : List Position → ℕ → Signed → Signed
follow_within T zero x = x
follow_within T (suc n) x = follow_on (follow_within T n) x (reference T x)

-- the signed position at the end of its references: no chain of them is longer than the table
unfoldable pub follow : List Position → Signed → Signed
follow T x = follow_within T (length T) x

-- what every document meets
abbrev pub is_always : List Position → Signed → Bool
is_always T (Plus p) = true_at (position_at T p) where
  true_at : Position → Bool
  true_at True = true
  true_at _ = false
is_always T (Minus p) = false_at (position_at T p) where
  false_at : Position → Bool
  false_at False = true
  false_at _ = false

-- what no document meets
abbrev pub is_never : List Position → Signed → Bool
is_never T x = is_always T (opposite x)

-- each signed position followed, without those that every document meets
abbrev pub followed : List Position → List Signed → List Signed
followed T [] = []
followed T (x ∷ xs) = cond (is_always T (follow T x)) (followed T xs) (follow T x ∷ followed T xs)

-- the set has a signed position that no document meets, or a position with both signs
abbrev pub clashes : List Position → List Signed → Bool
clashes T S = some (λ x. is_never T x || has (opposite x) S) S

abbrev pub form_of : List Position → List Signed → Option (List Signed)
form_of T S = cond (clashes T S) None (Some S)

-- the goal of a list, sorted; none where the list clashes
abbrev pub form : List Position → List Signed → Option (List Signed)
form T xs = form_of T (add_all (followed T xs) [])

-- each signed position of the small goal is one of the big goal
abbrev pub contains : List Signed → List Signed → Bool
contains big small = every (λ x. has x big) small
