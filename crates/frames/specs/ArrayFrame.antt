-- The frame of a set at arrays.
use Rattle.std.specs.Prelude.{ℕ, zero, suc, min, max, List, [], ◌∷◌, filter, length, Bool, true, false, not, Option, Some, None}
use Rattle.positions.specs.Position.{Position, Items, Contains, CountMin, CountMax, position_at}
use Rattle.goals.specs.Signed.{Signed, Plus, Minus, position_of}
use Rattle.frames.specs.Frame.{Place, Head, In, Frame}

abbrev pub item_at : List ℕ → ℕ → ℕ → ℕ
item_at [] rest i = rest
item_at (p ∷ ps) rest zero = p
item_at (p ∷ ps) rest (suc i) = item_at ps rest i

abbrev pub prefix_of : Position → ℕ
prefix_of (Items ps r) = length ps
prefix_of _ = 0

abbrev pub longest : List Position → List Signed → ℕ
longest T [] = 0
longest T (x ∷ S) = max (prefix_of (position_at T (position_of x))) (longest T S)

-- the number of a place; in the cell, past every prefix
abbrev pub index_of : ℕ → Place → ℕ
index_of n (Head i) = i
index_of n (In c) = n

abbrev pub plus_each : ℕ → Position → List Signed
plus_each i (Items ps r) = Plus (item_at ps r i) ∷ []
plus_each i _ = []

abbrev pub minus_each : Position → List Signed
minus_each (Contains q) = Minus q ∷ []
minus_each _ = []

abbrev pub each : List Position → ℕ → Place → Signed → List Signed
each T n at (Plus p) = plus_each (index_of n at) (position_at T p)
each T n at (Minus p) = minus_each (position_at T p)

abbrev pub plus_serving : Position → List Signed
plus_serving (Contains q) = Plus q ∷ []
plus_serving _ = []

abbrev pub minus_serving : ℕ → Position → List Signed
minus_serving i (Items ps r) = Minus (item_at ps r i) ∷ []
minus_serving i _ = []

abbrev pub serving : List Position → ℕ → Place → Signed → List Signed
serving T n at (Plus p) = plus_serving (position_at T p)
serving T n at (Minus p) = minus_serving (index_of n at) (position_at T p)

abbrev pub is_empty : {A : Type 0} → List A → Bool
is_empty [] = true
is_empty (x ∷ xs) = false

abbrev pub is_demand : List Position → Signed → Bool
is_demand T x = not (is_empty (serving T 0 (In 0) x))

-- at least so many, and fewer than that many
abbrev pub plus_lower : Position → ℕ
plus_lower (CountMin n) = n
plus_lower _ = 0

abbrev pub minus_lower : Position → ℕ
minus_lower (CountMax n) = suc n
minus_lower _ = 0

abbrev pub lower : List Position → List Signed → ℕ
lower T [] = 0
lower T (Plus p ∷ S) = max (plus_lower (position_at T p)) (lower T S)
lower T (Minus p ∷ S) = max (minus_lower (position_at T p)) (lower T S)

abbrev pub plus_below : Position → Option ℕ
plus_below (CountMax n) = Some (suc n)
plus_below _ = None

abbrev pub minus_below : Position → Option ℕ
minus_below (CountMin n) = Some n
minus_below _ = None

abbrev pub lesser : Option ℕ → Option ℕ → Option ℕ
lesser None o = o
lesser (Some m) None = Some m
lesser (Some m) (Some n) = Some (min m n)

abbrev pub below : List Position → List Signed → Option ℕ
below T [] = None
below T (Plus p ∷ S) = lesser (plus_below (position_at T p)) (below T S)
below T (Minus p ∷ S) = lesser (minus_below (position_at T p)) (below T S)

abbrev pub array_frame : List Position → List Signed → Frame
array_frame T S = record {
  set = S;
  lower = lower T S;
  below = below T S;
  floor = lower T S;
  heads = longest T S;
  demands = filter (is_demand T) S;
  each = each T (longest T S);
  serving = serving T (longest T S);
  cells = 0 ∷ [];
  inside = λ d c. true;
  cap = λ c. None;
  room = λ c n. 65537;
}
