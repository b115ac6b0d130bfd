-- The frame of a set at objects.
use Rattle.std.specs.Prelude.{ℕ, suc, ◌-◌, min, max, List, [], ◌∷◌, filter, length, Bool, true, false, not, cond, nat_lt, Option, Some, None}
use Rattle.std.specs.List.{range_with_len}
use Rattle.documents.specs.Tests.{some}
use Rattle.positions.specs.Position.{Position, MembersOf, Has, NamesIn, PropsMin, PropsMax, position_at}
use Rattle.goals.specs.Signed.{Signed, Plus, Minus}
use Rattle.frames.specs.Frame.{Place, In, Frame}
use Rattle.frames.specs.ArrayFrame.{lesser}
use Rattle.cells.specs.Cells.{Cells, truth}

-- at least so many, and fewer than that many
abbrev pub plus_lower : Position → ℕ
plus_lower (PropsMin n) = n
plus_lower _ = 0

abbrev pub minus_lower : Position → ℕ
minus_lower (PropsMax n) = suc n
minus_lower _ = 0

abbrev pub lower_at : List Position → Signed → ℕ
lower_at T (Plus p) = plus_lower (position_at T p)
lower_at T (Minus p) = minus_lower (position_at T p)

abbrev pub lower : List Position → List Signed → ℕ
lower T [] = 0
lower T (x ∷ S) = max (lower_at T x) (lower T S)

abbrev pub plus_below : Position → Option ℕ
plus_below (PropsMax n) = Some (suc n)
plus_below _ = None

abbrev pub minus_below : Position → Option ℕ
minus_below (PropsMin n) = Some n
minus_below _ = None

abbrev pub below_at : List Position → Signed → Option ℕ
below_at T (Plus p) = plus_below (position_at T p)
below_at T (Minus p) = minus_below (position_at T p)

abbrev pub below : List Position → List Signed → Option ℕ
below T [] = None
below T (x ∷ S) = lesser (below_at T x) (below T S)

-- the names of which the position says this may not be there
abbrev pub plus_bars : Bool → Position → Bool
plus_bars b (NamesIn q) = not b
plus_bars b _ = false

abbrev pub minus_bars : Bool → Position → Bool
minus_bars b (Has n) = b
minus_bars b _ = false

abbrev pub bars : List Position → Cells → ℕ → Signed → Bool
bars T C c (Plus p) = plus_bars (truth C c (Plus p)) (position_at T p)
bars T C c (Minus p) = minus_bars (truth C c (Minus p)) (position_at T p)

abbrev pub is_allowed : List Position → Cells → List Signed → ℕ → Bool
is_allowed T C S c = not (some (bars T C c) S)

-- some member has to serve it
abbrev pub plus_wants : Position → Bool
plus_wants (Has n) = true
plus_wants _ = false

abbrev pub minus_wants : Position → Bool
minus_wants (MembersOf s q) = true
minus_wants (NamesIn q) = true
minus_wants _ = false

abbrev pub is_demand : List Position → Signed → Bool
is_demand T (Plus p) = plus_wants (position_at T p)
is_demand T (Minus p) = minus_wants (position_at T p)

-- one whose name it says this of may serve it
abbrev pub minus_inside : Bool → Position → Bool
minus_inside b (NamesIn q) = not b
minus_inside b _ = b

abbrev pub inside : List Position → Cells → Signed → ℕ → Bool
inside T C (Plus p) c = truth C c (Plus p)
inside T C (Minus p) c = minus_inside (truth C c (Minus p)) (position_at T p)

abbrev pub plus_each : Bool → Position → List Signed
plus_each b (MembersOf s q) = cond b (Plus q ∷ []) []
plus_each b _ = []

abbrev pub each : List Position → Cells → Place → Signed → List Signed
each T C (In c) (Plus p) = plus_each (truth C c (Plus p)) (position_at T p)
each T C _ _ = []

abbrev pub minus_serving : Position → List Signed
minus_serving (MembersOf s q) = Minus q ∷ []
minus_serving _ = []

abbrev pub serving : List Position → Signed → List Signed
serving T (Plus p) = []
serving T (Minus p) = minus_serving (position_at T p)

-- the count of a cell's names, cut
abbrev pub number : Cells → ℕ → ℕ
number C c = min C.bound (length (C.words c))

-- no bound where the count is cut
abbrev pub cap : Cells → ℕ → Option ℕ
cap C c = cond (nat_lt (length (C.words c)) C.bound) (Some (length (C.words c))) None

-- the room that is left in a cell
abbrev pub room : Cells → ℕ → ℕ → ℕ
room C c n = number C c - n

-- with bounds and rooms of the cells: those of their names, or those that a certificate states
abbrev pub object_frame_with : (ℕ → Option ℕ) → (ℕ → ℕ → ℕ) → List Position → Cells → List Signed → Frame
object_frame_with bounds rooms T C S = record {
  set = S;
  lower = lower T S;
  below = below T S;
  floor = 0;
  heads = 0;
  demands = filter (is_demand T) S;
  each = each T C;
  serving = λ at d. serving T d;
  cells = filter (is_allowed T C S) (range_with_len 0 (length C.vectors));
  inside = inside T C;
  cap = bounds;
  room = rooms;
}

abbrev pub object_frame : List Position → Cells → List Signed → Frame
object_frame T C S = object_frame_with (cap C) (room C) T C S
