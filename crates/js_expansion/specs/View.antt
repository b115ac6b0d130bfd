-- The shapes, slots, members, fillers and limits that the program's values stand for.
use Rattle.alternatives.specs.Alternative as A
use Rattle.alternatives.specs.Limit as L
use Rattle.js_expansion.specs.declared.alternative.Shape.{Shape}
use Rattle.js_expansion.specs.declared.alternative.Shape.TheVariants as H
use Rattle.js_expansion.specs.declared.alternative.Slot.{Slot}
use Rattle.js_expansion.specs.declared.alternative.Slot.TheVariants as S
use Rattle.js_expansion.specs.declared.alternative.Placed.{Placed}
use Rattle.js_expansion.specs.declared.alternative.Filler.{Filler}
use Rattle.js_expansion.specs.declared.expansion.LimitKind.{LimitKind}
use Rattle.js_expansion.specs.declared.expansion.LimitKind.TheVariants as K

abbrev pub shape_view : Shape → A.Shape
shape_view H.Null = A.Null
shape_view (H.Bool b) = A.Truth b
shape_view (H.Num n) = A.Number n
shape_view H.Text = A.Text
shape_view H.List = A.Elements
shape_view H.Members = A.Members

abbrev pub slot_view : Slot → A.Slot
slot_view (S.Index i) = A.Index i
slot_view (S.Name c k) = A.Name c k

abbrev pub placed_view : Placed → A.Placed
placed_view m = record { slot = slot_view m.slot; goal = m.goal }

abbrev pub filler_view : Filler → A.Filler
filler_view f = record { slot = slot_view f.slot; goal = f.goal; room = f.room }

abbrev pub limit_view : LimitKind → L.LimitKind
limit_view K.Branches = L.Branches
limit_view K.Positions = L.Positions
limit_view K.Classes = L.Classes
limit_view K.States = L.States
limit_view K.Counts = L.Counts
limit_view K.Multiples = L.Multiples
limit_view K.Candidates = L.Candidates
limit_view K.Plans = L.Plans
limit_view K.Width = L.Width
limit_view K.Places = L.Places
limit_view K.Goals = L.Goals
limit_view K.Total = L.Total
