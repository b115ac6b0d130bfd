-- The object of a plan: its members, and further ones, each with the next name of its cell.
use Rattle.std.specs.Prelude.{ℕ, zero, suc, ◌-◌, min, List, [], ◌∷◌, ◌++◌, map, Bool, cond}
use Rattle.documents.specs.Document.{Document, object}
use Rattle.positions.specs.Position.{Position}
use Rattle.goals.specs.Signed.{Signed}
use Rattle.frames.specs.Frame.{In, Frame}
use Rattle.frames.specs.Plan.{Member, Plan, goal_of, need}
use Rattle.expansions.specs.SortedMembers.{sorted}
use Rattle.expansions.specs.Leaves.{name}
use Rattle.cells.specs.Cells.{Cells}
use Rattle.frames.specs.Fillers.{Filler, fillers, times, child_of, fill}

-- each value, in its cell, with the first name of the cell that is not yet used; `before` are the cells of names used
abbrev pub named : Cells → List ℕ → List (ℕ × Document) → List (List ℕ × Document)
named C before [] = []
named C before (v ∷ vs) = (name C v.0 (times v.0 before), v.1) ∷ named C (v.0 ∷ before) vs

abbrev pub object_of : Cells → List (ℕ × Document) → Document
object_of C vs = object (sorted (named C [] vs))

-- members with their documents
abbrev pub with_cells : List Member → List Document → List (ℕ × Document)
with_cells [] ds = []
with_cells (m ∷ ms) [] = []
with_cells (m ∷ ms) (d ∷ ds) = (m.cell, d) ∷ with_cells ms ds

module _ (can : List Signed → Bool) (child : List Signed → Document) where
  -- what a plan's object has, by cell and value
  abbrev pub values : List Position → Frame → Plan → List (ℕ × Document)
  values T frame q =
      with_cells q.members (map (λ m. child_of can child (goal_of T frame (In m.cell, m.served))) q.members)
      ++ fill can child (need frame q) (fillers T frame q)

-- a slot: a cell, and the place of a name in it

-- the members of an alternative: each with the next place of its cell; `before` are the cells of earlier ones
abbrev pub member_slots : (Member → Document) → List ℕ → List Member → List ((ℕ × ℕ) × Document)
member_slots value before [] = []
member_slots value before (m ∷ ms) =
    ((m.cell, times m.cell before), value m) ∷ member_slots value (m.cell ∷ before) ms

-- so many places from one on
abbrev pub copies : ℕ → ℕ → ℕ → Document → List ((ℕ × ℕ) × Document)
copies c k zero J = []
copies c k (suc n) J = ((c, k), J) ∷ copies c (suc k) n J

abbrev pub filler_slots : (List Signed → Bool) → (List Signed → Document) → ℕ → List Filler
    → List ((ℕ × ℕ) × Document)
filler_slots can child n [] = []
filler_slots can child n (f ∷ fs) =
    cond (can f.goal) (copies f.cell f.first (min n f.room) (child f.goal) ++ filler_slots can child (n - f.room) fs)
    (filler_slots can child n fs)

abbrev pub at_slot : Cells → (ℕ × ℕ) × Document → List ℕ × Document
at_slot C s = (name C s.0.0 s.0.1, s.1)
