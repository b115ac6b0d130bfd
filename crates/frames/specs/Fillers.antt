-- The alternative of a complete plan, for any frame: the goals of its members, and fillers with their rooms.
use Rattle.std.specs.Prelude.{ℕ, zero, suc, ◌+◌, List, [], ◌∷◌, map, flat_map, Bool, false, cond, ◌&&◌, nat_eq, nat_le, Option, Some, None, replicate, min, ◌++◌, ◌-◌}
use Rattle.documents.specs.Tests.{every}
use Rattle.positions.specs.Position.{Position}
use Rattle.goals.specs.Signed.{Signed}
use Rattle.frames.specs.Frame.{In, Frame}
use Rattle.frames.specs.Plan.{Plan, count_in, placed, goal_of, need}
use Rattle.documents.specs.Document.{Document, null}

pub record Filler : Type 0 where
  pub cell : ℕ
  pub goal : List Signed
  -- the first free place of the cell
  pub first : ℕ
  pub room : ℕ

abbrev pub filler : ℕ → List Signed → ℕ → ℕ → Filler
filler c g k n = record { cell = c; goal = g; first = k; room = n }

-- none without room, none whose list clashes
abbrev pub with_room : ℕ → ℕ → Option (List Signed) → ℕ → List Filler
with_room c k o zero = []
with_room c k None (suc n) = []
with_room c k (Some g) (suc n) = filler c g k (suc n) ∷ []

abbrev pub filler_at : List Position → Frame → Plan → ℕ → List Filler
filler_at T frame q c =
    with_room c (count_in c q.members) (goal_of T frame (In c, [])) (frame.room c (count_in c q.members))

abbrev pub fillers : List Position → Frame → Plan → List Filler
fillers T frame q = cond (nat_eq (need frame q) 0) [] (flat_map (filler_at T frame q) frame.cells)

-- the rooms of the fillers that pass a test
abbrev pub rooms_of : (List Signed → Bool) → List Filler → ℕ
rooms_of can [] = 0
rooms_of can (f ∷ fs) = cond (can f.goal) (f.room + rooms_of can fs) (rooms_of can fs)

-- the goals of what is placed
abbrev pub goals : List Position → Frame → Plan → List (Option (List Signed))
goals T frame q = map (goal_of T frame) (placed frame q)

abbrev pub passes : (List Signed → Bool) → Option (List Signed) → Bool
passes can None = false
passes can (Some g) = can g

-- each goal that is placed passes, and the rooms of the fillers that pass suffice
abbrev pub is_met_by : (List Signed → Bool) → List Position → Frame → Plan → Bool
is_met_by can T frame q =
    every (passes can) (goals T frame q) && nat_le (need frame q) (rooms_of can (fillers T frame q))

-- how many of them are c
abbrev pub times : ℕ → List ℕ → ℕ
times c [] = 0
times c (x ∷ xs) = cond (nat_eq x c) (suc (times c xs)) (times c xs)

module _ (can : List Signed → Bool) (child : List Signed → Document) where
  abbrev pub child_of : Option (List Signed) → Document
  child_of None = null
  child_of (Some g) = child g

  -- so many from the fillers that pass, in order, each up to its room
  abbrev pub fill : ℕ → List Filler → List (ℕ × Document)
  fill n [] = []
  fill n (f ∷ fs) =
      cond (can f.goal) (replicate (min n f.room) (f.cell, child f.goal) ++ fill (n - f.room) fs) (fill n fs)
