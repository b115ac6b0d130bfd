-- Alternatives: the goals that one names, its places, and when it is met by goals that are known to be met.
use Rattle.std.specs.Prelude.{ℕ, ◌+◌, ℤ, List, [], ◌∷◌, ◌++◌, map, flat_map, length, Bool, ◌&&◌, cond, nat_le}
use Rattle.documents.specs.Tests.{every}
use Rattle.documents.specs.Kind.{Kind}
use Rattle.goals.specs.Signed.{Signed}

-- where something is: at an index of an array; or under a name of an object, by its cell and its place in the cell
pub data Slot : Type 0 where
  Index : ℕ → Slot
  Name : ℕ → ℕ → Slot

-- what an alternative builds
pub data Shape : Type 0 where
  Null : Shape
  Truth : Bool → Shape
  Number : ℤ → Shape
  -- the first word of cell 0 of its branch
  Text : Shape
  -- an array, or an object, of its members and fillers
  Elements : Shape
  Members : Shape

-- an element or a member, which is to meet a goal
pub record Placed : Type 0 where
  pub slot : Slot
  pub goal : List Signed

-- what may be added: documents of one goal, as many as there is room for, from a slot on
pub record Filler : Type 0 where
  pub slot : Slot
  pub goal : List Signed
  pub room : ℕ

pub record Alternative : Type 0 where
  -- its branch: the kind, and the number among the branches of that kind, from 0 on
  pub kind : Kind
  pub branch : ℕ
  pub shape : Shape
  pub members : List Placed
  -- how many fillers must be added
  pub need : ℕ
  pub fillers : List Filler

-- the goals that it names, in the order in which they are mentioned: members, then fillers
abbrev pub named_by : Alternative → List (List Signed)
named_by a = map (λ m. m.goal) a.members ++ map (λ f. f.goal) a.fillers

-- the goals that alternatives name, one alternative after another
abbrev pub named : List Alternative → List (List Signed)
named alternatives = flat_map named_by alternatives

-- one for itself, and one for each of its members and fillers
abbrev pub places_of : Alternative → ℕ
places_of a = 1 + (length a.members + length a.fillers)

abbrev pub places : List Alternative → ℕ
places [] = 0
places (a ∷ rest) = places_of a + places rest

-- how much room there is in the fillers whose goals pass a test
abbrev pub rooms : (List Signed → Bool) → List Filler → ℕ
rooms can [] = 0
rooms can (f ∷ fs) = cond (can f.goal) (f.room + rooms can fs) (rooms can fs)

-- the goal of each member passes, and the fillers whose goals pass have room for what is needed
abbrev pub is_met : (List Signed → Bool) → Alternative → Bool
is_met can a = every (λ m. can m.goal) a.members && nat_le a.need (rooms can a.fillers)
