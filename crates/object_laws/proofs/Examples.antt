-- An object with a member `a` that is null, whose other members are texts, and with two members at least; the names
-- have the letters a and b alone, and fewer than two of them.
use Rattle.std.specs.Prelude.{◌≡◌, List, [], ◌∷◌, Bool, true, false, Some, nat_eq, refl}
use Rattle.documents.specs.Kind.{Null, Text}
use Rattle.documents.specs.Document.{Document, null, string, object, no_members, member}
use Rattle.positions.specs.Position.{Position, Types, Has, MembersOf, NamesIn, LengthMax, PropsMin, Named, Others}
use Rattle.goals.specs.Signed.{Signed, Plus, Minus}
use Rattle.goals.specs.Goal.{follow}
use Rattle.levels.specs.Levels.{is_met}
use Rattle.frames.specs.Plan.{Split, Complete, Plan, plan, member as member_of, plan_steps}
use Rattle.cells.specs.Cells.{Cells, cells}
use Rattle.frames.specs.ObjectFrame.{object_frame}
use Rattle.frames.specs.Fillers.{filler, fillers, goals, is_met_by}
use Rattle.object_laws.specs.ObjectValues.{object_of, values}

table : List Position
table = Has (97 ∷ []) ∷ MembersOf (Named (97 ∷ [])) 2 ∷ Types (Null ∷ []) ∷ PropsMin 2 ∷ MembersOf
    (Others ((97 ∷ []) ∷ []) []) 5 ∷ Types (Text ∷ []) ∷ []

set : List Signed
set = Plus 0 ∷ Plus 1 ∷ Plus 3 ∷ Plus 4 ∷ []

names : Cells
names = cells (97 ∷ 98 ∷ []) 2 4 table set ([] ∷ (97 ∷ []) ∷ (98 ∷ []) ∷ [])

only : Plan
only = plan [] (member_of 1 (Plus 0 ∷ []) ∷ [])

steps : plan_steps table (object_frame table names set) ≡ Split 1 ∷ Complete only ∷ []
unfolding table set names only plan_steps follow
steps = refl

goal : goals table (object_frame table names set) only ≡ Some (Plus 2 ∷ []) ∷ []
unfolding table set names only follow
goal = refl

more : fillers table (object_frame table names set) only ≡ filler 0 (Plus 5 ∷ []) 0 2 ∷ []
unfolding table set names only follow
more = refl

-- with null for members that serve and the empty text for others
child : List Signed → Document
child (Plus p ∷ []) = by (nat_eq p 2) where
  by : Bool → Document
  by true = null
  by false = string []
child _ = string []

made : object_of names (values (λ g. true) child table (object_frame table names set) only)
    ≡ object (member [] (string []) (member (97 ∷ []) null no_members))
unfolding table set names only child follow
made = refl

-- names have one character at most and `a` isn't there; some value is no text, and there are three members
other_table : List Position
other_table = NamesIn 1 ∷ LengthMax 1 ∷ MembersOf (Others ((97 ∷ []) ∷ []) []) 3 ∷ Types (Text ∷ []) ∷ Has
    (97 ∷ []) ∷ PropsMin 3 ∷ []

other_set : List Signed
other_set = Plus 0 ∷ Minus 2 ∷ Minus 4 ∷ Plus 5 ∷ []

other_names : Cells
other_names = cells (97 ∷ 98 ∷ []) 2 4 other_table other_set ([] ∷ (97 ∷ []) ∷ (98 ∷ []) ∷ (97 ∷ 97 ∷ []) ∷ [])

cells_there : other_names.vectors ≡ (true ∷ true ∷ false ∷ []) ∷ (true ∷ false ∷ true ∷ [])
    ∷ (false ∷ true ∷ false ∷ []) ∷ []
unfolding other_table other_set other_names is_met
cells_there = refl

allowed : (object_frame other_table other_names other_set).cells ≡ 0 ∷ []
unfolding other_table other_set other_names is_met
allowed = refl

other_plan : Plan
other_plan = plan [] (member_of 0 (Minus 2 ∷ []) ∷ [])

other_steps : plan_steps other_table (object_frame other_table other_names other_set) ≡ Split 1 ∷ Complete
    other_plan ∷ []
unfolding other_table other_set other_names other_plan plan_steps follow is_met
other_steps = refl

-- two names are too few for three members
too_few : is_met_by (λ g. true) other_table (object_frame other_table other_names other_set) other_plan ≡ false
unfolding other_table other_set other_names other_plan follow is_met
too_few = refl
