-- Rounds over explored goals, by number.
use Rattle.std.specs.Prelude.{ℕ, zero, suc, ◌+◌, List, [], ◌∷◌, flat_map, Bool, false, ◌&&◌, cond, nat_le, nat_lt, Option, Some, None, option_map, is_some, slice_get}
use Rattle.documents.specs.Tests.{every, some}
use Rattle.documents.specs.Kind.{Kind}
use Rattle.goals.specs.Signed.{Signed}
use Rattle.alternatives.specs.Alternative.{Slot, Shape, Placed, Filler, Alternative}
use Rattle.alternatives.specs.Limit.{LimitKind}
use Rattle.alternatives.specs.Expansion.{Expansion}
use Rattle.search.specs.Explored.{Found, number_in}

pub record NumberedPlaced : Type 0 where
  pub slot : Slot
  pub goal : ℕ

pub record NumberedFiller : Type 0 where
  pub slot : Slot
  pub goal : ℕ
  pub room : ℕ

pub record Numbered : Type 0 where
  pub kind : Kind
  pub branch : ℕ
  pub shape : Shape
  pub members : List NumberedPlaced
  pub need : ℕ
  pub fillers : List NumberedFiller

abbrev pub with_member : Slot → Option ℕ → Option (List NumberedPlaced) → Option (List NumberedPlaced)
with_member s (Some n) (Some ms) = Some (record { slot = s; goal = n } ∷ ms)
with_member s (Some n) None = None
with_member s None o = None

abbrev pub with_filler : Slot → ℕ → Option ℕ → List NumberedFiller → List NumberedFiller
with_filler s r None fs = fs
with_filler s r (Some n) fs = record { slot = s; goal = n; room = r } ∷ fs

abbrev pub number_members : List (List Signed) → List Placed → Option (List NumberedPlaced)
number_members gs [] = Some []
number_members gs (m ∷ ms) = with_member m.slot (number_in gs m.goal) (number_members gs ms)

-- a filler without number is left out
abbrev pub number_fillers : List (List Signed) → List Filler → List NumberedFiller
number_fillers gs [] = []
number_fillers gs (f ∷ fs) = with_filler f.slot f.room (number_in gs f.goal) (number_fillers gs fs)

-- an alternative with a member without number is left out
abbrev pub with_members : List (List Signed) → Alternative → Option (List NumberedPlaced) → List Numbered
with_members gs a None = []
with_members gs a (Some ms) = record {
  kind = a.kind;
  branch = a.branch;
  shape = a.shape;
  members = ms;
  need = a.need;
  fillers = number_fillers gs a.fillers;
} ∷ []

abbrev pub numbered : List (List Signed) → List Alternative → List Numbered
numbered gs alternatives = flat_map (λ a. with_members gs a (number_members gs a.members)) alternatives

abbrev pub rooms : (ℕ → Bool) → List NumberedFiller → ℕ
rooms p [] = 0
rooms p (f ∷ fs) = cond (p f.goal) (f.room + rooms p fs) (rooms p fs)

abbrev pub is_met : (ℕ → Bool) → Numbered → Bool
is_met p a = every (λ m. p m.goal) a.members && nat_le a.need (rooms p a.fillers)

-- a test of numbers as a test of goals; what it says without number
abbrev pub test_or : Bool → (ℕ → Bool) → Option ℕ → Bool
test_or b p None = b
test_or b p (Some n) = p n

abbrev pub by_number : Bool → (ℕ → Bool) → List (List Signed) → List Signed → Bool
by_number b p gs g = test_or b p (number_in gs g)

-- the number of the first that passes
abbrev pub first_place : {A : Type 0} → (A → Bool) → List A → Option ℕ
first_place p [] = None
first_place p (x ∷ xs) = cond (p x) (Some 0) (option_map suc (first_place p xs))

-- a goal that has an answer keeps it; else the round and the first alternative that the round before meets
abbrev pub told : ℕ → Option (ℕ × ℕ) → Option ℕ → Option (ℕ × ℕ)
told r (Some a) o = Some a
told r None None = None
told r None (Some i) = Some (suc r, i)

module _ (expansion : List Signed → Expansion) (f : Found) where
  abbrev pub alternatives_at : Option (List Signed) → List Numbered
  alternatives_at None = []
  alternatives_at (Some g) = numbered f.goals (expansion g).alternatives

  abbrev pub hole_at : Option (List Signed) → Option LimitKind
  hole_at None = None
  hole_at (Some g) = (expansion g).hole

  -- a goal that was not taken has no alternatives and no hole
  abbrev pub alternatives_of : ℕ → List Numbered
  alternatives_of n = cond (nat_lt n f.taken) (alternatives_at (slice_get f.goals n)) []

  abbrev pub hole_of : ℕ → Option LimitKind
  hole_of n = cond (nat_lt n f.taken) (hole_at (slice_get f.goals n)) None

  abbrev pub round : ℕ → ℕ → Bool
  round zero n = false
  round (suc r) n = some (is_met (round r)) (alternatives_of n)

  -- the least round and first alternative, looking no further than a round
  abbrev pub answer : ℕ → ℕ → Option (ℕ × ℕ)
  answer zero n = None
  answer (suc r) n = told r (answer r n) (first_place (is_met (λ m. is_some (answer r m))) (alternatives_of n))
