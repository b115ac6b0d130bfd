-- What lines of a plan show, one after another.
use Rattle.std.specs.Prelude.{ℕ, ◌+◌, ◌-◌, List, [], ◌∷◌, Bool, true, false, cond, nat_lt, Option, Some, None, Result, Ok, Err, slice_get}
use Rattle.std.specs.Option.{is_none}
use Rattle.positions.specs.Position.{Position}
use Rattle.goals.specs.Signed.{Signed}
use Rattle.goals.specs.Goal.{form}
use Rattle.frames.specs.Frame.{Place, In, Frame, list_at, is_at_end}
use Rattle.frames.specs.Plan.{Member, Plan, count_in, options, size, placed, need}

pub data Ending : Type 0 where
  Clashes : Ending
  Cites : ℕ → Ending

pub data Entry : Type 0 where
  Kept : Entry
  Ends : Ending → Entry

pub data PlanLine : Type 0 where
  Count : PlanLine
  Split : PlanLine
  -- the line of what is placed, by its number
  At : ℕ → Ending → PlanLine
  Short : List Entry → PlanLine

abbrev pub plus : Option ℕ → Option ℕ → Option ℕ
plus (Some m) (Some n) = Some (m + n)
plus (Some m) None = None
plus None o = None

abbrev pub room_of : ℕ → Option ℕ → Option ℕ
room_of n None = None
room_of n (Some b) = Some (b - n)

abbrev pub is_short : ℕ → Option ℕ → Bool
is_short n None = false
is_short n (Some m) = nat_lt m n

abbrev pub where_true : Bool → ℕ → Result (List Plan) ℕ
where_true true r = Ok []
where_true false r = Err r

module _ (T : List Position) (cite : ℕ → List Signed → Bool) where
  abbrev pub is_cited : ℕ → Option (List Signed) → Bool
  is_cited k None = false
  is_cited k (Some g) = cite k g

  -- the list clashes, or its goal is one that is cited by that number
  abbrev pub is_refuted : List Signed → Ending → Bool
  is_refuted l Clashes = is_none (form T l)
  is_refuted l (Cites k) = is_cited k (form T l)

  -- the rooms of the cells that are kept, an entry a cell; none where an entry is wrong
  abbrev pub rooms : Frame → List Member → List ℕ → List Entry → Option ℕ
  rooms frame ms [] [] = Some 0
  rooms frame ms (c ∷ cs) (Kept ∷ es) = plus (room_of (count_in c ms) (frame.cap c)) (rooms frame ms cs es)
  rooms frame ms (c ∷ cs) (Ends e ∷ es) = cond (is_refuted (list_at frame (In c) []) e) (rooms frame ms cs es) None
  rooms frame ms _ _ = None

  abbrev pub is_refuted_at : Frame → Option (Place × List Signed) → Ending → Bool
  is_refuted_at frame None e = false
  is_refuted_at frame (Some s) e = is_refuted (list_at frame s.0 s.1) e

  -- the plans that a line leaves to be shown dead, with a demand less; or the rule that it breaks
  abbrev pub after : Frame → Plan → List Signed → PlanLine → Result (List Plan) ℕ
  after frame p left Count = where_true (is_at_end (size frame p) frame.below) 24
  after frame p (d ∷ left) Split = Ok (options frame d p)
  after frame p [] Split = Err 22
  after frame p left (At k e) = where_true (is_refuted_at frame (slice_get (placed frame p) k) e) 23
  after frame p [] (Short es) = where_true (is_short (need frame p) (rooms frame p.members frame.cells es)) 24
  after frame p (d ∷ left) (Short es) = Err 24
