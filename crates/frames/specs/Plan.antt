-- Plans, and the tree of the plans of a frame as its steps in pre-order.
use Rattle.std.specs.Prelude.{ℕ, zero, suc, ◌+◌, max, List, [], ◌∷◌, ◌++◌, map, filter, flat_map, length, take, Bool, true, false, ◌&&◌, not, cond, nat_eq, Option, Some, None, replicate, ◌-◌}
use Rattle.std.specs.Option.{is_none}
use Rattle.std.specs.List.{range_with_len}
use Rattle.positions.specs.Position.{Position}
use Rattle.goals.specs.Signed.{Signed}
use Rattle.goals.specs.Goal.{form}
use Rattle.frames.specs.Frame.{Place, Head, In, Frame, list_at, is_at_end}

-- a member that isn't at one of the first places: its cell, and what it serves
pub record Member : Type 0 where
  pub cell : ℕ
  pub served : List Signed

pub record Plan : Type 0 where
  -- what each first place serves
  pub heads : List (List Signed)
  pub members : List Member

abbrev pub plan : List (List Signed) → List Member → Plan
plan hs ms = record { heads = hs; members = ms }

abbrev pub member : ℕ → List Signed → Member
member c ds = record { cell = c; served = ds }

abbrev pub empty_plan : Frame → Plan
empty_plan frame = plan (replicate frame.heads []) []

-- the demand is served at that place too
abbrev pub serve_head : Signed → List (List Signed) → ℕ → List (List Signed)
serve_head d [] k = []
serve_head d (x ∷ xs) zero = (d ∷ x) ∷ xs
serve_head d (x ∷ xs) (suc k) = x ∷ serve_head d xs k

abbrev pub serve_member : Signed → List Member → ℕ → List Member
serve_member d [] k = []
serve_member d (m ∷ ms) zero = member m.cell (d ∷ m.served) ∷ ms
serve_member d (m ∷ ms) (suc k) = m ∷ serve_member d ms k

abbrev pub count_in : ℕ → List Member → ℕ
count_in c [] = 0
count_in c (m ∷ ms) = cond (nat_eq m.cell c) (suc (count_in c ms)) (count_in c ms)

abbrev pub has_room : Frame → List Member → ℕ → Bool
has_room frame ms c = not (is_at_end (count_in c ms) (frame.cap c))

-- the numbers, from k on, of the members whose cell is inside the demand
abbrev pub servers : Frame → Signed → ℕ → List Member → List ℕ
servers frame d k [] = []
servers frame d k (m ∷ ms) =
    cond (frame.inside d m.cell) (k ∷ servers frame d (suc k) ms) (servers frame d (suc k) ms)

-- each first place, then each member inside, then a new member in each cell inside that has room
abbrev pub options : Frame → Signed → Plan → List Plan
options frame d p =
    map (λ k. plan (serve_head d p.heads k) p.members) (range_with_len 0 (length p.heads))
    ++ map (λ k. plan p.heads (serve_member d p.members k)) (servers frame d 0 p.members)
    ++ map (λ c. plan p.heads (p.members ++ member c (d ∷ []) ∷ []))
    (filter (λ c. frame.inside d c && has_room frame p.members c) frame.cells)

abbrev pub one_more : List Signed → ℕ → ℕ
one_more [] zero = 0
one_more _ n = suc n

-- one more than the last first place that serves
abbrev pub used : List (List Signed) → ℕ
used [] = 0
used (x ∷ xs) = one_more x (used xs)

abbrev pub with_members : ℕ → List Member → ℕ
with_members n [] = 0
with_members n (m ∷ ms) = n + length (m ∷ ms)

-- how many the plan has at least
abbrev pub size : Frame → Plan → ℕ
size frame p = max frame.floor (max (used p.heads) (with_members frame.heads p.members))

abbrev pub heads_from : ℕ → List (List Signed) → List (Place × List Signed)
heads_from k [] = []
heads_from k (x ∷ xs) = (Head k, x) ∷ heads_from (suc k) xs

-- what is at which place, and serves what
abbrev pub placed : Frame → Plan → List (Place × List Signed)
placed frame p = take (size frame p) (heads_from 0 p.heads) ++ map (λ m. (In m.cell, m.served)) p.members

abbrev pub goal_of : List Position → Frame → Place × List Signed → Option (List Signed)
goal_of T frame s = form T (list_at frame s.0 s.1)

-- the number of the first whose list clashes
abbrev pub clash_from : List Position → Frame → ℕ → List (Place × List Signed) → Option ℕ
clash_from T frame k [] = None
clash_from T frame k (s ∷ ss) = cond (is_none (goal_of T frame s)) (Some k) (clash_from T frame (suc k) ss)

abbrev pub first_clash : List Position → Frame → Plan → Option ℕ
first_clash T frame p = clash_from T frame 0 (placed frame p)

pub data PlanStep : Type 0 where
  -- more than there may be
  Over : PlanStep
  -- what is placed there clashes
  Clashing : ℕ → PlanStep
  -- so many options
  Split : ℕ → PlanStep
  Complete : Plan → PlanStep

-- what is made of a plan that isn't dropped
abbrev pub by_clash : Option ℕ → List PlanStep → List PlanStep
by_clash (Some k) ss = Clashing k ∷ []
by_clash None ss = ss

abbrev pub unless_dropped : List Position → Frame → Plan → List PlanStep → List PlanStep
unless_dropped T frame p ss =
    cond (is_at_end (size frame p) frame.below) (Over ∷ []) (by_clash (first_clash T frame p) ss)

-- the steps of the tree of a plan with some demands left
abbrev pub steps : List Position → Frame → List Signed → Plan → List PlanStep
steps T frame [] p = unless_dropped T frame p (Complete p ∷ [])
steps T frame (d ∷ left) p =
    unless_dropped T frame p (Split (length (options frame d p)) ∷ flat_map (steps T frame left) (options frame d p))

unfoldable pub plan_steps : List Position → Frame → List PlanStep
plan_steps T frame = steps T frame frame.demands (empty_plan frame)

abbrev pub is_end : PlanStep → Bool
is_end (Split (suc n)) = false
is_end _ = true

abbrev pub ends : List PlanStep → ℕ
ends [] = 0
ends (s ∷ ss) = cond (is_end s) (suc (ends ss)) (ends ss)

abbrev pub complete : List PlanStep → List Plan
complete [] = []
complete (Complete p ∷ ss) = p ∷ complete ss
complete (s ∷ ss) = complete ss

-- how many elements or members it comes to
abbrev pub total : Frame → Plan → ℕ
total frame p = max frame.lower (size frame p)

-- how many of them it doesn't place
abbrev pub need : Frame → Plan → ℕ
need frame p = total frame p - (frame.heads + length p.members)
