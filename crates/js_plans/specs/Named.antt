-- How the slots of an alternative are named, and its members and fillers by the cells and the goals of what is placed.
use Rattle.std.specs.Prelude.{ℕ, suc, ◌+◌, ◌^◌, ◌<◌, ◌≤◌, List, [], ◌∷◌, length, Result, Ok, Err, ◌≡◌, ⊤}
use Rattle.positions.specs.Position.{Position}
use Rattle.goals.specs.Signed.{Signed}
use Rattle.frames.specs.Frame as F
use Rattle.frames.specs.Frame.{Frame}
use Rattle.frames.specs.Plan.{Plan, goal_of}
use Rattle.frames.specs.Fillers as P
use Rattle.frames.specs.Fillers.{times, with_room}
use Rattle.alternatives.specs.Alternative as A
use Rattle.alternatives.specs.Limit as L
use Rattle.expansions.specs.Leaves as N
use Rattle.expansions.specs.Leaves.{by_index, by_name, filling_of, by_plans}
use Rattle.js_plans.specs.declared.naming.Naming.{Naming}
use Rattle.js_plans.specs.declared.naming.Naming.TheVariants as V
use Rattle.js_plans.specs.declared.fault.PlanFault.{PlanFault}
use Rattle.js_plans.specs.declared.fault.PlanFault.TheVariants as W

abbrev pub naming_view : Naming → N.Naming
naming_view V.ByIndex = by_index
naming_view V.ByName = by_name

-- members from number i on, by their cells and goals; `before` are the cells of earlier ones
abbrev pub placed_from : N.Naming → ℕ → List ℕ → List ℕ → List (List Signed) → List A.Placed
placed_from N i before [] gs = []
placed_from N i before (c ∷ cs) [] = []
placed_from N i before (c ∷ cs) (g ∷ gs) =
    record { slot = N.slot i before (F.In c); goal = g } ∷ placed_from N (suc i) (c ∷ before) cs gs

-- the filler of a cell, if it has room
abbrev pub filler_in : List Position → Frame → List ℕ → ℕ → List P.Filler
filler_in T frame members c =
    with_room c (times c members) (goal_of T frame (F.In c, [])) (frame.room c (times c members))

-- the greatest lower bound of a count that is searched
abbrev pub most_counts : ℕ
most_counts = 65536

-- its counts are so small that the program's numbers hold those of its plans
pub record IsSmall (frame : Frame) : Type 0 where
  pub lower : frame.lower ≤ most_counts
  pub floor : frame.floor ≤ most_counts
  pub places : frame.heads + length frame.demands < 2 ^ 32

-- the answer for a frame; want of memory says nothing
abbrev pub Answers : (Frame → Plan → A.Alternative) → List Position → Frame → Result (List A.Alternative) PlanFault
    → Type 0
Answers make T frame (Ok l) = by_plans make T frame ≡ Ok l
Answers make T frame (Err W.LimitPlans) = by_plans make T frame ≡ Err L.Plans
Answers make T frame (Err W.Memory) = ⊤

abbrev pub filling_slot : Naming → ℕ → ℕ → ℕ → A.Slot
filling_slot V.ByIndex n c k = A.Index n
filling_slot V.ByName n c k = A.Name c k
