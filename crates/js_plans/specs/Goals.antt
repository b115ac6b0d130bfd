-- The goals of the places of a plan, as they are formed after the servers of a path.
use Rattle.std.specs.Prelude.{◌≡◌, ℕ, suc, ◌<◌, List, [], ◌∷◌, ◌++◌, map, drop, reverse, length, get_or, Option, Some, None, ⊤}
use Rattle.positions.specs.Position.{Position}
use Rattle.goals.specs.Signed.{Signed, Plus}
use Rattle.frames.specs.Frame as F
use Rattle.frames.specs.Frame.{Frame}
use Rattle.frames.specs.Plan.{goal_of}
use Rattle.js_plans.specs.declared.server.Server.{Server}
use Rattle.js_plans.specs.declared.server.Server.TheVariants as V
use Rattle.js_plans.specs.declared.path.Served.{Served}
use Rattle.js_plans.specs.Servers.{cells_of, earlier}

-- where a server is
abbrev pub place_after : List Server → Server → F.Place
place_after ws (V.Head k) = F.Head k
place_after ws (V.Member k) = F.In (get_or (cells_of ws) k 0)
place_after ws (V.New c) = F.In c

-- the goal of a server that serves the next demand too
abbrev pub goal_after : List Position → Frame → List Server → Server → Option (List Signed)
goal_after T frame ws s =
    goal_of T frame
    (place_after ws s, reverse (earlier s frame.demands 0 ws ++ get_or frame.demands (length ws) (Plus 0) ∷ []))

-- the goals of first places that serve nothing, from one on
abbrev pub AreFirst : List Position → Frame → ℕ → List (List Signed) → Type 0
AreFirst T frame k [] = ⊤
AreFirst T frame k (g ∷ gs) = (goal_of T frame (F.Head k, []) ≡ Some g) × AreFirst T frame (suc k) gs

-- one of those below n has none
abbrev pub IsFirstClash : List Position → Frame → ℕ → Type 0
IsFirstClash T frame n = (k : ℕ) × (k < n) × (goal_of T frame (F.Head k, []) ≡ None)

-- the goal of what serves nothing in a cell
abbrev pub filler_goal : List Position → Frame → ℕ → Option (List Signed)
filler_goal T frame c = goal_of T frame (F.In c, [])

-- they are those of the first of the cells, in order
abbrev pub AreFillers : List Position → Frame → List (Option (List Signed)) → Type 0
AreFillers T frame gs =
    gs ++ map (filler_goal T frame) (drop (length gs) frame.cells) ≡ map (filler_goal T frame) frame.cells

-- each server of a path came with its goal
abbrev pub AreGoals : List Position → Frame → List Server → List Served → Type 0
AreGoals T frame ws [] = ⊤
AreGoals T frame ws (e ∷ es) =
    (goal_after T frame ws e.server ≡ Some e.goal) × AreGoals T frame (ws ++ e.server ∷ []) es
