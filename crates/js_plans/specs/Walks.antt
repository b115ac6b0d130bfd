-- How far a walk through the plans of a frame has come, and the steps that are left.
use Rattle.std.specs.Prelude.{◌≡◌, ℕ, zero, suc, ◌+◌, ◌<◌, ◌≤◌, min, max, List, [], ◌∷◌, ◌++◌, map, take, length, reverse, Bool, true, false, Option, Some, None, ⊤}
use Rattle.positions.specs.Position.{Position}
use Rattle.frames.specs.Frame.{Frame}
use Rattle.frames.specs.Plan as F
use Rattle.frames.specs.Plan.{Plan, size, ends}
use Rattle.js_plans.specs.declared.server.Server.{Server}
use Rattle.js_plans.specs.declared.path.Served.{Served}
use Rattle.js_plans.specs.declared.walk.PlanStep.{PlanStep}
use Rattle.js_plans.specs.declared.walk.PlanStep.TheVariants as V
use Rattle.js_plans.specs.declared.walk.Pending.{Pending}
use Rattle.js_plans.specs.declared.walk.PlanWalk.{PlanWalk}
use Rattle.js_plans.specs.Serving.{plan_after, steps_after}
use Rattle.js_plans.specs.Choosing.{choices_after}
use Rattle.js_plans.specs.Servers.{servers_of, cells_of, is_valid, are_valid, AreExtents}
use Rattle.js_plans.specs.Goals.{AreFirst, AreGoals, goal_after}

-- the most ends that a tree may have
abbrev pub most_plans : ℕ
most_plans = 65536

abbrev pub with_count : ℕ → ℕ → ℕ
with_count h zero = 0
with_count h (suc m) = h + suc m

-- the size of a plan that uses so many first places and has so many members
abbrev pub size_of : Frame → ℕ → ℕ → ℕ
size_of frame u m = max frame.floor (max u (with_count frame.heads m))

abbrev pub listed : Option Server → List Server
listed None = []
listed (Some s) = s ∷ []

-- how many first places are placed
abbrev pub placed_heads : Frame → List Server → ℕ
placed_heads frame ws = min (size frame (plan_after frame ws)) frame.heads

-- each server is there, and came with its goal and with how far the plan reaches
pub record IsPath (T : List Position) (frame : Frame) (es : List Served) : Type 0 where
  pub few : length es ≤ length frame.demands
  pub valid : are_valid frame.heads 0 (servers_of es) ≡ true
  pub goals : AreGoals T frame [] es
  pub extents : AreExtents [] es

-- it can serve the next demand
abbrev pub Fits : Frame → List Server → Option Server → Type 0
Fits frame ws None = ⊤
Fits frame ws (Some s) = (length ws < length frame.demands) × (is_valid frame.heads (length (cells_of ws)) s ≡ true)

abbrev pub AreFine : Frame → List Server → List Pending → Type 0
AreFine frame ws [] = ⊤
AreFine frame ws (e ∷ es) =
    (e.level ≤ length ws) × Fits frame (take e.level ws) e.server × AreFine frame (take e.level ws) es

-- the steps of the plans that are still to be visited, the next one first
abbrev pub steps_left : List Position → Frame → List Server → List Pending → List F.PlanStep
steps_left T frame ws [] = []
steps_left T frame ws (e ∷ es) =
    steps_after T frame (take e.level ws ++ listed e.server) ++ steps_left T frame (take e.level ws) es

abbrev pub entry : ℕ → Server → Pending
entry n s = record { level = n; server = Some s }

-- the servers that are still to be tried after these
abbrev pub entries : Frame → List Server → List Pending
entries frame ws = map (entry (length ws)) (choices_after frame ws)

-- the steps of a walk that weren't given yet
abbrev pub left : List Position → Frame → PlanWalk → List F.PlanStep
left T frame walk = steps_left T frame (servers_of walk.path.items) (reverse walk.pending.items)

pub record IsWalk (T : List Position) (frame : Frame) (walk : PlanWalk) : Type 0 where
  pub path : IsPath T frame walk.path.items
  pub cells : walk.cells.items ≡ cells_of (servers_of walk.path.items)
  pub first : AreFirst T frame 0 walk.first.items
  pub fine : AreFine frame (servers_of walk.path.items) (reverse walk.pending.items)
  pub few : walk.ends + length walk.pending.items ≤ most_plans

-- a step of the program stands for a step of the tree, which has come to the servers
abbrev pub Matches : Frame → List Server → PlanStep → F.PlanStep → Type 0
Matches frame ws V.Over s = s ≡ F.Over
Matches frame ws V.Clashing s = (k : ℕ) × (s ≡ F.Clashing k)
Matches frame ws (V.Split n) s = s ≡ F.Split n
Matches frame ws V.Complete s = s ≡ F.Complete (plan_after frame ws)

abbrev pub is_end : PlanStep → Bool
is_end V.Over = true
is_end V.Clashing = true
is_end (V.Split zero) = true
is_end (V.Split (suc n)) = false
is_end V.Complete = true

abbrev pub one_more : Bool → ℕ → ℕ
one_more true n = n + 1
one_more false n = n

-- the plan is dropped
abbrev pub IsDropped : List Position → Frame → List Server → PlanStep → Type 0
IsDropped T frame ws V.Over = steps_after T frame ws ≡ F.Over ∷ []
IsDropped T frame ws V.Clashing = (k : ℕ) × (steps_after T frame ws ≡ F.Clashing k ∷ [])
IsDropped T frame ws (V.Split n) = ⊥
IsDropped T frame ws V.Complete = ⊥

-- what is to serve the next demand clashes
abbrev pub IsClash : List Position → Frame → List Server → Option Server → Type 0
IsClash T frame ws None = ⊥
IsClash T frame ws (Some s) = goal_after T frame ws s ≡ None

-- the path goes on with the server
pub record GoesOn (T : List Position) (frame : Frame) (old new : List Served) (s : Option Server) : Type 0 where
  pub path : IsPath T frame new
  pub servers : servers_of new ≡ servers_of old ++ listed s

-- all demands are served, or the choices for the next one are still to be visited
abbrev pub Opens : Frame → List Server → List Pending → List Pending → PlanStep → Type 0
Opens frame ws old new V.Over = ⊥
Opens frame ws old new V.Clashing = ⊥
Opens frame ws old new (V.Split n) =
    (length ws < length frame.demands) × (n ≡ length (choices_after frame ws))
    × (reverse new ≡ entries frame ws ++ reverse old)
Opens frame ws old new V.Complete = (length ws ≡ length frame.demands) × (new ≡ old)

-- the plan of the path and the server was visited
pub record Visits (T : List Position) (frame : Frame) (server : Option Server) (old new : PlanWalk)
    (s : PlanStep) : Type 0 where
  pub step : F.PlanStep
  pub is : Matches frame (servers_of new.path.items) s step
  pub told : steps_after T frame (servers_of old.path.items ++ listed server) ++ left T frame old
      ≡ step ∷ left T frame new
  pub path : IsPath T frame new.path.items
  pub cells : new.cells.items ≡ cells_of (servers_of new.path.items)
  pub first : AreFirst T frame 0 new.first.items
  pub fine : AreFine frame (servers_of new.path.items) (reverse new.pending.items)
  pub complete : s ≡ V.Complete → placed_heads frame (servers_of new.path.items) ≤ length new.first.items

-- the step is the next one; the ends that were given and those that are left are as many as before
pub record Tells (T : List Position) (frame : Frame) (old new : PlanWalk) (s : PlanStep) : Type 0 where
  pub step : F.PlanStep
  pub is : Matches frame (servers_of new.path.items) s step
  pub told : left T frame old ≡ step ∷ left T frame new
  pub ends : new.ends + ends (left T frame new) ≡ old.ends + ends (left T frame old)
  pub complete : s ≡ V.Complete → placed_heads frame (servers_of new.path.items) ≤ length new.first.items

-- a walk through a tree that is within the limit
pub record IsCounted (T : List Position) (frame : Frame) (w : PlanWalk) : Type 0 where
  pub walk : IsWalk T frame w
  pub few : w.ends + ends (left T frame w) ≤ most_plans

-- a step was given, or none is left
abbrev pub AfterStep : List Position → Frame → PlanWalk → PlanWalk → Option PlanStep → Type 0
AfterStep T frame old new None = (left T frame old ≡ []) × (left T frame new ≡ [])
AfterStep T frame old new (Some s) = Tells T frame old new s

-- the plan of a step, where it is complete
abbrev pub told_plans : Frame → List Server → PlanStep → List Plan
told_plans frame ws V.Over = []
told_plans frame ws V.Clashing = []
told_plans frame ws (V.Split n) = []
told_plans frame ws V.Complete = plan_after frame ws ∷ []
