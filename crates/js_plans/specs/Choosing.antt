-- What may serve the next demand, by the cells of the members.
use Rattle.std.specs.Prelude.{ℕ, ◌+◌, List, [], ◌∷◌, ◌++◌, map, length, get_or, ◌&&◌, not, cond}
use Rattle.std.specs.List.{range_with_len}
use Rattle.goals.specs.Signed.{Signed, Plus}
use Rattle.frames.specs.Frame.{Frame, is_at_end}
use Rattle.frames.specs.Fillers.{times}
use Rattle.js_plans.specs.declared.server.Server.{Server}
use Rattle.js_plans.specs.declared.server.Server.TheVariants as V
use Rattle.js_plans.specs.Serving.{choices, plan_after}

-- the demand that is served next
abbrev pub next_demand : Frame → List Server → Signed
next_demand frame ws = get_or frame.demands (length ws) (Plus 0)

abbrev pub choices_after : Frame → List Server → List Server
choices_after frame ws = choices frame (next_demand frame ws) (plan_after frame ws)

-- the members, from number k on, whose cells are inside
abbrev pub serving_cells : Frame → Signed → ℕ → List ℕ → List Server
serving_cells frame d k [] = []
serving_cells frame d k (c ∷ cs) =
    cond (frame.inside d c) (V.Member k ∷ serving_cells frame d (k + 1) cs) (serving_cells frame d (k + 1) cs)

-- new members in the cells that are inside and have room
abbrev pub open_cells : Frame → Signed → List ℕ → List ℕ → List Server
open_cells frame d members [] = []
open_cells frame d members (c ∷ cs) =
    cond (frame.inside d c && not (is_at_end (times c members) (frame.cap c)))
    (V.New c ∷ open_cells frame d members cs) (open_cells frame d members cs)

-- the choices for the demand of that number, by the cells of the members
abbrev pub choices_at : Frame → ℕ → List ℕ → List Server
choices_at frame k members =
    (map V.Head (range_with_len 0 frame.heads) ++ serving_cells frame (get_or frame.demands k (Plus 0)) 0 members)
    ++ open_cells frame (get_or frame.demands k (Plus 0)) members frame.cells
