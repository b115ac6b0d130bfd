-- What serves the demands of a frame one after another, and the plans and the steps after that.
use Rattle.std.specs.Prelude.{List, [], ◌∷◌, ◌++◌, map, filter, drop, length, ◌&&◌}
use Rattle.std.specs.List.{range_with_len}
use Rattle.positions.specs.Position.{Position}
use Rattle.goals.specs.Signed.{Signed}
use Rattle.frames.specs.Frame as F
use Rattle.frames.specs.Frame.{Frame}
use Rattle.frames.specs.Plan.{Plan, PlanStep, plan, member, empty_plan, serve_head, serve_member, servers, has_room, steps}
use Rattle.js_plans.specs.declared.server.Place.{Place}
use Rattle.js_plans.specs.declared.server.Place.TheVariants as P
use Rattle.js_plans.specs.declared.server.Server.{Server}
use Rattle.js_plans.specs.declared.server.Server.TheVariants as V

abbrev pub place_view : Place → F.Place
place_view (P.Head k) = F.Head k
place_view (P.In c) = F.In c

-- the demand is served too
abbrev pub serve : Signed → Plan → Server → Plan
serve d p (V.Head k) = plan (serve_head d p.heads k) p.members
serve d p (V.Member k) = plan p.heads (serve_member d p.members k)
serve d p (V.New c) = plan p.heads (p.members ++ member c (d ∷ []) ∷ [])

-- what may serve a demand, in order
abbrev pub choices : Frame → Signed → Plan → List Server
choices frame d p =
    map V.Head (range_with_len 0 (length p.heads))
    ++ map V.Member (servers frame d 0 p.members)
    ++ map V.New (filter (λ c. frame.inside d c && has_room frame p.members c) frame.cells)

-- demands are served, the first by the first
abbrev pub serve_all : List Signed → List Server → Plan → Plan
serve_all ds [] p = p
serve_all [] (s ∷ ss) p = p
serve_all (d ∷ ds) (s ∷ ss) p = serve_all ds ss (serve d p s)

abbrev pub plan_after : Frame → List Server → Plan
plan_after frame ss = serve_all frame.demands ss (empty_plan frame)

-- the steps of the tree from there on
abbrev pub steps_after : List Position → Frame → List Server → List PlanStep
steps_after T frame ss = steps T frame (drop (length ss) frame.demands) (plan_after frame ss)
