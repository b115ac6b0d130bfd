-- What a plan places, by its number, read off the servers.
use Rattle.std.proofs.Common.{◌≡◌, ℕ, ◌+◌, ◌-◌, ◌<◌, ◌≤◌, min, List, map, length, Bool, true, false, cond, nat_lt, Some, slice_get, refl, arith, ap₂, ◌∙◌}
use Rattle.std.proofs.lemmas.Bool.{ltb-true, ltb-false}
use Rattle.std.proofs.lemmas.List.{length-map, length-append}
use Rattle.frames.specs.Frame.{Frame}
use Rattle.frames.specs.Plan.{Plan, placed}
use Rattle.verdicts.specs.Duties.{heads_placed}
use Rattle.js_plans.specs.declared.server.Server.{Server}
use Rattle.js_plans.specs.declared.server.Server.TheVariants as V
use Rattle.js_plans.specs.Serving.{plan_after}
use Rattle.js_plans.specs.Servers.{cells_of, most_used}
use Rattle.js_plan_lines.specs.Reach.{IsPath, heads_of, server_at, seen}
use Rattle.js_plans.proofs.Plans.{heads-long, members-count, size-plan}
use Rattle.js_plans.proofs.Placing.{stands, first_places, first-count, at-head, at-member}

module _ (frame : Frame) (ws : List Server) where
  abbrev P : Plan
  P = plan_after frame ws

  pub heads-are : IsPath frame ws → heads_placed frame P ≡ heads_of frame (most_used 0 ws) (length (cells_of ws))
  heads-are path = ap₂ min (size-plan frame ws path.few path.valid) (heads-long frame ws)

  pub placed-count : IsPath frame ws
      → length (placed frame P) ≡ heads_of frame (most_used 0 ws) (length (cells_of ws)) + length (cells_of ws)
  placed-count path =
      length-append (first_places frame ws) (map stands P.members)
      ∙ ap₂ (λ m n. m + n) (first-count frame ws path.few path.valid)
      (length-map P.members stands ∙ members-count frame ws path.few)

  -- what is placed by a number
  pub placed-at : IsPath frame ws → (h k : ℕ) → h ≡ heads_placed frame P → k < length (placed frame P)
      → slice_get (placed frame P) k ≡ Some (seen frame ws (server_at h k))
  placed-at path h k e l = by_head (nat_lt k h) (ltb-true k h) (ltb-false k h) where
    same : h ≡ heads_of frame (most_used 0 ws) (length (cells_of ws))
    same = e ∙ heads-are path

    by_head : (b : Bool) → (b ≡ true → k < h) → (b ≡ false → h ≤ k) → slice_get (placed frame P) k
        ≡ Some (seen frame ws (cond b (V.Head k) (V.Member (k - h))))
    by_head true y n = at-head frame ws path.few path.valid k (omega (arith, y refl, same))
    by_head false y n =
        at-member frame ws path.few path.valid (k - h) k (omega (arith, n refl, same))
        (omega (arith, l, placed-count path, n refl, same))
