-- What a plan places, by its number, read off the servers.
use Rattle.std.proofs.Common.{◌≡◌, ℕ, ◌+◌, ◌-◌, ◌<◌, ◌≤◌, List, map, length, Bool, true, false, cond, nat_lt, Some, None, option_map, slice_get, refl, arith, ◌∙◌}
use Rattle.std.proofs.lemmas.Bool.{ltb-true, ltb-false}
use Rattle.std.proofs.lemmas.List.{length-map}
use Rattle.std.proofs.lemmas.Option.{slice_get_past}
use Rattle.goals.specs.Signed.{Signed}
use Rattle.frames.specs.Frame.{Place, Frame}
use Rattle.frames.specs.Plan.{Plan, placed}
use Rattle.js_plans.specs.declared.server.Server.{Server}
use Rattle.js_plans.specs.declared.server.Server.TheVariants as V
use Rattle.js_plans.specs.Serving.{plan_after}
use Rattle.js_plans.specs.Servers.{cells_of, most_used}
use Rattle.js_plans.specs.Goals.{place_after}
use Rattle.js_check_plans.specs.Reach.{IsPath, heads_of, server_at, served_at}
use Rattle.list_laws.proofs.Lists.{slice_get-append_right}
use Rattle.js_plans.proofs.Plans.{members-count}
use Rattle.js_plans.proofs.Placing.{stands, first_places, first-count, at-head, at-member}

module _ (frame : Frame) (ws : List Server) where
  abbrev P : Plan
  P = plan_after frame ws

  -- where a server is, and what it serves
  abbrev pub seen : Server → Place × List Signed
  seen s = (place_after ws s, served_at frame ws s)

  at-none : IsPath frame ws → (j k : ℕ) → k ≡ heads_of frame (most_used 0 ws) (length (cells_of ws)) + j
      → length (cells_of ws) ≤ j → slice_get (placed frame P) k ≡ None
  at-none path j k e l =
      slice_get-append_right (first_places frame ws) (map stands P.members) j k
      (omega (arith, e, first-count frame ws path.few path.valid))
      ∙ slice_get_past (map stands P.members) j
      (omega (arith, l, length-map P.members stands, members-count frame ws path.few))

  -- what is placed by a number
  pub placed-at : IsPath frame ws → (k : ℕ)
      → slice_get (placed frame P) k ≡ option_map seen (server_at frame ws k)
  placed-at path k = by_head (nat_lt k h) (ltb-true k h) (ltb-false k h) where
    h : ℕ
    h = heads_of frame (most_used 0 ws) (length (cells_of ws))

    by_cell : (b : Bool) → (b ≡ true → k - h < length (cells_of ws)) → (b ≡ false → length (cells_of ws) ≤ k - h)
        → h ≤ k → slice_get (placed frame P) k ≡ option_map seen (cond b (Some (V.Member (k - h))) None)
    by_cell true y n l = at-member frame ws path.few path.valid (k - h) k (omega (arith, l)) (y refl)
    by_cell false y n l = at-none path (k - h) k (omega (arith, l)) (n refl)

    by_head : (b : Bool) → (b ≡ true → k < h) → (b ≡ false → h ≤ k) → slice_get (placed frame P) k
        ≡ option_map seen
        (cond b (Some (V.Head k)) (cond (nat_lt (k - h) (length (cells_of ws))) (Some (V.Member (k - h))) None))
    by_head true y n = at-head frame ws path.few path.valid k (y refl)
    by_head false y n =
        by_cell (nat_lt (k - h) (length (cells_of ws))) (ltb-true (k - h) (length (cells_of ws)))
        (ltb-false (k - h) (length (cells_of ws))) (n refl)
