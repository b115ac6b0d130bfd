-- How far the plan of some servers reaches, and what it places by number, read off them.
use Rattle.std.specs.Prelude.{◌≡◌, ℕ, ◌-◌, ◌≤◌, min, List, [], ◌∷◌, ◌++◌, reverse, length, true, cond, nat_lt, ⊤}
use Rattle.goals.specs.Signed.{Signed}
use Rattle.frames.specs.Frame.{Place, Frame}
use Rattle.js_plans.specs.declared.server.Server.{Server}
use Rattle.js_plans.specs.declared.server.Server.TheVariants as V
use Rattle.js_plans.specs.declared.path.Extent.{Extent}
use Rattle.js_plans.specs.Servers.{earlier, are_valid, IsExtent}
use Rattle.js_plans.specs.Goals.{place_after}
use Rattle.js_plans.specs.Walks.{size_of}

-- each server is there, and serves a demand
pub record IsPath (frame : Frame) (ws : List Server) : Type 0 where
  pub few : length ws ≤ length frame.demands
  pub valid : are_valid frame.heads 0 ws ≡ true

-- how far the plan reaches with each of the servers after these; there may be more
abbrev pub AreExtents : List Server → List Server → List Extent → Type 0
AreExtents us [] xs = ⊤
AreExtents us (s ∷ ss) [] = ⊥
AreExtents us (s ∷ ss) (x ∷ xs) = IsExtent (us ++ s ∷ []) x × AreExtents (us ++ s ∷ []) ss xs

-- how many first places are placed, where so many are used and there are so many members
abbrev pub heads_of : Frame → ℕ → ℕ → ℕ
heads_of frame u m = min (size_of frame u m) frame.heads

-- of h first places and the members behind them
abbrev pub server_at : ℕ → ℕ → Server
server_at h k = cond (nat_lt k h) (V.Head k) (V.Member (k - h))

-- the demands that it serves, the latest first
abbrev pub served_at : Frame → List Server → Server → List Signed
served_at frame ws s = reverse (earlier s frame.demands 0 ws)

-- where a server is, and what it serves
abbrev pub seen : Frame → List Server → Server → Place × List Signed
seen frame ws s = (place_after ws s, served_at frame ws s)
