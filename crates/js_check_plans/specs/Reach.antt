-- How far the plan of some servers reaches, and what it places by number, read off them.
use Rattle.std.specs.Prelude.{◌≡◌, ℕ, ◌-◌, ◌≤◌, min, List, [], ◌∷◌, reverse, length, true, cond, nat_lt, Option, Some, None}
use Rattle.goals.specs.Signed.{Signed}
use Rattle.frames.specs.Frame.{Frame}
use Rattle.js_plans.specs.declared.server.Server.{Server}
use Rattle.js_plans.specs.declared.server.Server.TheVariants as V
use Rattle.js_plans.specs.Servers.{cells_of, used_after, most_used, earlier, are_valid}
use Rattle.js_plans.specs.Walks.{size_of}

-- each server is there, and serves a demand
pub record IsPath (frame : Frame) (ws : List Server) : Type 0 where
  pub few : length ws ≤ length frame.demands
  pub valid : are_valid frame.heads 0 ws ≡ true

-- with each server, one more than the last first place that serves, where it was n before them
abbrev pub useds : ℕ → List Server → List ℕ
useds n [] = []
useds n (s ∷ ss) = used_after n s ∷ useds (used_after n s) ss

-- the last number, or n
abbrev pub last_or : ℕ → List ℕ → ℕ
last_or n [] = n
last_or n (x ∷ xs) = last_or x xs

-- how many first places are placed, where so many are used and there are so many members
abbrev pub heads_of : Frame → ℕ → ℕ → ℕ
heads_of frame u m = min (size_of frame u m) frame.heads

-- the server of a number, among h first places and m members behind them
abbrev pub by_number : ℕ → ℕ → ℕ → Option Server
by_number h m k = cond (nat_lt k h) (Some (V.Head k)) (cond (nat_lt (k - h) m) (Some (V.Member (k - h))) None)

-- what is placed by a number, as a server
abbrev pub server_at : Frame → List Server → ℕ → Option Server
server_at frame ws k = by_number (heads_of frame (most_used 0 ws) (length (cells_of ws))) (length (cells_of ws)) k

-- the demands that it serves, the latest first
abbrev pub served_at : Frame → List Server → Server → List Signed
served_at frame ws s = reverse (earlier s frame.demands 0 ws)
