-- What a list of servers says of the plan that it makes.
use Rattle.std.specs.Prelude.{◌≡◌, ℕ, ◌+◌, ◌≤◌, ◌^◌, max, List, [], ◌∷◌, ◌++◌, map, length, Bool, true, false, ◌&&◌, cond, nat_eq, nat_lt, ⊤}
use Rattle.goals.specs.Signed.{Signed}
use Rattle.js_plans.specs.declared.server.Server.{Server}
use Rattle.js_plans.specs.declared.server.Server.TheVariants as V
use Rattle.js_plans.specs.declared.path.Served.{Served}
use Rattle.js_plans.specs.declared.path.Extent.{Extent}

abbrev pub servers_of : List Served → List Server
servers_of es = map (λ e. e.server) es

abbrev pub with_cell : Server → List ℕ → List ℕ
with_cell (V.New c) cs = c ∷ cs
with_cell (V.Head k) cs = cs
with_cell (V.Member k) cs = cs

-- the cells of the members, in order
abbrev pub cells_of : List Server → List ℕ
cells_of [] = []
cells_of (s ∷ ss) = with_cell s (cells_of ss)

abbrev pub members_after : ℕ → Server → ℕ
members_after n (V.New c) = n + 1
members_after n (V.Head k) = n
members_after n (V.Member k) = n

abbrev pub used_after : ℕ → Server → ℕ
used_after n (V.Head k) = max n (k + 1)
used_after n (V.Member k) = n
used_after n (V.New c) = n

-- one more than the last first place that serves
abbrev pub most_used : ℕ → List Server → ℕ
most_used n [] = n
most_used n (s ∷ ss) = most_used (used_after n s) ss

-- how far the plan of these servers reaches
pub record IsExtent (ws : List Server) (x : Extent) : Type 0 where
  pub used : x.used ≡ most_used 0 ws
  pub members : x.members ≡ length (cells_of ws)
  pub bound : x.used ≤ 2 ^ 32

-- each server of a path came with how far the plan reaches with it
abbrev pub AreExtents : List Server → List Served → Type 0
AreExtents ws [] = ⊤
AreExtents ws (e ∷ es) = IsExtent (ws ++ e.server ∷ []) e.extent × AreExtents (ws ++ e.server ∷ []) es

-- what serves a demand serves an earlier one too, before which there were m members
abbrev pub serves_too : Server → ℕ → Server → Bool
serves_too (V.Head k) m (V.Head i) = nat_eq i k
serves_too (V.Member k) m (V.Member i) = nat_eq i k
serves_too (V.Member k) m (V.New c) = nat_eq m k
serves_too _ m _ = false

-- the demands that it serves, the earliest first
abbrev pub earlier : Server → List Signed → ℕ → List Server → List Signed
earlier s ds m [] = []
earlier s [] m (w ∷ ws) = []
earlier s (d ∷ ds) m (w ∷ ws) =
    cond (serves_too s m w) (d ∷ earlier s ds (members_after m w) ws) (earlier s ds (members_after m w) ws)

-- it is there, with h first places and m members
abbrev pub is_valid : ℕ → ℕ → Server → Bool
is_valid h m (V.Head k) = nat_lt k h
is_valid h m (V.Member k) = nat_lt k m
is_valid h m (V.New c) = true

abbrev pub are_valid : ℕ → ℕ → List Server → Bool
are_valid h m [] = true
are_valid h m (s ∷ ss) = is_valid h m s && are_valid h (members_after m s) ss
