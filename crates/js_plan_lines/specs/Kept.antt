-- What was placed before the last server of a path served, where nothing clashed.
use Rattle.std.specs.Prelude.{◌≡◌, ℕ, ◌+◌, ◌-◌, ◌^◌, ◌<◌, min, max, List, [], ◌∷◌, ◌++◌, take, length, Bool, false, ◌&&◌, not, nat_lt, cond, Option, Some, None, ⊤}
use Rattle.positions.specs.Position.{Position}
use Rattle.frames.specs.Frame.{Frame}
use Rattle.frames.specs.Plan.{first_clash}
use Rattle.verdicts.specs.Duties.{heads_placed}
use Rattle.js_plans.specs.declared.server.Server.{Server}
use Rattle.js_plans.specs.declared.server.Server.TheVariants as V
use Rattle.js_plans.specs.Serving.{plan_after}
use Rattle.js_plans.specs.Servers.{cells_of, serves_too}
use Rattle.js_plan_lines.specs.declared.before.Before.{Before}

-- nothing that these servers place clashes
abbrev pub IsClear : List Position → Frame → List Server → Type 0
IsClear T frame ws = first_clash T frame (plan_after frame ws) ≡ None

-- nothing clashes without the last server
abbrev pub WasClear : List Position → Frame → List Server → Type 0
WasClear T frame ws = 0 < length ws → IsClear T frame (take (length ws - 1) ws)

-- it is one of h first places and m members
abbrev pub is_among : ℕ → ℕ → Server → Bool
is_among h m (V.Head k) = nat_lt k h
is_among h m (V.Member k) = nat_lt k m
is_among h m (V.New c) = false

-- it was placed before the last server, which it doesn't stand for
abbrev pub is_kept : Option Before → Server → Bool
is_kept None s = false
is_kept (Some b) s = is_among b.heads b.members s && not (serves_too s b.members b.last)

-- the first place that a server serves, or n
abbrev pub head_or : ℕ → Server → ℕ
head_or n (V.Head k) = k
head_or n (V.Member k) = n
head_or n (V.New c) = n

-- the member that a server serves, or n
abbrev pub member_or : ℕ → Server → ℕ
member_or n (V.Head k) = n
member_or n (V.Member k) = k
member_or n (V.New c) = n

-- from n on, what is below e goes on to there, or to the last server
abbrev pub end_before : ℕ → ℕ → ℕ → ℕ
end_before n e last = cond (nat_lt last n) e (min e last)

-- the numbers from n on that are below this one are kept, where h first places are placed
abbrev pub skip_kept : Before → ℕ → ℕ → ℕ
skip_kept b h n =
    cond (nat_lt n h) (max n (end_before n (min b.heads h) (head_or b.heads b.last)))
    (max n (min (h + end_before (n - h) b.members (member_or b.members b.last)) (2 ^ 64 - 1)))

abbrev pub skip : Option Before → ℕ → ℕ → ℕ
skip None h n = n
skip (Some b) h n = skip_kept b h n

-- so many were placed before the last server of the path, and none of them clashed
pub record IsBefore (T : List Position) (frame : Frame) (ws : List Server) (b : Before) : Type 0 where
  pub path : List Server
  pub is : ws ≡ path ++ b.last ∷ []
  pub heads : b.heads ≡ heads_placed frame (plan_after frame path)
  pub members : b.members ≡ length (cells_of path)
  pub clear : IsClear T frame path

abbrev pub AreBefore : List Position → Frame → List Server → Option Before → Type 0
AreBefore T frame ws None = ⊤
AreBefore T frame ws (Some b) = IsBefore T frame ws b
