-- The lines of the plans that are still to be visited.
use Rattle.std.specs.Prelude.{◌≡◌, ℕ, ◌<◌, ◌≤◌, List, [], ◌∷◌, ◌++◌, take, drop, length, reverse, true, Option, ⊤}
use Rattle.positions.specs.Position.{Position}
use Rattle.goals.specs.Signed.{Signed}
use Rattle.frames.specs.Frame.{Frame}
use Rattle.certificate_lines.specs.Line.{Line}
use Rattle.verdicts.specs.Duties.{Form}
use Rattle.refutations.specs.PlanTreeLines.{lines_from}
use Rattle.js_plans.specs.declared.server.Server.{Server}
use Rattle.js_plans.specs.Serving.{plan_after}
use Rattle.js_plans.specs.Servers.{cells_of, is_valid}
use Rattle.js_plan_lines.specs.declared.tree.Pending.{Pending}
use Rattle.js_plan_lines.specs.Kept.{IsClear}

abbrev pub entry : ℕ → Server → Pending
entry n s = record { level = n; server = s }

-- it can serve the next demand
abbrev pub Fits : Frame → List Server → Server → Type 0
Fits frame ws s = (length ws < length frame.demands) × (is_valid frame.heads (length (cells_of ws)) s ≡ true)

abbrev pub AreFine : Frame → List Server → List Pending → Type 0
AreFine frame ws [] = ⊤
AreFine frame ws (e ∷ es) =
    (e.level ≤ length ws) × Fits frame (take e.level ws) e.server × AreFine frame (take e.level ws) es

-- nothing clashes where they go on
abbrev pub AreClear : List Position → Frame → List Server → List Pending → Type 0
AreClear T frame ws [] = ⊤
AreClear T frame ws (e ∷ es) = IsClear T frame (take e.level ws) × AreClear T frame (take e.level ws) es

module _ (number : List Signed → Option ℕ) (form : Form) (T : List Position) (frame : Frame) where
  -- the lines of the tree of the plan that these servers make
  abbrev pub lines_after : List Server → List Line
  lines_after ws = lines_from number form T frame (drop (length ws) frame.demands) (plan_after frame ws)

  -- the lines of the plans to come, the next one first
  abbrev pub lines_left : List Server → List Pending → List Line
  lines_left ws [] = []
  lines_left ws (e ∷ es) = lines_after (take e.level ws ++ e.server ∷ []) ++ lines_left (take e.level ws) es

  -- the line of a plan was added, and the plans below it are to come
  pub record Visits (ws : List Server) (old new : List Pending) (before after : List Line) : Type 0 where
    pub line : Line
    pub added : after ≡ before ++ line ∷ []
    pub told : lines_after ws ++ lines_left ws (reverse old) ≡ line ∷ lines_left ws (reverse new)
    pub fine : AreFine frame ws (reverse old) → AreFine frame ws (reverse new)
    pub clear : AreClear T frame ws (reverse old) → AreClear T frame ws (reverse new)
