-- The plans that are still to be shown empty, as duties.
use Rattle.std.specs.Prelude.{◌≡◌, ℕ, ◌<◌, ◌≤◌, List, [], ◌∷◌, ◌++◌, map, take, drop, length, reverse, Bool, true, false, cond, Result, slice_get, ⊤}
use Rattle.std.specs.Coded.{Coded-set, coded_bool, le_prop, Unit-prop}
use Rattle.positions.specs.Position.{Position}
use Rattle.goals.specs.Signed.{Signed}
use Rattle.frames.specs.Frame.{Frame}
use Rattle.frames.specs.Plan.{placed}
use Rattle.frames.specs.PlanLines.{is_refuted_at}
use Rattle.certificate_lines.specs.Line as L
use Rattle.verdicts.specs.Rules.{not_refuted}
use Rattle.verdicts.specs.RowLines.{if_so}
use Rattle.verdicts.specs.Duties.{Form, Duty, OfPlan, ending, after}
use Rattle.verdicts.specs.Verdict.{cites}
use Rattle.js_plans.specs.declared.server.Server.{Server}
use Rattle.js_plans.specs.Serving.{plan_after}
use Rattle.js_plans.specs.Servers.{cells_of, is_valid}
use Rattle.js_check_plans.specs.declared.open_plans.OpenPlans.{OpenPlans}
use Rattle.js_check_plans.specs.declared.open_plans.Pending.{Pending}
use Rattle.js_check_plans.specs.declared.choices.Slot.{Slot}
use Rattle.js_check_plans.specs.Reach.{IsPath}
use Rattle.js_check_plans.specs.Slots.{choices_at}

abbrev pub is_split : L.Line → Bool
is_split L.Split = true
is_split _ = false

-- the plan that these servers make
abbrev pub at_hand : Form → Frame → List Server → Duty
at_hand form frame ws = OfPlan form frame (plan_after frame ws) (drop (length ws) frame.demands)

-- what a line leaves of it
abbrev pub after_line : List Position → List (List Signed) → Form → Frame → List Server → L.Line → Result (List Duty) ℕ
after_line T gs form frame ws l = after T (cites gs) (at_hand form frame ws) l

-- what is left where the end refutes what is placed by a number
abbrev pub after_at : List Position → List (List Signed) → Frame → List Server → ℕ → L.Ending → Result (List Duty) ℕ
after_at T gs frame ws n e =
    if_so not_refuted
    (is_refuted_at T (cites gs) frame (slice_get (placed frame (plan_after frame ws)) n) (ending e)) []

-- the plans of a path with each choice from a slot on
abbrev pub option_duties : Form → Frame → List Server → Slot → List Duty
option_duties form frame ws slot = map (λ s. at_hand form frame (ws ++ s ∷ [])) (choices_at frame ws slot)

-- the plans to come, the next one first
abbrev pub pending_duties : Form → Frame → List Server → List Pending → List Duty
pending_duties form frame ws [] = []
pending_duties form frame ws (e ∷ es) =
    option_duties form frame (take e.level ws) e.next ++ pending_duties form frame (take e.level ws) es

abbrev pub others : Form → Frame → OpenPlans → List Duty
others form frame w = pending_duties form frame w.path.servers.items (reverse w.pending.items)

abbrev pub duties : Form → Frame → OpenPlans → List Duty
duties form frame w = cond w.has_plan (at_hand form frame w.path.servers.items ∷ others form frame w) []

abbrev pub entry : ℕ → Slot → Pending
entry n slot = record { level = n; next = slot }

-- it can serve the next demand
abbrev pub Fits : Frame → List Server → Server → Type 0
Fits frame ws s = (length ws < length frame.demands) × (is_valid frame.heads (length (cells_of ws)) s ≡ true)

abbrev pub AreFine : Frame → List Server → List Pending → Type 0
AreFine frame ws [] = ⊤
AreFine frame ws (e ∷ es) =
    (e.level ≤ length ws) × (e.level < length frame.demands) × AreFine frame (take e.level ws) es

-- plans of that frame
pub record IsOpen (frame : Frame) (w : OpenPlans) : Type 0 where
  pub path : IsPath frame w.path.servers.items
  pub fine : AreFine frame w.path.servers.items (reverse w.pending.items)

-- that plans are of a frame is a fact: it has one proof at most
AreFine-prop : (frame : Frame) (ws : List Server) (es : List Pending) → IsProp (AreFine frame ws es)
AreFine-prop frame ws [] = Unit-prop
AreFine-prop frame ws (e ∷ es) = λ x y i. (
  le_prop x.0 y.0 i,
  le_prop x.1 y.1 i,
  AreFine-prop frame (take e.level ws) es x.2 y.2 i,
)

pub IsOpen-prop : (frame : Frame) (w : OpenPlans) → IsProp (IsOpen frame w)
IsOpen-prop frame w x y = λ i. record {
  path = record {
    few = le_prop x.path.few y.path.few i;
    valid = Coded-set coded_bool _ _ x.path.valid y.path.valid i;
  };
  fine = AreFine-prop frame w.path.servers.items (reverse w.pending.items) x.fine y.fine i;
}
