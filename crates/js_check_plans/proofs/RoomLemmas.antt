-- The rooms that entries leave, added up in order, and how many a plan needs.
use Rattle.std.proofs.Common.{◌≡◌, ℕ, suc, ◌+◌, ◌-◌, ◌≤◌, max, List, [], ◌∷◌, map, length, Bool, true, false, cond, Option, Some, None, refl, arith, ap, ap₂, sym, ◌∙◌}
use Rattle.positions.specs.Position.{Position}
use Rattle.goals.specs.Signed.{Signed}
use Rattle.frames.specs.Frame.{Frame, In, list_at}
use Rattle.frames.specs.Plan.{Member, need}
use Rattle.frames.specs.PlanLines.{Entry, Kept, Ends, plus, room_of, is_refuted, rooms}
use Rattle.js_plans.specs.declared.server.Server.{Server}
use Rattle.js_plans.specs.Serving.{plan_after}
use Rattle.js_plans.specs.Servers.{cells_of, most_used}
use Rattle.js_plans.specs.Walks.{size_of}
use Rattle.js_check_plans.specs.Reach.{IsPath}
use Rattle.js_check_plans.specs.Rooms.{entry_room, rooms_in}
use Rattle.js_plans.proofs.Options.{times-cells}
use Rattle.js_plans.proofs.Plans.{members-count, cells-all, size-plan}

plus-zero : (o : Option ℕ) → o ≡ plus (Some 0) o
plus-zero None = refl
plus-zero (Some n) = ap Some (omega arith)

module _ (T : List Position) (cite : ℕ → List Signed → Bool) (frame : Frame) where
  pub rooms-cells : (ms : List Member) (cs : List ℕ) (es : List Entry)
      → rooms T cite frame ms cs es ≡ rooms_in T cite frame (map (λ m. m.cell) ms) cs es
  rooms-cells ms [] [] = refl
  rooms-cells ms [] (e ∷ es) = refl
  rooms-cells ms (c ∷ cs) [] = refl
  rooms-cells ms (c ∷ cs) (Kept ∷ es) =
      ap₂ (λ n o. plus (room_of n (frame.cap c)) o) (sym (times-cells c ms)) (rooms-cells ms cs es)
  rooms-cells ms (c ∷ cs) (Ends e ∷ es) =
      go (is_refuted T cite (list_at frame (In c) []) e) (rooms T cite frame ms cs es)
      (rooms_in T cite frame (map (λ m. m.cell) ms) cs es) (rooms-cells ms cs es) where
        go : (b : Bool) (o p : Option ℕ) → o ≡ p → cond b o None ≡ plus (cond b (Some 0) None) p
        go true o p e = e ∙ plus-zero p
        go false o p e = refl

  pub rooms-path : (ws : List Server) (cs : List ℕ) (es : List Entry) → length ws ≤ length frame.demands
      → rooms T cite frame (plan_after frame ws).members cs es ≡ rooms_in T cite frame (cells_of ws) cs es
  rooms-path ws cs es l =
      rooms-cells (plan_after frame ws).members cs es
      ∙ ap (λ ms. rooms_in T cite frame ms cs es) (cells-all frame ws l)

  -- another number of entries than of cells
  pub rooms-other : (members cs : List ℕ) (es : List Entry) → (length es ≡ length cs → ⊥)
      → rooms_in T cite frame members cs es ≡ None
  rooms-other members [] [] n = absurd (n refl)
  rooms-other members [] (e ∷ es) n = refl
  rooms-other members (c ∷ cs) [] n = refl
  rooms-other members (c ∷ cs) (e ∷ es) n =
      none (entry_room T cite frame members c e) (rooms-other members cs es (λ h. n (ap suc h))) where
        none : (o : Option ℕ) {p : Option ℕ} → p ≡ None → plus o p ≡ None
        none None e = refl
        none (Some m) e = ap (plus (Some m)) e

pub need-path : (frame : Frame) (ws : List Server) → IsPath frame ws → need frame (plan_after frame ws)
    ≡ max frame.lower (size_of frame (most_used 0 ws) (length (cells_of ws)))
    - (frame.heads + length (cells_of ws))
need-path frame ws path =
    ap₂ (λ n m. max frame.lower n - (frame.heads + m)) (size-plan frame ws path.few path.valid)
    (members-count frame ws path.few)
