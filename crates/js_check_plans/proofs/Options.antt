-- The choices of a demand are those from the first slot on.
use Rattle.std.proofs.Common.{◌≡◌, ◌-◌, ◌≤◌, List, ◌++◌, map, length, arith, ap, ◌∙◌}
use Rattle.std.specs.List.{range_with_len}
use Rattle.frames.specs.Frame.{Frame}
use Rattle.js_plans.specs.declared.server.Server.{Server}
use Rattle.js_plans.specs.declared.server.Server.TheVariants as V
use Rattle.js_plans.specs.Servers.{cells_of}
use Rattle.js_plans.specs.Choosing.{next_demand, choices_after, serving_cells, open_cells}
use Rattle.js_check_plans.specs.declared.choices.Slot.TheVariants as S
use Rattle.js_check_plans.specs.Slots.{choices_at}
use Rattle.js_plans.proofs.Options as O

module _ (frame : Frame) where
  -- the choices from first place 0 on are all choices of the next demand
  pub choices-are : (ws : List Server) → length ws ≤ length frame.demands
      → choices_at frame ws (S.Head 0) ≡ choices_after frame ws
  choices-are ws l =
      let d = next_demand frame ws in
      ap (λ n. map V.Head (range_with_len 0 n) ++ serving_cells frame d 0 (cells_of ws)
      ++ open_cells frame d (cells_of ws) frame.cells) whole
      ∙ O.choices-are frame ws l where
        whole : frame.heads - 0 ≡ frame.heads
        whole = omega arith
