-- Internal: the choices for a demand from a slot on.
use Rattle.std.specs.Prelude.{ℕ, ◌-◌, List, [], ◌∷◌, ◌++◌, map, drop, Option, Some, None}
use Rattle.std.specs.List.{range_with_len}
use Rattle.goals.specs.Signed.{Signed}
use Rattle.frames.specs.Frame.{Frame}
use Rattle.js_plans.specs.declared.server.Server.{Server}
use Rattle.js_plans.specs.declared.server.Server.TheVariants as V
use Rattle.js_plans.specs.Servers.{cells_of}
use Rattle.js_plans.specs.Choosing.{next_demand, serving_cells, open_cells}
use Rattle.js_check_plans.specs.declared.choices.Choice.{Choice}
use Rattle.js_check_plans.specs.declared.choices.Slot.{Slot}
use Rattle.js_check_plans.specs.declared.choices.Slot.TheVariants as S

-- those for d, where the members are in these cells
abbrev pub choices_from : Frame → Signed → List ℕ → Slot → List Server
choices_from frame d cs (S.Head k) =
    map V.Head (range_with_len k (frame.heads - k)) ++ serving_cells frame d 0 cs ++ open_cells frame d cs frame.cells
choices_from frame d cs (S.Member k) = serving_cells frame d k (drop k cs) ++ open_cells frame d cs frame.cells
choices_from frame d cs (S.Cell i) = open_cells frame d cs (drop i frame.cells)

-- a choice and those after it
abbrev pub with_rest : Frame → Signed → List ℕ → Option Choice → List Server
with_rest frame d cs None = []
with_rest frame d cs (Some choice) = choice.server ∷ choices_from frame d cs choice.rest

-- those for the demand after a path
abbrev pub choices_at : Frame → List Server → Slot → List Server
choices_at frame ws slot = choices_from frame (next_demand frame ws) (cells_of ws) slot

abbrev pub with_rest_at : Frame → List Server → Option Choice → List Server
with_rest_at frame ws o = with_rest frame (next_demand frame ws) (cells_of ws) o
