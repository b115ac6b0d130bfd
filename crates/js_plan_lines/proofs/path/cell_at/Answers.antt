-- The member doesn't stand before the server of its number.
use Rattle.std.proofs.Common.{◌-◌, ◌≤◌, take, length, get_or, arith, ap₂, ◌∙◌}
use Rattle.std.proofs.lemmas.List.{length-take, take_rest}
use Rattle.js_plans.specs.Servers.{cells_of}
use Rattle.js_plan_lines.proofs.Extents.{part-extents}
use Rattle.js_plan_lines.proofs.Starting.{cell-behind}
use Rattle.js_plan_lines.proofs.path.cell_at.Goals as goal

pub extent_of-before-requires : goal.extent_of-before-requires
extent_of-before-requires c = part-extents c.min-start.result c.args.path.now c.args.extents.now c.requires

pub returns : goal.returns
returns c =
    let path = c.args.path.now in
    let start = c.min-start.result in
    let reached = c.extent_of-before.ensures in
    let few : length (cells_of (take start path)) ≤ c.args.member = omega (
      arith,
      reached.few,
      reached.members,
      length-take start path,
      c.min-start.ensures,
    ) in
    c.cell_of.ensures
    ∙ ap₂ (λ us n. get_or (cells_of us) (c.args.member - n) 0) (take_rest path start) reached.members
    ∙ cell-behind start path c.args.member few
