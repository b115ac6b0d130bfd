-- What is at a first place is a choice.
use Rattle.std.proofs.Common.{◌++◌, get_or, arith, ap, sym, ◌∙◌}
use Rattle.goals.specs.Signed as G
use Rattle.js_plans.specs.Choosing.{serving_cells, open_cells}
use Rattle.js_check_plans.specs.Slots.{choices_from}
use Rattle.js_check_plans.proofs.choices.first_from.Goals as goal
use Rattle.js_plans.proofs.Options.{range-from}

pub returns-then-k-heads-clause-choices : goal.returns-then-k-heads-clause-choices
returns-then-k-heads-clause-choices g c =
    let frame = g.F.CheckFrame.frame c.args.frame.now in
    let d = get_or frame.demands c.args.demand (G.Plus 0) in
    let cs = c.args.members.now.cells.items in
    sym (ap (choices_from frame d cs) c.in-Head.is
    ∙ ap (λ xs. xs ++ serving_cells frame d 0 cs ++ open_cells frame d cs frame.cells)
    (range-from c.in-Head.k frame.heads (omega (arith, c.heads.ensures, c.if-k-heads.true))))
