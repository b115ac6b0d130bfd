use Rattle.std.proofs.Common.{[], ◌∷◌, ◌++◌, ap, ◌∙◌}
use Rattle.js_cells.proofs.Numbering.{kept_mention, kept_place}
use Rattle.js_cells.proofs.grouping.Grouped.add.Goals as goal

pub returns-clause-vectors : goal.returns-clause-vectors
returns-clause-vectors c = c.in_ok-cell.ensures.keys ∙ kept_mention c.args.vector c.args.self.now.vectors.keys

pub returns-clause-cells : goal.returns-clause-cells
returns-clause-cells c =
    c.in_ok-push.ensures.items
    ∙ ap (λ n. c.args.self.now.cells.items ++ n ∷ [])
    (c.in_ok-cell.ensures.index
    ∙ kept_place c.args.vector c.args.self.now.vectors.keys c.insert_full.new.self.keys
    (c.in_ok-cell.ensures.keys ∙ kept_mention c.args.vector c.args.self.now.vectors.keys))
