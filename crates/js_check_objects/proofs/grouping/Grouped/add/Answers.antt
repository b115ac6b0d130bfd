use Rattle.std.proofs.Common.{[], ◌∷◌, ◌++◌, map, ap, ◌∙◌}
use Rattle.js_said.proofs.Vectors.{items_mention, items_place}
use Rattle.js_check_objects.proofs.grouping.Grouped.add.Goals as goal

pub returns-clause-vectors : goal.returns-clause-vectors
returns-clause-vectors c =
    ap (λ ks. map (λ v. v.items) ks) c.in_ok-cell.ensures.keys
    ∙ items_mention (λ v. v.items) c.args.vector c.args.self.now.vectors.keys

pub returns-clause-cells : goal.returns-clause-cells
returns-clause-cells c =
    c.in_ok-push.ensures.items
    ∙ ap (λ n. c.args.self.now.cells.items ++ n ∷ [])
    (c.in_ok-cell.ensures.index
    ∙ items_place (λ v. v.items) c.args.vector c.args.self.now.vectors.keys c.insert_full.new.self.keys
    (ap (λ ks. map (λ v. v.items) ks) c.in_ok-cell.ensures.keys
    ∙ items_mention (λ v. v.items) c.args.vector c.args.self.now.vectors.keys))
