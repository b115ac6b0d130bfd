-- The choices are made of positions that the node names.
use Rattle.std.proofs.Common.{ap, ◌∙◌}
use Rattle.js_algebra.specs.View.{kind_view}
use Rattle.js_algebra.specs.Rules.{are_choices_in_table}
use Rattle.js_algebra.proofs.Meanings.{choices-in_table}
use Rattle.js_algebra.proofs.table.Core.rule.Goals as goal

pub returns-clause-named : goal.returns-clause-named
returns-clause-named c =
    ap (are_choices_in_table c.args.self.now.positions) c.rule.ensures
    ∙ choices-in_table c.args.self.now.positions (kind_view c.args.kind) c.args.x.plus _ c.node.ensures.named
