use Rattle.std.proofs.Common.{◌&&◌, ap, sym, ◌∙◌}
use Rattle.js_pattern.specs.View.{view}
use Rattle.patterns.specs.SameTree.{same_tree}
use Rattle.js_algebra.proofs.keys.PatternPartialEq.eq.Goals as goal

pub returns-then-eq : goal.returns-then-eq
returns-then-eq c =
    c.eq-then-eq.ensures
    ∙ ap (λ b. b && same_tree (view c.args.self.now.re) (view c.args.other.now.re)) (sym c.if-eq.true ∙ c.eq.ensures)

pub returns-else-eq : goal.returns-else-eq
returns-else-eq c =
    c.if-eq.false
    ∙ ap (λ b. b && same_tree (view c.args.self.now.re) (view c.args.other.now.re)) (sym c.if-eq.false ∙ c.eq.ensures)
