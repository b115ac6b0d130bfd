-- One kind after another.
use Rattle.std.proofs.Common.{◌<◌, List, [], ◌∷◌, flat_map, length, ap, ◌∙◌}
use Rattle.documents.specs.Kind.{all_kinds}
use Rattle.alternatives.specs.Expansion.{keep_all}
use Rattle.expansions.specs.Expansion.{at_kind, expansion}
use Rattle.js_algebra.specs.declared.node.JsonKind.{JsonKind}
use Rattle.js_algebra.specs.declared.node.JsonKind.TheVariants.{Null, Boolean, Number, Text, Array, Object}
use Rattle.js_expander.specs.Found.{leaf_of}
use Rattle.js_expander.proofs.Walked.{kept-kind}
use Rattle.js_expander.proofs.core_expander.CoreExpanderExpander.expand.Goals as goal

abbrev kinds : List JsonKind
kinds = Null ∷ Boolean ∷ Number ∷ Text ∷ Array ∷ Object ∷ []

pub loop-kind-init : goal.loop-kind-init
unfolding expansion
loop-kind-init c =
    let T = c.args.self.now.core.now.positions in
    ap (λ e. keep_all e (flat_map (at_kind T (leaf_of T) c.args.goal.now) all_kinds)) c.new-kept.ensures

pub loop-kind-preserved : goal.loop-kind-preserved
loop-kind-preserved c =
    let within : c.loop-kind.kind-index < length kinds = c.loop-kind-test.true in
    kept-kind c.args.self.now.core.now.positions c.args.goal.now c.loop-kind.kept c.keep_kind.new.kept kinds
    c.loop-kind.kind-index Null within c.in_ok-keep_kind.ensures
    ∙ c.loop-kind.invariant
