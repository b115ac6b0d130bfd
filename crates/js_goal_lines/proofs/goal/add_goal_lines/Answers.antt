-- One kind after another.
use Rattle.std.proofs.Common.{◌≡◌, ℕ, ◌+◌, ◌<◌, ◌≤◌, List, [], ◌∷◌, ◌++◌, map, flat_map, drop, length, get_or, refl, ap, sym, ◌∙◌, append-nil, arith}
use Rattle.std.proofs.lemmas.List.{drop_all}
use Rattle.documents.specs.Kind.{Kind}
use Rattle.certificate_lines.specs.Line.{Line}
use Rattle.refutations.specs.GoalLines.{kind_lines, goal_lines}
use Rattle.js_algebra.specs.View.{kind_view}
use Rattle.js_algebra.specs.declared.node.JsonKind.{JsonKind}
use Rattle.js_algebra.specs.declared.node.JsonKind.TheVariants.{Null, Boolean, Number, Text, Array, Object}
use Rattle.js_lines.specs.View.{line_view}
use Rattle.js_goal_lines.proofs.Adding.{told-all, next-of}
use Rattle.js_goal_lines.proofs.DeadLines.{goal-added}
use Rattle.js_goal_lines.proofs.goal.add_goal_lines.Goals as goal

abbrev kinds : List JsonKind
kinds = Null ∷ Boolean ∷ Number ∷ Text ∷ Array ∷ Object ∷ []

-- no kind is left
kinds-told : (f : Kind → List Line) (now all : List Line) (i : ℕ) → length kinds ≤ i
    → now ++ flat_map f (map kind_view (drop i kinds)) ≡ all → now ≡ all
kinds-told f now all i past e =
    sym (append-nil now) ∙ ap (λ ks. now ++ flat_map f (map kind_view ks)) (sym (drop_all i kinds past)) ∙ e

pub loop-kind-init : goal.loop-kind-init
unfolding goal_lines
loop-kind-init g c = refl

pub loop-kind-preserved : goal.loop-kind-preserved
loop-kind-preserved g c =
    let number = g.D.Dead.number_of c.args.dead.now in
    let T = c.args.core.now.positions in
    let f = kind_lines number T c.args.goal.now in
    let i = c.loop-kind.kind-index in
    let within : i < length kinds = c.loop-kind-test.true in
    told-all (map line_view c.loop-kind.lines.items) (map line_view c.add_kind_lines.new.lines.items)
    (flat_map f (map kind_view (drop i kinds))) (flat_map f (map kind_view (drop (i + 1) kinds)))
    (f (kind_view (get_or kinds i Null)))
    (map line_view c.args.lines.now.items ++ goal_lines number T c.args.goal.now) c.in_ok-add_kind_lines.ensures
    (next-of f kind_view kinds i Null within) c.loop-kind.invariant

pub returns-clause-dead : goal.returns-clause-dead
returns-clause-dead g c =
    let number = g.D.Dead.number_of c.args.dead.now in
    let T = c.args.core.now.positions in
    let f = kind_lines number T c.args.goal.now in
    let i = c.loop-kind.kind-index in
    let now = map line_view c.loop-kind.lines.items in
    let past : length kinds ≤ i = omega (arith, c.loop-kind-test.false) in
    goal-added number T c.args.lines.now.items now c.args.core.now.ranks c.len-length.ensures.table c.args.goal.now
    c.requires
    (kinds-told f now (map line_view c.args.lines.now.items ++ goal_lines number T c.args.goal.now) i past
    c.loop-kind.invariant)
