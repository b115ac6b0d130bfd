-- A document is reported where some round has the goal, and meets it.
use Rattle.std.proofs.Common.{◌≡◌, true, take, is_some, ap, sym, ◌∙◌}
use Rattle.search.specs.Uses.{satisfied}
use Rattle.expander_laws.specs.Expander.{words_by}
use Rattle.js_explore.specs.ExploredView.{found_view}
use Rattle.decisions.specs.Decision.{first_hole}
use Rattle.js_decide.proofs.Told.{document_told, limited_meets}
use Rattle.js_decide.proofs.root.outcome.Goals as goal

pub returns-then-is_some-clause-outcome : goal.returns-then-is_some-clause-outcome
returns-then-is_some-clause-outcome g c =
    let X = g.E.Expander.expansion c.args.expander.now in
    let words = words_by (g.E.Expander.cells c.args.expander.now) in
    let f = found_view c.args.explored.now in
    let has : is_some (satisfied X f 0) ≡ true =
    ap is_some (sym (c.satisfied.ensures.rounds X f c.requires.rounds)) ∙ sym c.is_some.ensures ∙ c.if-is_some.true in
    document_told words X f c.in_ok-parts.parts c.in_ok-parts.own.0 has c.in_ok-parts.ensures.parts
    c.in_ok-parts.ensures.last

pub returns-then-is_some-clause-meets : goal.returns-then-is_some-clause-meets
returns-then-is_some-clause-meets g c T sound = c.in_ok-parts.ensures.meets T sound

pub returns-clause-meets : goal.returns-clause-meets
returns-clause-meets g c T sound =
    let X = g.E.Expander.expansion c.args.expander.now in
    let f = found_view c.args.explored.now in
    limited_meets T X f (first_hole X (take f.taken f.goals)) f.over c.by_limits.result
    (c.by_limits.ensures X c.requires.explores)
