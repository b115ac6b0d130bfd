-- A line of the leaf leaves the sets behind it.
use Rattle.std.proofs.Common.{sym, ◌∙◌}
use Rattle.verdicts.specs.Verdict.{cites}
use Rattle.js_lines.specs.View.{line_view}
use Rattle.js_check_trees.specs.OpenSetsView.{duties_of}
use Rattle.js_checker.specs.LeafView.{leaf_duties}
use Rattle.js_checker.proofs.Results.{on_ok, if_err}
use Rattle.js_checker.proofs.DutyLemmas.{leaves_more, faults_more}
use Rattle.js_checker.proofs.tree.TreeCheck.take_line.Goals as goal

pub returns-then-is_open-clause-taken : goal.returns-then-is_open-clause-taken
returns-then-is_open-clause-taken c =
    let t = c.args.self.now in
    let T = c.args.core.now.positions in
    on_ok c.take.result
    (λ h. leaves_more T (cites c.args.goals.now) (line_view c.args.line.now) (leaf_duties t.leaf) (duties_of t.sets)
    (leaf_duties c.take.new.self) (h T c.requires.over.leaf))
    c.take.ensures.taken

pub returns-then-is_open-clause-broken : goal.returns-then-is_open-clause-broken
returns-then-is_open-clause-broken c =
    let t = c.args.self.now in
    let T = c.args.core.now.positions in
    if_err c.take.result
    (λ fault h. faults_more T (cites c.args.goals.now) (line_view c.args.line.now) (leaf_duties t.leaf)
    (duties_of t.sets) fault (sym (c.if-is_open.ensures ∙ c.requires.steady.leaf)) (h T c.requires.over.leaf))
    c.take.ensures.broken
