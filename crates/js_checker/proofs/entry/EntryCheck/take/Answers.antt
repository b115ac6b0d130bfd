-- A line of the tree at hand leaves the kinds after it.
use Rattle.std.proofs.Common.{sym}
use Rattle.verdicts.specs.Verdict.{cites}
use Rattle.js_lines.specs.View.{line_view}
use Rattle.js_checker.specs.TreeView.{tree_duties}
use Rattle.js_checker.specs.EntryView.{kinds_from, kind_duties}
use Rattle.js_checker.proofs.Results.{on_ok, if_err}
use Rattle.js_checker.proofs.DutyLemmas.{left_there, leaves_more, faults_more}
use Rattle.js_checker.proofs.entry.EntryCheck.take.Goals as goal

pub returns-else-is_done-clause-taken : goal.returns-else-is_done-clause-taken
returns-else-is_done-clause-taken c =
    let e = c.args.self.now in
    on_ok c.take.result
    (leaves_more c.args.core.now.positions (cites c.args.goals.now) (line_view c.args.line.now)
    (tree_duties e.tree) (kind_duties c.args.goal.now (kinds_from e.kind)) (tree_duties c.take.new.self))
    c.take.ensures.taken

pub returns-else-is_done-clause-broken : goal.returns-else-is_done-clause-broken
returns-else-is_done-clause-broken c =
    let e = c.args.self.now in
    if_err c.take.result
    (λ fault. faults_more c.args.core.now.positions (cites c.args.goals.now) (line_view c.args.line.now)
    (tree_duties e.tree) (kind_duties c.args.goal.now (kinds_from e.kind)) fault
    (left_there _ (sym c.if-is_done.ensures)))
    c.take.ensures.broken
