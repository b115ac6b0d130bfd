-- The tree at hand has nothing left, so the first duty is that of the next kind.
use Rattle.verdicts.specs.Verdict.{cites}
use Rattle.js_lines.specs.View.{line_view}
use Rattle.js_checker.specs.TreeView.{tree_duties}
use Rattle.js_checker.specs.EntryView.{kinds_from, kind_duties}
use Rattle.js_checker.proofs.Results.{passed}
use Rattle.js_checker.proofs.DutyLemmas.{faults_behind}
use Rattle.js_checker.proofs.entry.EntryCheck.take_kind.Goals as goal

pub returns-in_err-kind-clause-broken : goal.returns-in_err-kind-clause-broken
returns-in_err-kind-clause-broken c =
    let e = c.args.self.now in
    let fault = c.in_err-kind.field-0.0 in
    passed _ c.from_residual.result fault c.from_residual.ensures.1
    (faults_behind c.args.core.now.positions (cites c.args.goals.now) (line_view c.args.line.now) (tree_duties e.tree)
    (kind_duties c.args.goal.now (kinds_from e.kind)) fault c.requires.done
    (c.in_err-kind.ensures.broken c.args.core.now.positions (cites c.args.goals.now) c.args.goal.now))
