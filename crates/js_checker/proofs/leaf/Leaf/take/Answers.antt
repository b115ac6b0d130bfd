-- A line of strings needs no citing.
use Rattle.std.proofs.Common.{ap}
use Rattle.verdicts.specs.Verdict.{cites}
use Rattle.js_lines.specs.View.{line_view}
use Rattle.js_check_strings.specs.View.{duties_of, table_of}
use Rattle.js_checker.specs.LeafView.{leaf_duties, leaf_table}
use Rattle.js_checker.proofs.LeafLemmas.{leaf_leaves, leaf_faults}
use Rattle.js_checker.proofs.leaf.Leaf.take.Goals as goal

pub returns-in-Strings-clause-taken : goal.returns-in-Strings-clause-taken
returns-in-Strings-clause-taken c =
    let s = c.in-Strings.strings in
    leaf_leaves c.take.result c.args.self.now (table_of s) (duties_of s) (line_view c.args.line.now)
    (cites c.args.goals.now) (λ T. ap (leaf_table T) c.in-Strings.is) (ap leaf_duties c.in-Strings.is)
    (duties_of c.take.new.self) c.take.ensures.taken

pub returns-in-Strings-clause-broken : goal.returns-in-Strings-clause-broken
returns-in-Strings-clause-broken c =
    let s = c.in-Strings.strings in
    leaf_faults c.take.result c.args.self.now (table_of s) (duties_of s) (line_view c.args.line.now)
    (cites c.args.goals.now) (λ T. ap (leaf_table T) c.in-Strings.is) (ap leaf_duties c.in-Strings.is)
    c.take.ensures.broken
