-- What was kept, with the answers of the branches that are left, is what is kept of all.
use Rattle.std.proofs.Common.{◌≡◌, ◌+◌, ◌≤◌, length}
use Rattle.alternatives.specs.Expansion.{keep_all}
use Rattle.js_algebra.specs.View.{kind_view}
use Rattle.js_tableau.specs.BranchWalks.{IsBranchWalk, branches_left}
use Rattle.js_expander.specs.Found.{from_branches}
use Rattle.js_expander.proofs.branches.keep_branches.Given as goal

abbrev pub invariant-loop-automaton : goal.invariant-loop-automaton
invariant-loop-automaton l =
    let T = l.core.positions in
    record {
      walk : IsBranchWalk T l.walk;
      few : l.number + length (branches_left T l.walk) ≤ 16384;
      kept : keep_all l.kept (from_branches T (kind_view l.kind) l.number (branches_left T l.walk))
          ≡ keep_all l.fn.kept (from_branches T (kind_view l.kind) 0 (branches_left T l.fn.walk));
    }

abbrev pub decreases-loop-automaton : goal.decreases-loop-automaton
decreases-loop-automaton l = length (branches_left l.core.positions l.walk)
