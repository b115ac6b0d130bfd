-- No branch was passed.
use Rattle.std.proofs.Common.{◌≡◌, length}
use Rattle.js_algebra.specs.View.{kind_view}
use Rattle.js_tableau.specs.Progress.{left}
use Rattle.js_tableau.specs.BranchWalks.{IsBranchWalk, branches_left}
use Rattle.js_tableau.proofs.branch_walk.BranchWalk.next.Given as goal

abbrev pub invariant-loop-step : goal.invariant-loop-step
invariant-loop-step l = record {
  walk : IsBranchWalk l.core.positions l.self;
  left : branches_left l.core.positions l.self ≡ branches_left l.core.positions l.fn.self;
}

abbrev pub decreases-loop-step : goal.decreases-loop-step
decreases-loop-step l = length (left l.core.positions (kind_view l.self.kind) l.self.tree)
