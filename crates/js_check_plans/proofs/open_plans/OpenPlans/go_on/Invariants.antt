-- What is left is what was left at first: the entries that were taken had no choice left.
use Rattle.std.proofs.Common.{◌≡◌, [], length, reverse, true}
use Rattle.verdicts.specs.Duties.{Form}
use Rattle.js_check_plans.specs.Reach.{IsPath}
use Rattle.js_check_plans.specs.OpenDuties.{AreFine, pending_duties, others}
use Rattle.js_check_plans.proofs.open_plans.OpenPlans.go_on.Given as goal

abbrev pub invariant-loop-last : goal.invariant-loop-last
invariant-loop-last g l =
    let frame = g.F.CheckFrame.frame l.frame in
    let ws = l.path.servers.items in
    let es = reverse l.self.pending.items in
    record {
      path : IsPath frame ws;
      fine : AreFine frame ws es;
      left : (form : Form) → pending_duties form frame ws es ≡ others form frame l.fn.self;
      has_plan : l.self.has_plan ≡ true;
      empty : l.self.path.servers.items ≡ [];
    }

abbrev pub decreases-loop-last : goal.decreases-loop-last
decreases-loop-last g l = length l.self.pending.items
