-- What is kept beside the path grows with it.
use Rattle.std.proofs.Common.{ap, ◌∙◌}
use Rattle.js_plans.specs.Servers.{used_after}
use Rattle.js_check_plans.specs.Reach.{last_or}
use Rattle.js_check_plans.proofs.PathLemmas.{grown-used, grown-cells}
use Rattle.js_check_plans.proofs.path.Path.with.Goals as goal

pub invariant_of-result : goal.invariant_of-result
invariant_of-result c =
    let ws = c.args.self.servers.items in
    let vs = c.push-2.new.self.items in
    let s = c.args.server in
    let us = c.args.self.used.items in
    record {
      reach = grown-used ws vs s us c.push.new.self.items c.used_after.result c.args.self.reach
          c.in_ok-push-2.ensures.items
          (c.used_after.ensures
          ∙ ap (λ n. used_after n s) (c.last_or-last.ensures ∙ ap (last_or 0) c.as_slice.ensures.value))
          c.in_ok-push.ensures.items;
      cells = grown-cells ws vs s c.args.self.members.cells.items c.in_ok-members.members.cells.items
          c.args.self.cells c.in_ok-push-2.ensures.items c.in_ok-members.ensures;
    }
