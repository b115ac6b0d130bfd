-- One more server.
use Rattle.std.proofs.Common.{◌++◌, length, ap, sym, ◌∙◌}
use Rattle.js_plans.specs.Servers.{most_used, used_after, members_after, cells_of, servers_of}
use Rattle.js_plans.specs.Walks.{listed}
use Rattle.js_plans.proofs.Shown.{used-push, cells-push}
use Rattle.js_plans.proofs.walk.extent_after.Goals as goal

pub returns-in-Some-clause-used : goal.returns-in-Some-clause-used
returns-in-Some-clause-used c =
    let ws = servers_of c.args.path.now in
    c.with.ensures.used
    ∙ ap (λ n. used_after n c.in-Some.server) c.of-extent.ensures.used
    ∙ sym (used-push 0 ws c.in-Some.server)
    ∙ ap (λ o. most_used 0 (ws ++ listed o)) (sym c.in-Some.is)

pub returns-in-Some-clause-members : goal.returns-in-Some-clause-members
returns-in-Some-clause-members c =
    let ws = servers_of c.args.path.now in
    c.with.ensures.members
    ∙ ap (λ n. members_after n c.in-Some.server) c.of-extent.ensures.members
    ∙ sym (cells-push ws c.in-Some.server)
    ∙ ap (λ o. length (cells_of (ws ++ listed o))) (sym c.in-Some.is)
