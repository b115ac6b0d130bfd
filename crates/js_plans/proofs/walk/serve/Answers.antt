-- The path goes on.
use Rattle.std.proofs.Common.{◌≡◌, ◌++◌, [], ◌∷◌, length, ap, sym, ◌∙◌, subst}
use Rattle.std.proofs.lemmas.List.{map-append}
use Rattle.js_plans.specs.Servers.{with_cell, cells_of, most_used, servers_of}
use Rattle.js_plans.specs.Goals.{goal_after}
use Rattle.js_plans.specs.Walks.{listed, IsPath, Fits}
use Rattle.js_plans.proofs.Extents.{next-extent, cells-after}
use Rattle.js_plans.proofs.Remaining.{path-push}
use Rattle.js_plans.proofs.walk.serve.Goals as goal

pub returns-in_ok-add_cell-in-Some-2-clause-served : goal.returns-in_ok-add_cell-in-Some-2-clause-served
returns-in_ok-add_cell-in-Some-2-clause-served g c = λ _.
    let T = g.F.PlanFrame.table c.args.frame.now in
    let frame = g.F.PlanFrame.frame c.args.frame.now in
    let path = c.args.path.now.items in
    let s = c.in-Some.server in
    let same = c.as_slice-in-Some-2.ensures.value in
    record {
      path = subst (λ es. IsPath T frame es) (sym c.in_ok-push-in-Some-2.ensures.items)
          (path-push T frame path _ c.requires.path
          (subst (λ o. Fits frame (servers_of path) o) c.in-Some.is c.requires.fits)
          (ap (λ es. goal_after T frame (servers_of es) s) (sym c.as_slice.ensures.value)
          ∙ sym c.in_ok-goal.ensures ∙ c.in-Some-2.is)
          (next-extent (servers_of path) s c.of.result c.with-extent.result
          (record {
            used = c.of.ensures.used ∙ ap (λ es. most_used 0 (servers_of es)) same;
            members = c.of.ensures.members ∙ ap (λ es. length (cells_of (servers_of es))) same;
            bound = c.of.ensures.bound;
          })
          c.with-extent.ensures.used c.with-extent.ensures.members c.with-extent.ensures.bound));
      servers =
          ap servers_of c.in_ok-push-in-Some-2.ensures.items
          ∙ map-append (λ e. e.server) path (_ ∷ [])
          ∙ ap (λ o. servers_of path ++ listed o) (sym c.in-Some.is);
    }

pub returns-in_ok-add_cell-in-Some-2-clause-cells : goal.returns-in_ok-add_cell-in-Some-2-clause-cells
returns-in_ok-add_cell-in-Some-2-clause-cells g c =
    let path = c.args.path.now.items in
    let s = c.in-Some.server in
    let more : servers_of c.push.new.self.items ≡ servers_of path ++ s ∷ [] =
    ap servers_of c.in_ok-push-in-Some-2.ensures.items ∙ map-append (λ e. e.server) path (_ ∷ []) in
    c.in_ok-add_cell-in-Some-2.ensures
    ∙ ap (λ cs. cs ++ with_cell s []) c.requires.cells
    ∙ sym (cells-after (servers_of path) s)
    ∙ ap cells_of (sym more)
