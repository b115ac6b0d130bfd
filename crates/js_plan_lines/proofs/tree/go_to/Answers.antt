-- The extents and the cells go on with the path.
use Rattle.std.proofs.Common.{◌≡◌, ◌++◌, [], ◌∷◌, take, length, ap, ap₂, sym, ◌∙◌}
use Rattle.js_plans.specs.Servers.{with_cell, most_used, cells_of}
use Rattle.js_plans.proofs.Extents.{cells-before, cells-after}
use Rattle.js_plan_lines.proofs.Extents.{take-path, push-path}
use Rattle.js_plan_lines.proofs.tree.go_to.Goals as goal

pub extent_of-before-requires : goal.extent_of-before-requires
extent_of-before-requires c =
    take-path c.args.next.level c.args.path.now.items c.as_slice.result.now c.args.extents.now.items
    c.as_slice-2.result.now (c.as_slice.ensures.value ∙ c.truncate.ensures.items)
    (c.as_slice-2.ensures.value ∙ c.truncate-2.ensures.items) c.requires.extents

pub returns-clause-extents : goal.returns-clause-extents
returns-clause-extents c =
    push-path c.args.next.level c.args.path.now.items c.truncate.new.self.items c.push.new.self.items c.args.next.server
    c.args.extents.now.items c.truncate-2.new.self.items c.push-2.new.self.items c.extent_of-before.result c.with.result
    c.truncate.ensures.items c.truncate-2.ensures.items c.in_ok-push.ensures.items c.in_ok-push-2.ensures.items
    c.requires.level c.requires.extents
    (record {
      used = c.extent_of-before.ensures.used ∙ ap (most_used 0) c.as_slice.ensures.value;
      members = c.extent_of-before.ensures.members ∙ ap (λ us. length (cells_of us)) c.as_slice.ensures.value;
      bound = c.extent_of-before.ensures.bound;
    })
    c.with.ensures.used c.with.ensures.members c.with.ensures.bound

pub returns-clause-members : goal.returns-clause-members
returns-clause-members c =
    let n = c.args.next.level in
    let ws = c.args.path.now.items in
    let s = c.args.next.server in
    let more : c.push.new.self.items ≡ take n ws ++ s ∷ [] =
    c.in_ok-push.ensures.items ∙ ap (λ us. us ++ s ∷ []) c.truncate.ensures.items in
    let count : c.extent_of-before.result.members ≡ length (cells_of (take n ws)) =
    c.extent_of-before.ensures.members
    ∙ ap (λ us. length (cells_of us)) (c.as_slice.ensures.value ∙ c.truncate.ensures.items) in
    c.in_ok-add_cell.ensures
    ∙ ap (λ cs. cs ++ with_cell s [])
    (c.truncate-3.ensures.items ∙ ap₂ take count c.requires.members ∙ cells-before n ws)
    ∙ sym (cells-after (take n ws) s)
    ∙ ap cells_of (sym more)
