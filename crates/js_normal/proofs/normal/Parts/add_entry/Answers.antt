use Rattle.std.proofs.Common.{◌++◌, ◌∷◌, [], map, ap, ◌∙◌}
use Rattle.std.proofs.lemmas.List.{map-append}
use Rattle.js_algebra.specs.View.{node_view}
use Rattle.js_schema.specs.View.{form_view}
use Rattle.js_normal.proofs.TableRuns.{entry-made}
use Rattle.js_normal.proofs.normal.Parts.add_entry.Goals as goal

pub entry_node-requires-clause-named : goal.entry_node-requires-clause-named
entry_node-requires-clause-named c = ap (λ s. s.named) c.begin_entry.ensures

pub returns : goal.returns
returns c =
    let before = c.args.self.now in
    let entries = map node_view before.entries.items in
    entry-made (form_view c.args.form.now) c.args.rank before.sink c.begin_entry.new.self c.entry_node.new.sink
    entries (map node_view c.push.new.self.items) before.ranks.items c.push-2.new.self.items
    c.begin_entry.ensures c.in_ok-entry.ensures.nodes
    (ap (map node_view) c.in_ok-push.ensures.items
    ∙ map-append node_view before.entries.items (c.in_ok-entry.entry ∷ [])
    ∙ ap (λ x. entries ++ x ∷ []) c.in_ok-entry.ensures.entry)
    (c.in_ok-push-2.ensures.items ∙ ap (λ r. before.ranks.items ++ r ∷ []) c.entry_rank.ensures)
