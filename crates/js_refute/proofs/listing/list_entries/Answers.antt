-- One more entry.
use Rattle.std.proofs.Common.{◌+◌, [], ◌∷◌, map, take, ap, ◌∙◌}
use Rattle.std.proofs.lemmas.List.{map-append, map_more}
use Rattle.js_lines.specs.View.{entry_view}
use Rattle.js_refute.proofs.Writing.{entry_more}
use Rattle.js_refute.proofs.listing.list_entries.Goals as goal

pub loop-entry-preserved : goal.loop-entry-preserved
loop-entry-preserved c =
    let es = c.args.entries.now in
    let i = c.loop-entry.entry-index in
    let (listed, placed) =
    entry_more c.args.listed.now.keys c.loop-entry.listed.keys c.list_entry.new.listed.keys
    (map entry_view (take i es)) (map entry_view (take (i + 1) es)) _ (entry_view c.in_ok-list_entry.field-0)
    (map entry_view c.loop-entry.placed.items) (map entry_view c.push.new.self.items)
    c.loop-entry.invariant.listed c.in_ok-list_entry.ensures.listed c.loop-entry.invariant.placed
    c.in_ok-list_entry.ensures.entry (map_more entry_view es i _ c.loop-entry-test.true)
    (ap (map entry_view) c.in_ok-push.ensures.items
    ∙ map-append entry_view c.loop-entry.placed.items (c.in_ok-list_entry.field-0 ∷ [])) in
    record { listed = listed; placed = placed }
