use Rattle.std.proofs.Common.{map, sym, ap, subst, ◌∙◌}
use Rattle.documents.specs.WellFormed.{is_json}
use Rattle.js_doc.proofs.JsonWellFormed.{is_json-view}
use Rattle.js_pointers.specs.PointersView.{pointers_of}
use Rattle.js_walk.specs.FileView.{root_of}
use Rattle.js_walk.specs.PlacesView.{pointers_in, places_view, targets_of, AreTargets}
use Rattle.js_reader.specs.NumbersView.{numbered}
use Rattle.js_schema.specs.View.{entry_view}
use Rattle.js_reader.proofs.ReadLemmas.{few_places, table_made}
use Rattle.js_reader.proofs.read.read_schema.Goals as goal

pub new-numbers-requires : goal.new-numbers-requires
new-numbers-requires c =
    let walked = c.in_ok-places.ensures.ok in
    let well = ap is_json c.new-file.ensures ∙ is_json-view c.args.json.now in
    few_places (root_of c.new-file.result) (places_view c.in_ok-places.places) well walked.0 walked.1

pub read_entries-requires-clause-targets : goal.read_entries-requires-clause-targets
read_entries-requires-clause-targets c =
    subst (λ ps. AreTargets (root_of c.new-file.result) (pointers_in ps) (places_view ps) (targets_of ps))
    (sym c.new-numbers.ensures) c.in_ok-places.ensures.targets

pub new-requires-clause-table : goal.new-requires-clause-table
new-requires-clause-table c =
    let walked = c.in_ok-places.ensures.ok in
    let well = ap is_json c.new-file.ensures ∙ is_json-view c.args.json.now in
    table_made (root_of c.new-file.result) (numbered c.new-numbers.result) well walked.0
    (walked.1 ∙ sym (ap places_view c.new-numbers.ensures))
    (map (entry_view (pointers_of c.into_pointers.result)) c.in_ok-entries.entries.items)
    (ap (λ ps. map (entry_view ps) c.in_ok-entries.entries.items) c.into_pointers.ensures
    ∙ c.in_ok-entries.ensures.entries)
