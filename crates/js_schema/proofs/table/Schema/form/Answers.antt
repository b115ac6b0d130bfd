-- The form of the entry that is found.
use Rattle.js_pointers.specs.PointersView.{pointers_of}
use Rattle.js_schema.proofs.EntriesLemmas.{form_at}
use Rattle.js_schema.proofs.table.Schema.form.Goals as goal

pub returns : goal.returns
returns c =
    let schema = c.args.self.now in
    form_at (pointers_of schema.pointers) schema.entries.items c.args.entry c.index.result.now c.index.ensures
