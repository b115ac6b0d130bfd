-- The pointer of the entry that is found.
use Rattle.js_pointers.specs.PointersView.{pointers_of}
use Rattle.js_schema.proofs.EntriesLemmas.{pointer_answered}
use Rattle.js_schema.proofs.table.Schema.pointer.Goals as goal

pub returns : goal.returns
returns c =
    let schema = c.args.self.now in
    pointer_answered (pointers_of schema.pointers) schema.entries.items c.args.entry c.index.result.now c.pointer.result
    c.index.ensures c.pointer.ensures
