-- A table has few entries.
use Rattle.std.proofs.Common.{arith}
use Rattle.js_pointers.specs.PointersView.{pointers_of}
use Rattle.js_schema.proofs.EntriesLemmas.{few_entries}
use Rattle.js_schema.proofs.table.Schema.len.Goals as goal

pub overflow_cast-result : goal.overflow_cast-result
overflow_cast-result c =
    let schema = c.args.self.now in
    let few = few_entries (pointers_of schema.pointers) schema.entries.items schema.table in
    omega (arith, few, c.len.ensures)
