use Rattle.std.proofs.Common.{◌≡◌, ◌++◌, drop, string_bytes}
use Rattle.js_schema.specs.SchemaView.{schema_view}
use Rattle.js_report.specs.RefusalWords.{place_words, cycle_words}
use Rattle.js_report.proofs.cycle.cycle_words.Given as goal

abbrev pub invariant-loop-entry : goal.invariant-loop-entry
invariant-loop-entry l =
    string_bytes l.words ++ place_words (schema_view l.schema) (drop l.entry-index l.entries)
    ≡ cycle_words (schema_view l.schema) l.entries
