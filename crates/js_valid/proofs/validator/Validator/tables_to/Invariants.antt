use Rattle.std.proofs.Common.{◌≡◌, length}
use Rattle.js_valid.specs.PartTables.{KnowsTables}
use Rattle.js_valid.specs.Plan.{table_of}
use Rattle.js_valid.proofs.validator.Validator.tables_to.Given as goal

abbrev pub invariant-loop-number : goal.invariant-loop-number
invariant-loop-number l = record {
  len : length l.tables.items ≡ l.number;
  known : KnowsTables (table_of l.self) l.parts l.tables.items;
}
