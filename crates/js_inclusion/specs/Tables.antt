-- Schemas whose core tables are small enough for two of them to be in one.
use Rattle.std.specs.Prelude.{◌≡◌, ◌<◌, ◌^◌, List, length, true}
use Rattle.schemas.specs.Entry.{Entry}
use Rattle.schemas.specs.Schema.{is_table}
use Rattle.js_inclusion.specs.Comparison.{core_of}

pub record IsSmallTable (es : List Entry) : Type 0 where
  pub table : is_table es ≡ true
  pub small : length (core_of es) < 2 ^ 31
