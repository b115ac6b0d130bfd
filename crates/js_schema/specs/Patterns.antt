-- The text of a pattern.
use Rattle.std.specs.Prelude.{ℕ, List}
use Rattle.js_schema.specs.declared.pattern.PatternText.{PatternText}

abbrev pub source_of : PatternText → List ℕ
source_of p = p.source
