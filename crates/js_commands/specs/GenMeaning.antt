-- What an outcome means for the schemas of a family.
use Rattle.std.specs.Prelude.{ℕ}
use Rattle.documents.specs.Json.{Json}
use Rattle.families.specs.Families.{Family, family}
use Rattle.js_commands.specs.IncludeMeaning.{ValuesTell}
use Rattle.js_commands.specs.GenOutcome.{Outcome, Decided}

-- for two values
abbrev pub ValuesMean : Json → Json → Outcome → Type 0
ValuesMean a b (Decided x goals rounds) = ValuesTell a b x
ValuesMean a b _ = Unit {0}

abbrev pub MeansFor : Family → ℕ → Outcome → Type 0
MeansFor f n o = ValuesMean (family f n).0 (family f n).1 o
