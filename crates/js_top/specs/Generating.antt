-- What is written for `gen`.
use Rattle.std.specs.Prelude.{◌≡◌, ℕ, List, Option, Some}
use Rattle.std.specs.Io.KnownBytes.{Appends}
use Rattle.families.specs.Families.{Family}
use Rattle.js_top.specs.Names.{gen_names}
use Rattle.js_top.specs.Report.{IsGenReport}
use Rattle.js_top.specs.declared.status.Status.{Status}

-- the report of the schemas that the family has at the number, both as the words name them
pub record WritesSummary (words : List (List ℕ)) (old new : Option (List ℕ)) (status : Status) : Type 0 where
  pub family : Family
  pub number : ℕ
  pub named : gen_names words ≡ Some (family, number)
  pub text : List ℕ
  pub written : Appends old new text
  pub report : IsGenReport family number (record { text = text; status = status })
