-- Which measures are those of a table.
use Rattle.std.specs.Prelude.{◌≡◌, ◌<◌, ℕ, List, length, get_or, true}
use Rattle.shared_documents.specs.Part.{Part}
use Rattle.shared_documents.specs.Unshared.{unshared}
use Rattle.document_texts.specs.Measured.{Measured, measured}

-- the measure at place i of a list
abbrev pub measure_at : List Measured → ℕ → Measured
measure_at ms i = get_or ms i (record { length = 0; depth = 0; short_numbers = true })

-- a measure for each part: that of the document for which it stands
pub record AreMeasures (ps : List Part) (ms : List Measured) : Type 0 where
  pub count : length ms ≡ length ps
  pub each : (i : ℕ) → i < length ps → measure_at ms i ≡ measured (unshared ps i)
