-- Position 0 of a schema's table holds of the documents that are valid for the value that is read as its entries.
use Rattle.std.proofs.Common.{◌≡◌, ℕ, ◌<◌, ◌^◌, List, length, true, arith}
use Rattle.schemas.specs.Entry.{Entry}
use Rattle.schemas.specs.Guarded.{edges, are_ranks}
use Rattle.normal_forms.specs.NormalForm.{table_of}
use Rattle.js_normal.specs.PatternTrees.{tree_of}
use Rattle.js_inclusion.proofs.ReadValues.{holds-read}
use Rattle.js_commands.specs.NormOutcome.{MeansValidity}

-- in a table that is short enough position 0 holds of exactly the documents that are valid for the value
pub means_validity : (es : List Entry) (ranks : List ℕ) → are_ranks (edges es) ranks ≡ true
    → length (table_of tree_of es) < 2 ^ 31 → MeansValidity es
means_validity es ranks are few j well is J document =
    holds-read j es (record { well_formed = well; entries = is }) ranks are (omega (arith, few)) J document
