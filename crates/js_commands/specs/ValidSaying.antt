-- What the call answers.
use Rattle.std.specs.Prelude.{◌≡◌, ℕ, List, Option, string_bytes}
use Rattle.js_outside.specs.Counts.{Rose}
use Rattle.js_outside.specs.Told.{Files}
use Rattle.js_commands.specs.ValidOutcome as O
use Rattle.js_commands.specs.ValidOutcome.{Outcome, IsValidation}
use Rattle.js_commands.specs.declared.valid.Validation.{Validation}
use Rattle.js_commands.specs.declared.valid.Validation.TheVariants as V

abbrev pub outcome_of : Validation → Outcome
outcome_of V.Valid = O.Valid
outcome_of V.Invalid = O.Invalid
outcome_of (V.SchemaRefused words) = O.SchemaRefused (string_bytes words)
outcome_of (V.DocumentRefused words) = O.DocumentRefused (string_bytes words)
outcome_of V.ReadFault = O.ReadFault

-- a fault is counted where a file couldn't be read, and else the answer is what the files come to
abbrev pub ValidationSays : Option Files → List ℕ → List ℕ → ℕ → ℕ → Validation → Type 0
ValidationSays told schema document before after V.ReadFault = Rose before after
ValidationSays told schema document before after v =
    (after ≡ before) × IsValidation told schema document (outcome_of v)
