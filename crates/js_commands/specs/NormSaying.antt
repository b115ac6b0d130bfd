-- What the call answers.
use Rattle.std.specs.Prelude.{◌≡◌, ℕ, List, Option, string_bytes}
use Rattle.js_outside.specs.Counts.{Rose}
use Rattle.js_outside.specs.Told.{Files}
use Rattle.js_commands.specs.NormOutcome as O
use Rattle.js_commands.specs.NormOutcome.{Outcome, IsListing}
use Rattle.js_commands.specs.declared.norm.Listing.{Listing}
use Rattle.js_commands.specs.declared.norm.Listing.TheVariants as L

abbrev pub outcome_of : Listing → Outcome
outcome_of (L.Text text) = O.Listed (string_bytes text)
outcome_of (L.Refused words) = O.SchemaRefused (string_bytes words)
outcome_of L.ReadFault = O.ReadFault

-- a fault is counted where the file couldn't be read, and else the answer is what the file comes to
abbrev pub ListingSays : Option Files → List ℕ → ℕ → ℕ → Listing → Type 0
ListingSays told name before after L.ReadFault = Rose before after
ListingSays told name before after l = (after ≡ before) × IsListing told name (outcome_of l)
