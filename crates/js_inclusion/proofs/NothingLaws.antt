-- The value `false` is read as the entry that never holds, and no document is valid for it.
use Rattle.std.proofs.Common.{◌≡◌, false, Ok, refl}
use Rattle.documents.specs.Document.{Document}
use Rattle.documents.specs.Json.{boolean}
use Rattle.levels.specs.Levels.{is_met}
use Rattle.schemas.specs.Keyword.{shape_of}
use Rattle.schemas.specs.Walk.{walk, places}
use Rattle.schemas.specs.Entries.{read}
use Rattle.draft06.specs.Validity.{valid}
use Rattle.js_keywords.specs.Reading.{rules}
use Rattle.js_inclusion.specs.Meaning.{IsReadAs}
use Rattle.js_inclusion.specs.Nothing.{nothing}

pub read-false : read rules (boolean false) ≡ Ok nothing
unfolding places walk shape_of
read-false = refl

pub IsReadAs-false : IsReadAs (boolean false) nothing
IsReadAs-false = record { well_formed = refl; entries = read-false }

-- no document is valid for the value `false`
pub valid-false : (J : Document) → valid rules (boolean false) J ≡ false
unfolding valid is_met
valid-false J = refl
