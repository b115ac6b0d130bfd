-- What is said of a certificate that isn't judged to its end.
use Rattle.std.specs.Prelude.{ℕ, List, Option, Some, encode_utf8_all}
use Rattle.documents.specs.Json.{Json}
use Rattle.js_outside.specs.Told.{Files}
use Rattle.js_certificate.specs.Unrejected.{StopsUnrejected}
use Rattle.js_certificate.specs.declared.file.FileFault.{FileFault}
use Rattle.js_certificate.specs.declared.file.FileFault.TheVariants.{TooLong, Read}
use Rattle.js_commands.specs.CheckOutcome.{judgement_of}
use Rattle.js_commands.specs.IncludeMeaning.{AreSchemas}

-- The files of the first two names are schemas, and the certificate's file, of which so much is left, isn't judged to
-- its end for that fault: by what is judged of bytes for the two, no whole line that was read before is rejected
-- (`StopsUnrejected` of `js_certificate`).
pub record IsUnrejected (told : Option Files) (first second certificate : List ℕ) (left : Option (List ℕ))
    (fault : FileFault) : Type 0 where
  pub a : Json
  pub b : Json
  pub are : AreSchemas told first (Some second) a b
  pub unrejected : StopsUnrejected (judgement_of a b) told (encode_utf8_all certificate) left fault

-- for it has too many bytes
abbrev pub IsTooLongUnrejected : Option Files → (first second certificate : List ℕ) → (left : Option (List ℕ)) → Type 0
IsTooLongUnrejected told first second certificate left = IsUnrejected told first second certificate left TooLong

-- for a read failed
abbrev pub IsFaultUnrejected : Option Files → (first second certificate : List ℕ) → (left : Option (List ℕ)) → Type 0
IsFaultUnrejected told first second certificate left = IsUnrejected told first second certificate left Read
