-- What an outcome means for the values of the two schemas and the bytes of the certificate.
use Rattle.std.specs.Prelude.{◌≡◌, ℕ, List, Option, Some, encode_utf8_all}
use Rattle.documents.specs.Json.{Json}
use Rattle.draft06.specs.Validity.{Included}
use Rattle.verdicts.specs.Verdict as V
use Rattle.js_keywords.specs.Reading.{rules}
use Rattle.js_outside.specs.Told.{Files}
use Rattle.js_input.specs.FileReading.{IsSchemaFile, IsSchemaRefusal}
use Rattle.js_input.specs.ToldTwice.{AreFiles}
use Rattle.js_commands.specs.CheckOutcome.{Outcome, Accepted, judgement_of}

-- the files of these names are two schemas, with these values, and a file of these bytes
pub record AreChecked (told : Option Files) (first second certificate : List ℕ) (a b : Json) (bytes : List ℕ) : Type 0
  where
    pub files : Files
    pub later : Files
    pub last : Files
    pub are_files : AreFiles told files later
    pub are_last : AreFiles told later last
    pub is_first : IsSchemaFile files first a
    pub is_second : IsSchemaFile later second b
    pub told_bytes : last (encode_utf8_all certificate) ≡ Some bytes

-- the bytes are accepted for the two schemas, and every document that is valid for the first is valid for the second
pub record IsAccepted (told : Option Files) (first second certificate : List ℕ) : Type 0 where
  pub a : Json
  pub b : Json
  pub bytes : List ℕ
  pub are : AreChecked told first second certificate a b bytes
  pub is : judgement_of a b bytes ≡ V.Accepted
  pub included : Included rules a b

-- what is accepted is right
abbrev pub MeansFor : Option Files → (first second certificate : List ℕ) → Outcome → Type 0
MeansFor told first second certificate Accepted = IsAccepted told first second certificate
MeansFor told first second certificate _ = Unit {0}

-- the first is a schema, and the second is refused with these words
pub record IsRefusedAfterFirst (files later : Files) (first second words : List ℕ) : Type 0 where
  pub value : Json
  pub is_first : IsSchemaFile files first value
  pub is_refused : IsSchemaRefusal later second words
