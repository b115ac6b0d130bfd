-- What two schema files and a certificate's file come to.
use Rattle.std.specs.Prelude.{◌≡◌, ◌⊎◌, ◌<◌, ℕ, List, length, Option, Some, None, encode_utf8_all}
use Rattle.documents.specs.Json.{Json}
use Rattle.verdicts.specs.Verdict as V
use Rattle.verdicts.specs.Verdict.{Verdict}
use Rattle.js_outside.specs.Told.{Files}
use Rattle.js_input.specs.SchemaReading.{Reading, Refused, Read, IsSchemaReading}
use Rattle.js_input.specs.ToldTwice.{AreFiles}
use Rattle.js_certificate.specs.FileVerdicts.{longest_file}
use Rattle.js_inclusion.specs.Comparison.{judgement}
use Rattle.js_commands.specs.ReadEntries.{entries_read}

pub data Outcome : Type 0 where
  -- the certificate shows that the first schema is included in the second
  Accepted : Outcome
  -- the first line that breaks a rule, from 1, and the least rule that it breaks
  Rejected : (line rule : ℕ) → Outcome
  -- the words of a refusal after the file's role
  FirstRefused : List ℕ → Outcome
  SecondRefused : List ℕ → Outcome
  -- the certificate has too many bytes
  TooLong : Outcome
  -- a file isn't there
  ReadFault : Outcome

abbrev pub of_verdict : Verdict → Outcome
of_verdict V.Accepted = Accepted
of_verdict (V.Rejected line rule) = Rejected line rule

-- what is judged of bytes that are to show that each document that is valid for `a` is valid for `b`
abbrev pub judgement_of : Json → Json → List ℕ → Verdict
judgement_of a b bytes = judgement (entries_read a) (entries_read b) bytes

-- bytes come to what is judged of them. Of more bytes than a file may have, it may be reported that they are too many,
-- unless a line among the first ones is rejected
abbrev pub IsOutcomeOfBytes : Json → Json → (certificate : List ℕ) → Outcome → Type 0
IsOutcomeOfBytes a b bytes o =
    (o ≡ of_verdict (judgement_of a b bytes)) ⊎ ((longest_file < length bytes) × (o ≡ TooLong))

-- what a certificate's file comes to, by its bytes where it is there
abbrev pub IsOutcomeOfCertificate : Json → Json → Option (List ℕ) → Outcome → Type 0
IsOutcomeOfCertificate a b None o = o ≡ ReadFault
IsOutcomeOfCertificate a b (Some bytes) o = IsOutcomeOfBytes a b bytes o

-- the certificate is looked at only where the second schema is read
abbrev pub IsOutcomeOfSecond : (certificate : Option (List ℕ)) → Json → Reading → Outcome → Type 0
IsOutcomeOfSecond certificate a (Refused words) o = o ≡ SecondRefused words
IsOutcomeOfSecond certificate a (Read b) o = IsOutcomeOfCertificate a b certificate o

abbrev pub IsAgainstBytes : (second certificate : Option (List ℕ)) → Json → Outcome → Type 0
IsAgainstBytes None certificate a o = o ≡ ReadFault
IsAgainstBytes (Some bytes) certificate a o =
    (r : Reading) × IsSchemaReading bytes r × IsOutcomeOfSecond certificate a r o

-- and the second one only where the first is read
abbrev pub IsOutcomeOfFirst : (second certificate : Option (List ℕ)) → Reading → Outcome → Type 0
IsOutcomeOfFirst second certificate (Refused words) o = o ≡ FirstRefused words
IsOutcomeOfFirst second certificate (Read a) o = IsAgainstBytes second certificate a o

-- what files come to, by their bytes where they are there
abbrev pub IsOutcomeOf : (first second certificate : Option (List ℕ)) → Outcome → Type 0
IsOutcomeOf None second certificate o = o ≡ ReadFault
IsOutcomeOf (Some bytes) second certificate o =
    (r : Reading) × IsSchemaReading bytes r × IsOutcomeOfFirst second certificate r o

-- what the files of these names come to; `later` are the files when the second is read, and `last` when the
-- certificate is
pub record IsChecking (told : Option Files) (first second certificate : List ℕ) (o : Outcome) : Type 0 where
  pub files : Files
  pub later : Files
  pub last : Files
  pub are_files : AreFiles told files later
  pub are_last : AreFiles told later last
  pub outcome : IsOutcomeOf (files (encode_utf8_all first)) (later (encode_utf8_all second))
      (last (encode_utf8_all certificate)) o
