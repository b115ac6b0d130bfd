-- What is written for `check`, and what it means for the schemas and the certificate.
use Rattle.std.specs.Prelude.{◌≡◌, ◌⊎◌, ◌<◌, ℕ, List, ◌∷◌, ◌++◌, length, Option, Some, None, codes, decimal, encode_utf8_all}
use Rattle.std.specs.Io.KnownBytes.{Appends}
use Rattle.documents.specs.Json.{Json}
use Rattle.draft06.specs.Validity.{Included}
use Rattle.verdicts.specs.Verdict.{Verdict, Accepted, Rejected}
use Rattle.js_keywords.specs.Reading.{rules}
use Rattle.js_outside.specs.Told.{Files}
use Rattle.js_input.specs.ToldTwice.{AreFiles}
use Rattle.js_words.specs.Commands.{Command, Sat, Include, Valid, Check, Norm, Gen, command}
use Rattle.js_commands.specs.FileVerdicts.{longest_file}
use Rattle.js_commands.specs.ReadBehind.{IsReadToLine}
use Rattle.js_commands.specs.CheckOutcome.{judgement_of}
use Rattle.js_commands.specs.CheckMeaning.{AreChecked, IsRefusedAfterFirst}
use Rattle.js_top.specs.Names.{check_names}
use Rattle.js_report.specs.Lines.{line}
use Rattle.js_top.specs.Judging.{RefusesSchema}
use Rattle.js_top.specs.declared.status.Status.{Status}
use Rattle.js_top.specs.declared.status.Status.TheVariants as S

-- the words for a certificate that is accepted, and for another the first line that breaks a rule, and the least such
-- rule
abbrev pub verdict_words : Verdict → List ℕ
verdict_words Accepted = codes "accepted"
verdict_words (Rejected k r) = codes "rejected " ++ decimal k ++ 32 ∷ decimal r

abbrev pub verdict_status : Verdict → Status
verdict_status Accepted = S.Done
verdict_status (Rejected k r) = S.Other

-- the words name two schemas, which are read as these values, and a file of these bytes
pub record AreNamedFiles (told : Option Files) (words : List (List ℕ)) (a b : Json) (bytes : List ℕ) : Type 0 where
  pub first : List ℕ
  pub second : List ℕ
  pub certificate : List ℕ
  pub named : check_names words ≡ Some (first, second, certificate)
  pub are : AreChecked told first second certificate a b bytes

-- an accepted certificate is right: each document that is valid for the first schema is valid for the second
abbrev pub MeansVerdict : Json → Json → Verdict → Type 0
MeansVerdict a b Accepted = Included rules a b
MeansVerdict a b (Rejected k r) = Unit {0}

-- the line of a verdict, which is that of the bytes for the schemas that the words name, and what it means
pub record IsVerdictWritten (told : Option Files) (words : List (List ℕ)) (old new : Option (List ℕ)) (v : Verdict)
    : Type 0 where
  pub written : Appends old new (line (verdict_words v))
  pub a : Json
  pub b : Json
  pub bytes : List ℕ
  pub are : AreNamedFiles told words a b bytes
  pub verdict : judgement_of a b bytes ≡ v
  pub means : MeansVerdict a b v

-- where files are known: the line and the status are those of the verdict on the bytes, and it means what it says
pub record IsToldVerdict (a b : Json) (v : Verdict) (old new : Option (List ℕ)) (status : Status) : Type 0 where
  pub written : Appends old new (line (verdict_words v))
  pub is_status : status ≡ verdict_status v
  pub means : MeansVerdict a b v

-- or there are more bytes than a file may have
pub record IsToldTooLong (bytes : List ℕ) (old new : Option (List ℕ)) (status : Status) : Type 0 where
  pub long : longest_file < length bytes
  pub written : Appends old new (line (codes "refused certificate toolong"))
  pub is_status : status ≡ S.Refused

-- the line of a line and a rule that it breaks
abbrev pub WritesRejection : Option Files → List (List ℕ) → Option (List ℕ) → Option (List ℕ) → Type 0
WritesRejection told words old new =
    (k : ℕ) × (r : ℕ) × IsVerdictWritten told words old new (Rejected k r)

-- The line of a rejection, and how far the certificate's file is read then, of which so much is left: where files are
-- known, what was read before the last piece has fewer whole lines than its number, and at most a batch more for
-- several workers (`IsReadTo` of `js_certificate`).
pub record IsReadToRejection (told : Option Files) (certificate : List ℕ) (workers : ℕ) (left old new : Option (List ℕ))
    : Type 0 where
  pub number : ℕ
  pub rule : ℕ
  pub written : Appends old new (line (verdict_words (Rejected number rule)))
  pub read : IsReadToLine told (encode_utf8_all certificate) left workers number

abbrev pub IsReadNoFurtherOf : Option Files → Option Command → (left old new : Option (List ℕ)) → Type 0
IsReadNoFurtherOf told None left old new = Unit {0}
IsReadNoFurtherOf told (Some (Sat a w)) left old new = Unit {0}
IsReadNoFurtherOf told (Some (Include a b w)) left old new = Unit {0}
IsReadNoFurtherOf told (Some (Valid a d)) left old new = Unit {0}
IsReadNoFurtherOf told (Some (Check a b c w)) left old new = IsReadToRejection told c w left old new
IsReadNoFurtherOf told (Some (Norm a)) left old new = Unit {0}
IsReadNoFurtherOf told (Some (Gen f n w)) left old new = Unit {0}

-- for the words of `check`
abbrev pub IsReadNoFurther : Option Files → List (List ℕ) → (left old new : Option (List ℕ)) → Type 0
IsReadNoFurther told words left old new = IsReadNoFurtherOf told (command words) left old new

-- the first schema is read and the second is refused, with this line
abbrev pub RefusesOther : Files → Files → (first second text : List ℕ) → Type 0
RefusesOther files later first second text =
    (words : List ℕ) × IsRefusedAfterFirst files later first second words
    × (line (codes "refused second " ++ words) ≡ text)

-- both schemas are read, and the certificate has too many bytes
abbrev pub RefusesCertificate : Option Files → (first second certificate text : List ℕ) → Type 0
RefusesCertificate told first second certificate text =
    ((a : Json) × (b : Json) × (bytes : List ℕ) × AreChecked told first second certificate a b bytes
    × (longest_file < length bytes))
    × (line (codes "refused certificate toolong") ≡ text)

-- the first refusal in the order of work
pub record IsCheckRefusal (told : Option Files) (words : List (List ℕ)) (text : List ℕ) : Type 0 where
  pub first : List ℕ
  pub second : List ℕ
  pub certificate : List ℕ
  pub named : check_names words ≡ Some (first, second, certificate)
  pub files : Files
  pub later : Files
  pub are_files : AreFiles told files later
  pub refusal : RefusesSchema files first text ⊎ RefusesOther files later first second text
      ⊎ RefusesCertificate told first second certificate text

abbrev pub WritesCheckRefusal : Option Files → List (List ℕ) → Option (List ℕ) → Option (List ℕ) → Type 0
WritesCheckRefusal told words old new = (text : List ℕ) × Appends old new text × IsCheckRefusal told words text
