-- What the calls answer.
use Rattle.std.specs.Prelude.{◌≡◌, ◌⊎◌, ℕ, Bool, true, List, [], ◌∷◌, ◌++◌, Option, encode_utf8_all, string_bytes}
use Rattle.schemas.specs.Entry.{Entry}
use Rattle.js_outside.specs.Counts.{Rose}
use Rattle.js_outside.specs.Told.{Files}
use Rattle.js_certificate.specs.FileVerdicts.{IsTooLong, SameOrRose}
use Rattle.js_certificate.specs.ReadBehind.{IsReadToLine}
use Rattle.js_certificate.specs.Unrejected.{FailsUnrejected}
use Rattle.js_certificate.specs.declared.file.FileVerdict.TheVariants as V
use Rattle.js_certificate.specs.declared.file.FileFault.TheVariants as F
use Rattle.js_inclusion.specs.Comparison.{judgement}
use Rattle.js_inclusion.specs.Meaning.{AreIncluded}
use Rattle.js_inclusion.specs.Judging.{IsJudgementOf}
use Rattle.js_commands.specs.CheckOutcome as O
use Rattle.js_commands.specs.CheckOutcome.{Outcome, IsChecking}
use Rattle.js_commands.specs.CheckMeaning.{MeansFor}
use Rattle.js_commands.specs.CheckUnrejected.{IsTooLongUnrejected, IsFaultUnrejected}
use Rattle.js_commands.specs.declared.check.Checking.{Checking}
use Rattle.js_commands.specs.declared.check.Checking.TheVariants as C

abbrev pub outcome_of : Checking → Outcome
outcome_of C.Accepted = O.Accepted
outcome_of (C.Rejected line rule) = O.Rejected line rule
outcome_of (C.FirstRefused words) = O.FirstRefused (string_bytes words)
outcome_of (C.SecondRefused words) = O.SecondRefused (string_bytes words)
outcome_of C.TooLong = O.TooLong
outcome_of C.ReadFault = O.ReadFault

-- a fault is counted where a file couldn't be read, and else the answer is what the files come to. A line before a read
-- that failed may be rejected, where there are several workers
abbrev pub CheckingSays : Option Files → (first second certificate : List ℕ) → (workers : ℕ) → ℕ → ℕ → Checking
    → Type 0
CheckingSays told first second certificate workers before after C.ReadFault = Rose before after
CheckingSays told first second certificate workers before after (C.Rejected line rule) =
    SameOrRose workers before after × IsChecking told first second certificate (O.Rejected line rule)
    × MeansFor told first second certificate (O.Rejected line rule)
CheckingSays told first second certificate workers before after c =
    (after ≡ before) × IsChecking told first second certificate (outcome_of c)
    × MeansFor told first second certificate (outcome_of c)

-- the same of a certificate's file, which is given by its UTF-8 bytes, for two schemas that were read
abbrev pub CertificateSays : List Entry → List Entry → Option Files → (name : List ℕ) → (workers : ℕ) → ℕ → ℕ
    → Checking → Type 0
CertificateSays es fs told name workers before after C.Accepted =
    (after ≡ before) × IsJudgementOf es fs told name V.Accepted × AreIncluded es fs
CertificateSays es fs told name workers before after (C.Rejected line rule) =
    SameOrRose workers before after × IsJudgementOf es fs told name (V.Rejected line rule)
CertificateSays es fs told name workers before after C.TooLong = (after ≡ before) × IsTooLong told name
CertificateSays es fs told name workers before after C.ReadFault = Rose before after
CertificateSays es fs told name workers before after (C.FirstRefused words) = ⊥
CertificateSays es fs told name workers before after (C.SecondRefused words) = ⊥

-- where a line is rejected, so far is the certificate's file read, which is given by its UTF-8 bytes
abbrev pub IsReadWith : Option Files → (name : List ℕ) → Option (List ℕ) → (workers : ℕ) → Checking → Type 0
IsReadWith told name left workers (C.Rejected line rule) = IsReadToLine told name left workers line
IsReadWith told name left workers c = Unit {0}

-- Where the certificate isn't judged to its end, no whole line that was read before is rejected. A read fault is the
-- certificate's where all three names were begun, from those before to those after, and a read of it failed where it is
-- begun still.
abbrev pub EndsUnrejected : Option Files → (first second certificate : List ℕ) → (is_begun : Bool)
    → (left : Option (List ℕ)) → (before after : List (List ℕ)) → Checking → Type 0
EndsUnrejected told first second certificate is_begun left before after C.TooLong =
    IsTooLongUnrejected told first second certificate left
EndsUnrejected told first second certificate is_begun left before after C.ReadFault =
    after ≡ before ++ (encode_utf8_all first ∷ encode_utf8_all second ∷ encode_utf8_all certificate ∷ [])
    → is_begun ≡ true → IsFaultUnrejected told first second certificate left
EndsUnrejected told first second certificate is_begun left before after c = Unit {0}

-- the same of a certificate's file, which is given by its UTF-8 bytes, for two schemas that were read
abbrev pub IsUnrejectedWith : List Entry → List Entry → Option Files → (name : List ℕ) → (is_begun : Bool)
    → (left : Option (List ℕ)) → Checking → Type 0
IsUnrejectedWith es fs told name is_begun left C.TooLong =
    FailsUnrejected (judgement es fs) told name is_begun left F.TooLong
IsUnrejectedWith es fs told name is_begun left C.ReadFault =
    FailsUnrejected (judgement es fs) told name is_begun left F.Read
IsUnrejectedWith es fs told name is_begun left c = Unit {0}

-- the file is begun, unless memory is refused before
abbrev pub MayBegin : (name : List ℕ) → (before after : List (List ℕ)) → Type 0
MayBegin name before after = (after ≡ before) ⊎ (after ≡ before ++ name ∷ [])
