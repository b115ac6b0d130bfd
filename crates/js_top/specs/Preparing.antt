-- What a report that was prepared says of the shelf's files and of its count of faults.
use Rattle.std.specs.Prelude.{◌≡◌, ℕ, suc, List, [], ◌∷◌, ◌++◌, length, Bool, true, false, codes, encode_utf8_all, Option, Some, None, IsSome}
use Rattle.documents.specs.Document.{is_document}
use Rattle.shared_documents.specs.Unshared.{unshared}
use Rattle.js_outside.specs.Counts.{Rose}
use Rattle.js_outside.specs.Told.{Files}
use Rattle.js_words.specs.Commands.{Command, Sat, Include, Valid, Check, Norm, Gen, command}
use Rattle.verdicts.specs.Verdict.{Rejected}
use Rattle.js_report.specs.Lines.{line}
use Rattle.js_commands.specs.FileVerdicts.{SameOrRose}
use Rattle.js_commands.specs.ReadBehind.{IsReadToLine}
use Rattle.js_commands.specs.CheckUnrejected.{IsTooLongUnrejected, IsFaultUnrejected}
use Rattle.js_commands.specs.IncludeOutcome as C
use Rattle.js_commands.specs.IncludeOutcome.{Answer}
use Rattle.js_top.specs.Report.{Report, printed, IsReport}
use Rattle.js_top.specs.Checking.{verdict_words}
use Rattle.js_top.specs.declared.status.Status.{Status}
use Rattle.js_top.specs.declared.status.Status.TheVariants as S
use Rattle.js_top.specs.declared.prepare.Prepared.{Prepared}
use Rattle.js_top.specs.declared.prepare.Prepared.TheVariants as P

abbrev pub report_of : Prepared → Report
report_of P.Usage = printed (codes "usage") S.Usage
report_of P.ReadFault = printed (codes "readfault") S.ReadFault
report_of (P.Made bytes status) = record { text = bytes.items; status = status }

-- a document that the search found is that of its last part
abbrev pub IsPrintable : Answer → Type 0
IsPrintable (C.Document ps i) = (suc i ≡ length ps) × (is_document (unshared ps i) ≡ true)
IsPrintable _ = Unit {0}

-- the statuses of words that are a command and of files that could be read
abbrev pub is_answer : Status → Bool
is_answer S.Done = true
is_answer S.Other = true
is_answer S.Refused = true
is_answer S.Limit = true
is_answer _ = false

-- counts of faults before and after a report was made: they are the same
abbrev pub AsBefore : Status → ℕ → ℕ → Type 0
AsBefore status before after = after ≡ before

-- but for `check` by several workers: where a read of the certificate failed, a line before it may be rejected
abbrev pub AsJudged : (workers : ℕ) → Status → ℕ → ℕ → Type 0
AsJudged workers S.Other before after = SameOrRose workers before after
AsJudged workers status before after = after ≡ before

abbrev pub CountsOf : Option Command → Status → ℕ → ℕ → Type 0
CountsOf None = AsBefore
CountsOf (Some (Sat a w)) = AsBefore
CountsOf (Some (Include a b w)) = AsBefore
CountsOf (Some (Valid a d)) = AsBefore
CountsOf (Some (Check a b c w)) = AsJudged w
CountsOf (Some (Norm a)) = AsBefore
CountsOf (Some (Gen f n w)) = AsBefore

-- the same where memory was refused: it may be where the lines before the failed read are judged
abbrev pub CountsRefused : Option Command → ℕ → ℕ → Type 0
CountsRefused None before after = after ≡ before
CountsRefused (Some (Sat a w)) before after = after ≡ before
CountsRefused (Some (Include a b w)) before after = after ≡ before
CountsRefused (Some (Valid a d)) before after = after ≡ before
CountsRefused (Some (Check a b c w)) before after = SameOrRose w before after
CountsRefused (Some (Norm a)) before after = after ≡ before
CountsRefused (Some (Gen f n w)) before after = after ≡ before

abbrev pub PreparedSays : Option Files → List (List ℕ) → ℕ → ℕ → Prepared → Type 0
PreparedSays told words before after P.Usage = (after ≡ before) × (command words ≡ None)
PreparedSays told words before after P.ReadFault = Rose before after × IsSome (command words)
PreparedSays told words before after (P.Made bytes status) =
    CountsOf (command words) status before after × (is_answer status ≡ true)
    × IsReport told words (record { text = bytes.items; status = status })
    × IsSome (command words)

-- what is prepared says of a report and of counts that these facts hold
abbrev pub ReportSaysBy : (Status → ℕ → ℕ → Type 0) → (Report → Type 0) → ℕ → ℕ → Prepared → Type 0
ReportSaysBy counts is before after P.Usage = ⊥
ReportSaysBy counts is before after P.ReadFault = Rose before after
ReportSaysBy counts is before after (P.Made bytes status) =
    counts status before after × (is_answer status ≡ true) × is (record { text = bytes.items; status = status })

-- what is prepared says of a report that this fact holds, and the counts are as before
abbrev pub ReportSays : (Report → Type 0) → ℕ → ℕ → Prepared → Type 0
ReportSays = ReportSaysBy AsBefore

-- where a report names a rejected line of a certificate, so far is its file read
abbrev pub IsReadToReport : Option Files → (certificate : List ℕ) → (workers : ℕ) → (left : Option (List ℕ)) → Report
    → Type 0
IsReadToReport told certificate workers left r =
    r.status ≡ S.Other → (number : ℕ) × (rule : ℕ) × (r.text ≡ line (verdict_words (Rejected number rule)))
    × IsReadToLine told (encode_utf8_all certificate) left workers number

abbrev pub IsReadOf : Option Files → Option Command → (left : Option (List ℕ)) → Report → Type 0
IsReadOf told None left r = Unit {0}
IsReadOf told (Some (Sat a w)) left r = Unit {0}
IsReadOf told (Some (Include a b w)) left r = Unit {0}
IsReadOf told (Some (Valid a d)) left r = Unit {0}
IsReadOf told (Some (Check a b c w)) left r = IsReadToReport told c w left r
IsReadOf told (Some (Norm a)) left r = Unit {0}
IsReadOf told (Some (Gen f n w)) left r = Unit {0}

-- Where a report tells of a failed read, all three files were begun, from those before to those after, and the last one
-- still is, or of a certificate with too many bytes, no whole line that was read before is rejected.
abbrev pub IsUnrejectedReport : Option Files → (first second certificate : List ℕ) → (is_begun : Bool)
    → (left : Option (List ℕ)) → (before after : List (List ℕ)) → Report → Type 0
IsUnrejectedReport told first second certificate is_begun left before after r =
    (r.status ≡ S.ReadFault
    → after ≡ before ++ (encode_utf8_all first ∷ encode_utf8_all second ∷ encode_utf8_all certificate ∷ [])
    → is_begun ≡ true → IsFaultUnrejected told first second certificate left)
    × (r.status ≡ S.Refused → r.text ≡ line (codes "refused certificate toolong")
    → IsTooLongUnrejected told first second certificate left)

abbrev pub IsUnrejectedOf : Option Files → Option Command → (is_begun : Bool) → (left : Option (List ℕ))
    → (before after : List (List ℕ)) → Report → Type 0
IsUnrejectedOf told None is_begun left before after r = Unit {0}
IsUnrejectedOf told (Some (Sat a w)) is_begun left before after r = Unit {0}
IsUnrejectedOf told (Some (Include a b w)) is_begun left before after r = Unit {0}
IsUnrejectedOf told (Some (Valid a d)) is_begun left before after r = Unit {0}
IsUnrejectedOf told (Some (Check a b c w)) is_begun left before after r =
    IsUnrejectedReport told a b c is_begun left before after r
IsUnrejectedOf told (Some (Norm a)) is_begun left before after r = Unit {0}
IsUnrejectedOf told (Some (Gen f n w)) is_begun left before after r = Unit {0}

-- no file that couldn't be read is reported
abbrev pub IsNoReadFault : Prepared → Type 0
IsNoReadFault P.ReadFault = ⊥
IsNoReadFault _ = Unit {0}
