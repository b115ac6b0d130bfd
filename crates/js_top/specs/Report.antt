-- The report of a command over files, and of `gen` over the schemas of a family: what is printed, and the status.
use Rattle.std.specs.Prelude.{◌≡◌, ℕ, List, [], ◌∷◌, ◌++◌, length, drop, Bool, true, false, cond, is_none, nat_eq, Option, Some, None, codes, decimal}
use Rattle.std.specs.List.{before_first}
use Rattle.shared_documents.specs.Part.{Part}
use Rattle.shared_documents.specs.Unshared.{unshared}
use Rattle.document_texts.specs.FoundText.{is_plain_text, found_text}
use Rattle.document_texts.specs.Measured.{measured}
use Rattle.families.specs.Families.{Family, family_word}
use Rattle.goals.specs.Signed.{Signed}
use Rattle.alternatives.specs.Limit as L
use Rattle.alternatives.specs.Limit.{LimitKind}
use Rattle.certificate_lines.specs.Text.{signed_text, list_text}
use Rattle.js_outside.specs.Told.{Files}
use Rattle.js_report.specs.Lines.{line}
use Rattle.js_words.specs.Commands.{Command, Sat, Include, Valid, Check, Norm, Gen, command}
use Rattle.js_commands.specs.IncludeOutcome as C
use Rattle.js_commands.specs.IncludeOutcome.{Answer, IsComparison}
use Rattle.js_commands.specs.IncludeMeaning.{MeansFor}
use Rattle.js_commands.specs.ValidOutcome as V
use Rattle.js_commands.specs.ValidOutcome.{Outcome, IsValidation}
use Rattle.js_commands.specs.CheckOutcome as K
use Rattle.js_commands.specs.CheckOutcome.{IsChecking}
use Rattle.js_commands.specs.CheckMeaning as KM
use Rattle.js_commands.specs.NormOutcome as N
use Rattle.js_commands.specs.NormOutcome.{IsListing}
use Rattle.js_commands.specs.GenOutcome as G
use Rattle.js_commands.specs.GenOutcome.{IsFamilyInclusion}
use Rattle.js_commands.specs.GenMeaning as GM
use Rattle.js_top.specs.Printed.{IsDocumentText}
use Rattle.js_top.specs.declared.finding.Finding.{Finding}
use Rattle.js_top.specs.declared.finding.Finding.TheVariants as F
use Rattle.js_top.specs.declared.status.Status.{Status}
use Rattle.js_top.specs.declared.status.Status.TheVariants as S

pub record Report : Type 0 where
  pub text : List ℕ
  pub status : Status

abbrev pub printed : List ℕ → Status → Report
printed words status = record { text = line words; status = status }

-- ---- `include` and `sat`

-- the word of a limit
abbrev pub limit_word : LimitKind → List ℕ
limit_word L.Branches = codes "branches"
limit_word L.Positions = codes "positions"
limit_word L.Classes = codes "classes"
limit_word L.States = codes "states"
limit_word L.Counts = codes "counts"
limit_word L.Multiples = codes "multiples"
limit_word L.Candidates = codes "candidates"
limit_word L.Plans = codes "plans"
limit_word L.Width = codes "width"
limit_word L.Places = codes "places"
limit_word L.Goals = codes "goals"
limit_word L.Total = codes "total"

abbrev pub goal_text : Option (List Signed) → List ℕ
goal_text None = []
goal_text (Some g) = list_text signed_text g

-- the line of a limit, with the goal that passes it; a limit on all goals comes alone
abbrev pub limit_line : LimitKind → Option (List Signed) → List ℕ
limit_line k o = line (codes "limit " ++ limit_word k ++ goal_text o)

abbrev pub answer_text : Answer → List ℕ
answer_text (C.Document ps i) = found_text ps i
answer_text (C.Certificate bytes) = bytes
answer_text (C.Limit k o) = limit_line k o

-- a document, that there is none, or that a limit was passed
abbrev pub finding_of : Answer → Finding
finding_of (C.Document ps i) = F.Document
finding_of (C.Certificate bytes) = F.Nothing
finding_of (C.Limit k o) = F.Limit

-- `sat` asks for a document, and `include` that there is none
abbrev pub finding_status : (is_sat : Bool) → Finding → Status
finding_status true F.Document = S.Done
finding_status true F.Nothing = S.Other
finding_status true F.Limit = S.Limit
finding_status false F.Document = S.Other
finding_status false F.Nothing = S.Done
finding_status false F.Limit = S.Limit

abbrev pub answer_report : (is_sat : Bool) → Answer → Report
answer_report is_sat x = record { text = answer_text x; status = finding_status is_sat (finding_of x) }

-- the report of `include` and of `sat`, by what the files come to
abbrev pub compared_report : (is_sat : Bool) → C.Outcome → Report
compared_report is_sat (C.Decided x) = answer_report is_sat x
compared_report is_sat (C.FirstRefused words) = printed (codes "refused " ++ codes "first" ++ 32 ∷ words) S.Refused
compared_report is_sat (C.SecondRefused words) = printed (codes "refused " ++ codes "second" ++ 32 ∷ words) S.Refused
compared_report is_sat C.ReadFault = printed (codes "readfault") S.ReadFault

-- the document that the search found is what the text is read back as
abbrev pub IsReadBack : Answer → List ℕ → Type 0
IsReadBack (C.Document ps i) text = IsDocumentText text (unshared ps i)
IsReadBack _ text = Unit {0}

abbrev pub IsOutcomeReadBack : C.Outcome → List ℕ → Type 0
IsOutcomeReadBack (C.Decided x) text = IsReadBack x text
IsOutcomeReadBack _ text = Unit {0}

-- with what the files come to is what that means; `sat` has no second file
abbrev pub IsComparedReport : Option Files → List ℕ → Option (List ℕ) → Report → Type 0
IsComparedReport told a second r =
    (o : C.Outcome) × IsComparison told a second o × MeansFor told a second o × IsOutcomeReadBack o r.text
    × (compared_report (is_none second) o ≡ r)

-- ---- the other commands

-- the report of `valid`, by what its files come to
abbrev pub outcome_report : Outcome → Report
outcome_report V.Valid = printed (codes "valid") S.Done
outcome_report V.Invalid = printed (codes "invalid") S.Other
outcome_report (V.SchemaRefused words) = printed (codes "refused " ++ codes "first" ++ 32 ∷ words) S.Refused
outcome_report (V.DocumentRefused words) = printed (codes "refused " ++ codes "document" ++ 32 ∷ words) S.Refused
outcome_report V.ReadFault = printed (codes "readfault") S.ReadFault

abbrev pub IsValidReport : Option Files → List ℕ → List ℕ → Report → Type 0
IsValidReport told a d r = (o : Outcome) × IsValidation told a d o × (outcome_report o ≡ r)

-- the report of `check`, by what its files come to
abbrev pub checked_report : K.Outcome → Report
checked_report K.Accepted = printed (codes "accepted") S.Done
checked_report (K.Rejected line rule) = printed (codes "rejected " ++ decimal line ++ 32 ∷ decimal rule) S.Other
checked_report (K.FirstRefused words) = printed (codes "refused " ++ codes "first" ++ 32 ∷ words) S.Refused
checked_report (K.SecondRefused words) = printed (codes "refused " ++ codes "second" ++ 32 ∷ words) S.Refused
checked_report K.TooLong = printed (codes "refused certificate toolong") S.Refused
checked_report K.ReadFault = printed (codes "readfault") S.ReadFault

-- with what the files come to is what that means
abbrev pub IsCheckReport : Option Files → (first second certificate : List ℕ) → Report → Type 0
IsCheckReport told a b c r =
    (o : K.Outcome) × IsChecking told a b c o × KM.MeansFor told a b c o × (checked_report o ≡ r)

-- the report of `norm`, by what its file comes to
abbrev pub listed_report : N.Outcome → Report
listed_report (N.Listed text) = record { text = text; status = S.Done }
listed_report (N.SchemaRefused words) = printed (codes "refused " ++ codes "first" ++ 32 ∷ words) S.Refused
listed_report N.ReadFault = printed (codes "readfault") S.ReadFault

abbrev pub IsNormReport : Option Files → List ℕ → Report → Type 0
IsNormReport told a r = (o : N.Outcome) × IsListing told a o × (listed_report o ≡ r)

-- ---- `gen`

-- how many goals a certificate lists: what comes behind the line `certificate 1` and the word `goals` up to the line's
-- end
abbrev pub listed_goals : List ℕ → List ℕ
listed_goals bytes = before_first (nat_eq 10) (drop (length (codes "certificate 1\ngoals ")) bytes)

abbrev pub certificate_words : List ℕ → List ℕ
certificate_words bytes = codes "certificate " ++ listed_goals bytes

-- whether a document would be printed plain, or in how many parts
abbrev pub document_words : List Part → ℕ → List ℕ
document_words ps i =
    cond (is_plain_text (measured (unshared ps i))) (codes "document") (codes "parts " ++ decimal (length ps))

abbrev pub generated_line : Family → ℕ → List ℕ
generated_line f n = line (codes "generated " ++ family_word f ++ 32 ∷ decimal n)

-- how many goals were explored, and the last round that added one
abbrev pub counts_text : (goals rounds : ℕ) → List ℕ
counts_text goals rounds = line (codes "goals " ++ decimal goals) ++ line (codes "rounds " ++ decimal rounds)

-- with what `include` would print; the line of a limit comes alone
abbrev pub findings_text : Answer → (goals rounds : ℕ) → List ℕ
findings_text (C.Document ps i) goals rounds = counts_text goals rounds ++ line (document_words ps i)
findings_text (C.Certificate bytes) goals rounds = counts_text goals rounds ++ line (certificate_words bytes)
findings_text (C.Limit k o) goals rounds = limit_line k o

-- the report of `gen`, by what the family's schemas come to
abbrev pub generated_report : Family → ℕ → G.Outcome → Report
generated_report f n (G.Decided x goals rounds) =
    record { text = generated_line f n ++ findings_text x goals rounds; status = finding_status false (finding_of x) }
generated_report f n (G.FirstRefused words) = printed (codes "refused " ++ codes "first" ++ 32 ∷ words) S.Refused
generated_report f n (G.SecondRefused words) = printed (codes "refused " ++ codes "second" ++ 32 ∷ words) S.Refused

-- with what the family's schemas come to is what that means
abbrev pub IsGenReport : Family → ℕ → Report → Type 0
IsGenReport f n r = (o : G.Outcome) × IsFamilyInclusion f n o × GM.MeansFor f n o × (generated_report f n o ≡ r)

abbrev pub IsReportOf : Option Files → Option Command → Report → Type 0
IsReportOf told None r = r ≡ printed (codes "usage") S.Usage
IsReportOf told (Some (Sat a w)) r = IsComparedReport told a None r
IsReportOf told (Some (Include a b w)) r = IsComparedReport told a (Some b) r
IsReportOf told (Some (Valid a d)) r = IsValidReport told a d r
IsReportOf told (Some (Check a b c w)) r = IsCheckReport told a b c r
IsReportOf told (Some (Norm a)) r = IsNormReport told a r
IsReportOf told (Some (Gen f n w)) r = IsGenReport f n r

-- the report of the words
abbrev pub IsReport : Option Files → List (List ℕ) → Report → Type 0
IsReport told words r = IsReportOf told (command words) r
