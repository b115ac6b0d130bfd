-- What a comparison means for the values that two schemas are read from.
use Rattle.std.specs.Prelude.{◌≡◌, ℕ, suc, List, length, true, Option, Ok}
use Rattle.documents.specs.Json.{Json}
use Rattle.documents.specs.WellFormed.{is_json}
use Rattle.shared_documents.specs.Part.{Part}
use Rattle.shared_documents.specs.Unshared.{unshared}
use Rattle.schemas.specs.Entry.{Entry}
use Rattle.schemas.specs.Entries.{read}
use Rattle.draft06.specs.Validity.{Included, Separates}
use Rattle.goals.specs.Signed.{Signed}
use Rattle.alternatives.specs.Limit.{LimitKind, most_goals, most_total}
use Rattle.decisions.specs.Decision.{Verdict, Document, Limit, NoDocument}
use Rattle.decisions.specs.Meaning as M
use Rattle.certificate_lines.specs.Text.{IsText}
use Rattle.verdicts.specs.Verdict.{Accepted}
use Rattle.js_keywords.specs.Reading.{rules}
use Rattle.js_expander.specs.Found.{finders}
use Rattle.js_decide.specs.Counted.{IsCounted}
use Rattle.js_inclusion.specs.Comparison.{both, second_root, certificate, certificate_text, judgement}

-- the value of a text, which is read as these entries
pub record IsReadAs (value : Json) (es : List Entry) : Type 0 where
  pub well_formed : is_json value ≡ true
  pub entries : read rules value ≡ Ok es

-- the last part stands for a document that is valid for the first value and not for the second
pub record AreSeparating (a b : Json) (ps : List Part) (i : ℕ) : Type 0 where
  pub last : suc i ≡ length ps
  pub separates : Separates rules a b (unshared ps i)

-- each document that is valid for the first value is valid for the second, and the certificate is one
pub record IsCertified (es fs : List Entry) (a b : Json) : Type 0 where
  pub included : Included rules a b
  pub accepted : judgement es fs (certificate_text es fs) ≡ Accepted
  pub in_grammar : IsText (certificate_text es fs) (certificate es fs)

-- no round of the explored goals has a document of the two schemas' goal, and this limit is passed first, by this goal
-- or by all goals
pub record StopsSearch (es fs : List Entry) (kind : LimitKind) (goal : Option (List Signed)) : Type 0 where
  pub stops : M.Means (finders (both es fs)) (both es fs) most_goals most_total 0 (second_root es) (Limit kind goal)

-- what this limit counts is over its number: at this goal, or where there is none of all goals that were explored
abbrev pub PassesCount : List Entry → List Entry → LimitKind → Option (List Signed) → Type 0
PassesCount es fs kind goal = IsCounted (both es fs) 0 (second_root es) (Limit kind goal)

-- where a limit is the verdict, its count is over its number
abbrev pub AreCounted : List Entry → List Entry → Verdict → Type 0
AreCounted es fs v = IsCounted (both es fs) 0 (second_root es) v

abbrev pub Tells : List Entry → List Entry → Json → Json → Verdict → Type 0
Tells es fs a b (Document ps i) = AreSeparating a b ps i
Tells es fs a b NoDocument = IsCertified es fs a b
Tells es fs a b (Limit kind goal) = StopsSearch es fs kind goal

-- whatever values the schemas are read from
abbrev pub Means : List Entry → List Entry → Verdict → Type 0
Means es fs v = (a b : Json) → IsReadAs a es → IsReadAs b fs → Tells es fs a b v

-- whatever values the schemas are read from, each document that is valid for the first is valid for the second
abbrev pub AreIncluded : List Entry → List Entry → Type 0
AreIncluded es fs = (a b : Json) → IsReadAs a es → IsReadAs b fs → Included rules a b
