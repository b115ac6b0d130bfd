-- What the report of two schemas means.
use Rattle.std.proofs.Common.{◌≡◌, ◌⊎◌, inl, inr, List, ℕ, Bool, true, false, cond, refl, ap, sym, ◌∙◌, subst}
use Rattle.documents.specs.Json.{Json, boolean}
use Rattle.shared_documents.specs.Unshared.{unshared}
use Rattle.draft06.specs.Validity.{valid, Included}
use Rattle.js_keywords.specs.Reading.{rules}
use Rattle.js_commands.specs.Comparison.{certificate_text}
use Rattle.js_commands.specs.Meaning.{PassesCount}
use Rattle.js_commands.proofs.MeaningLaws.{comparison-stopped}
use Rattle.js_commands.proofs.NothingLaws.{valid-false}
use Rattle.js_commands.specs.ReadEntries.{entries_read}
use Rattle.js_commands.specs.IncludeOutcome as A
use Rattle.js_commands.specs.IncludeOutcome.{Answer, of_decision}
use Rattle.js_commands.specs.IncludeMeaning.{answer_of, IsCertificate, IsPassed, ValuesTell}
use Rattle.js_top.specs.Report.{answer_text, finding_of, finding_status, IsReadBack}
use Rattle.js_top.specs.Meaning.{IsCounterexample, IsLimit, PassLimit, IsWitness, IsUnsatisfiable, IsRefutation}
use Rattle.js_top.specs.Preparing.{IsPrintable}
use Rattle.js_top.specs.declared.finding.Finding.{Finding}
use Rattle.js_top.specs.declared.finding.Finding.TheVariants as F
use Rattle.js_top.specs.declared.status.Status.{Status}
use Rattle.js_top.specs.declared.status.Status.TheVariants as S

-- ---- what an answer shows

-- the finding of a status, and back

abbrev pub finding_in : (is_sat : Bool) → Status → Finding
finding_in is_sat S.Done = cond is_sat F.Document F.Nothing
finding_in is_sat S.Other = cond is_sat F.Nothing F.Document
finding_in is_sat _ = F.Limit

finding_in-status : (is_sat : Bool) (f : Finding) → finding_in is_sat (finding_status is_sat f) ≡ f
finding_in-status true F.Document = refl
finding_in-status true F.Nothing = refl
finding_in-status true F.Limit = refl
finding_in-status false F.Document = refl
finding_in-status false F.Nothing = refl
finding_in-status false F.Limit = refl

limited-status : (is_sat : Bool) (f : Finding) → f ≡ F.Limit → finding_status is_sat f ≡ S.Limit
limited-status true f e = ap (finding_status true) e
limited-status false f e = ap (finding_status false) e

-- what it means for two schemas that it is found, with this text
abbrev pub Shows : Json → Json → Finding → List ℕ → Type 0
Shows a b F.Document text = IsCounterexample a b text
Shows a b F.Nothing text = IsCertificate a b text
Shows a b F.Limit text = IsLimit a b text

-- a document that was found can be printed
pub printable : (a b : Json) (x : Answer) → ValuesTell a b x → IsPrintable x
printable a b (A.Document ps i) tells = (tells.last, tells.separates.document)
printable a b (A.Certificate bytes) tells = tt
printable a b (A.Limit k o) tells = tt

module _ (a b : Json) where
  answer-shows : (x : Answer) → ValuesTell a b x → (text : List ℕ) → answer_text x ≡ text → IsReadBack x text
      → Shows a b (finding_of x) text
  answer-shows (A.Document ps i) tells text e back =
      record { document = unshared ps i; is = back; separates = tells.separates }
  answer-shows (A.Certificate bytes) tells text e back = subst (IsCertificate a b) e tells
  answer-shows (A.Limit k o) tells text e back = record { kind = k; goal = o; passed = tells; written = e }

  -- by the status of its report
  pub status-shows : (is_sat : Bool) (status : Status) (x : Answer) → finding_status is_sat (finding_of x) ≡ status
      → ValuesTell a b x → (text : List ℕ) → answer_text x ≡ text → IsReadBack x text
      → Shows a b (finding_in is_sat status) text
  status-shows is_sat status x e tells text t back =
      subst (λ f. Shows a b f text) (sym (finding_in-status is_sat (finding_of x)) ∙ ap (finding_in is_sat) e)
      (answer-shows x tells text t back)

  -- where a limit is passed, it is found

  passes-stopped : (x : Answer) → answer_of a b ≡ x → (p : PassLimit a b) → x ≡ A.Limit p.0 p.1
  passes-stopped x is p =
      sym is ∙ ap (of_decision (certificate_text (entries_read a) (entries_read b)))
      (comparison-stopped (entries_read a) (entries_read b) p.0 p.1 p.2)

  passes-limited : (x : Answer) → answer_of a b ≡ x → PassLimit a b → finding_of x ≡ F.Limit
  passes-limited x is p = ap finding_of (passes-stopped x is p)

  pub passes-report : (is_sat : Bool) (x : Answer) → answer_of a b ≡ x → PassLimit a b
      → finding_status is_sat (finding_of x) ≡ S.Limit
  passes-report is_sat x is passes = limited-status is_sat (finding_of x) (passes-limited x is passes)

  -- what is found is a document, a certificate or a limit

  one-shown : (f : Finding) (text : List ℕ) → Shows a b f text
      → IsCounterexample a b text ⊎ IsCertificate a b text ⊎ IsLimit a b text
  one-shown F.Document text shows = inl shows
  one-shown F.Nothing text shows = inr (inl shows)
  one-shown F.Limit text shows = inr (inr shows)

  pub answer-one : (x : Answer) → ValuesTell a b x → (text : List ℕ) → answer_text x ≡ text → IsReadBack x text
      → IsCounterexample a b text ⊎ IsCertificate a b text ⊎ IsLimit a b text
  answer-one x tells text e back = one-shown (finding_of x) text (answer-shows x tells text e back)

  pub answer-limited : (x : Answer) → answer_of a b ≡ x → ValuesTell a b x → (text : List ℕ) → answer_text x ≡ text
      → IsReadBack x text → PassLimit a b → IsLimit a b text
  answer-limited x is tells text e back passes =
      subst (λ f. Shows a b f text) (passes-limited x is passes) (answer-shows x tells text e back)

  -- what it counts is over its number
  pub answer-counted : (x : Answer) → answer_of a b ≡ x → ValuesTell a b x → (p : PassLimit a b)
      → PassesCount (entries_read a) (entries_read b) p.0 p.1
  answer-counted x is tells p =
      let passed : IsPassed a b p.0 p.1 = subst (ValuesTell a b) (passes-stopped x is p) tells in
      passed.counted

-- ---- of one schema, against the value `false`

pub counterexample-witness : (a : Json) (text : List ℕ) → IsCounterexample a (boolean false) text → IsWitness a text
counterexample-witness a text c =
    record { document = c.document; is = c.is; whole = c.separates.document; valid = c.separates.first }

unsatisfiable : (a : Json) → Included rules a (boolean false) → IsUnsatisfiable a
unsatisfiable a included J document = go (valid rules a J) refl where
  go : (v : Bool) → valid rules a J ≡ v → v ≡ false
  go false e = refl
  go true e = let wrong : true ≡ false = sym (included J document e) ∙ valid-false J in cc

pub certificate-refutation : (a : Json) (text : List ℕ) → IsCertificate a (boolean false) text → IsRefutation a text
certificate-refutation a text c = record { accepted = c.accepted; unsatisfiable = unsatisfiable a c.included }
