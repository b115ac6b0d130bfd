-- What the report of `valid` means, from what its files come to.
use Rattle.std.proofs.Common.{◌≡◌, inl, inr, ℕ, List, Bool, true, false, Option, Some, None, refl, ap, sym, ◌∙◌, subst, arith}
use Rattle.std.specs.Io.KnownBytes.{Appends}
use Rattle.std.specs.Prelude.{IsSome}
use Rattle.documents.specs.Document.{Document}
use Rattle.documents.specs.Json.{Json}
use Rattle.draft06.specs.Validity.{valid}
use Rattle.js_keywords.specs.Reading.{rules}
use Rattle.js_outside.specs.Counts.{Stays}
use Rattle.js_outside.specs.Told.{Files}
use Rattle.js_words.specs.Commands.{Command, Sat, Include, Valid, Check, Norm, Gen, command}
use Rattle.js_commands.specs.ValidOutcome as V
use Rattle.js_commands.specs.ValidOutcome.{Outcome, of_test, IsValidation}
use Rattle.js_commands.proofs.ValidMeaningLaws.{validation-decided, told-decided, schema-refusal, document-refusal}
use Rattle.js_top.specs.Names.{of_valid, valid_names, IsValid}
use Rattle.js_report.specs.Lines.{line}
use Rattle.js_top.specs.Report.{Report, outcome_report, IsValidReport, IsReportOf, IsReport}
use Rattle.js_top.specs.Judging.{word_of, status_of, AreJudged, WritesJudgement, WritesDecision, IsJudgedRefusal}
use Rattle.js_top.specs.Preparing.{report_of, PreparedSays}
use Rattle.js_top.specs.declared.prepare.Prepared.{Prepared}
use Rattle.js_top.specs.declared.prepare.Prepared.TheVariants.{Usage, ReadFault, Made}
use Rattle.js_top.specs.declared.status.Status.{Status}
use Rattle.js_top.specs.declared.status.Status.TheVariants as S

-- the two names of `valid`
names_of : (words : List (List ℕ)) → IsValid words → (a : List ℕ) × (d : List ℕ) × (valid_names words ≡ Some (a, d))
names_of words valid = go (valid_names words) refl valid where
  go : (o : Option (List ℕ × List ℕ)) → valid_names words ≡ o → IsSome o
      → (a : List ℕ) × (d : List ℕ) × (valid_names words ≡ Some (a, d))
  go (Some (a, d)) e i = (a, d, e)
  go None e i = cc

-- the report of these words is that of `valid`
report-valid : (told : Option Files) (words : List (List ℕ)) (r : Report) (a d : List ℕ)
    → valid_names words ≡ Some (a, d) → IsReport told words r → IsValidReport told a d r
report-valid told words r a d named is = go (command words) named is where
  go : (c : Option Command) → of_valid c ≡ Some (a, d) → IsReportOf told c r → IsValidReport told a d r
  go None e is = cc
  go (Some (Sat x w)) e is = cc
  go (Some (Include x y w)) e is = cc
  go (Some (Check x y z w)) e is = cc
  go (Some (Norm x)) e is = cc
  go (Some (Gen f n w)) e is = cc
  go (Some (Valid x y)) e is =
      let same : ◌≡◌ {A = List ℕ × List ℕ} (x, y) (a, d) = cc in subst (λ n. IsValidReport told n.0 n.1 r) same is

-- the status of a verdict has its word, and is the outcome of that verdict
record IsReportOfTest (o : Outcome) (b : Bool) (text : List ℕ) : Type 0 where
  outcome : o ≡ of_test b
  word : text ≡ line (word_of b)

report-test : (o : Outcome) (b : Bool) (text : List ℕ)
    → outcome_report o ≡ record { text = text; status = status_of b } → IsReportOfTest o b text
report-test V.Valid true text e = record { outcome = refl; word = sym (ap (λ r. r.text) e) }
report-test V.Valid false text e = let wrong = ap (λ r. r.status) e in cc
report-test V.Invalid true text e = let wrong = ap (λ r. r.status) e in cc
report-test V.Invalid false text e = record { outcome = refl; word = sym (ap (λ r. r.text) e) }
report-test (V.SchemaRefused words) true text e = let wrong = ap (λ r. r.status) e in cc
report-test (V.SchemaRefused words) false text e = let wrong = ap (λ r. r.status) e in cc
report-test (V.DocumentRefused words) true text e = let wrong = ap (λ r. r.status) e in cc
report-test (V.DocumentRefused words) false text e = let wrong = ap (λ r. r.status) e in cc
report-test V.ReadFault true text e = let wrong = ap (λ r. r.status) e in cc
report-test V.ReadFault false text e = let wrong = ap (λ r. r.status) e in cc

test-report : (b : Bool) → outcome_report (of_test b) ≡ record { text = line (word_of b); status = status_of b }
test-report true = refl
test-report false = refl

-- a report with the status of a verdict has its word, and the verdict is validity
pub means-judgement : (told : Option Files) (words : List (List ℕ)) (old new : Option (List ℕ)) (text : List ℕ)
    (b : Bool)
    → IsReport told words (record { text = text; status = status_of b }) → IsValid words → Appends old new text
    → WritesJudgement told words old new b
means-judgement told words old new text b is valid appends =
    let (a, d, named) = names_of words valid in
    let (o, comes, e) = report-valid told words (record { text = text; status = status_of b }) a d named is in
    let of = report-test o b text e in
    let decided = validation-decided told a d b (subst (IsValidation told a d) of.outcome comes) in (
      subst (Appends old new) of.word appends,
      (
        decided.value,
        decided.judged,
        record { schema = a; document = d; named = named; are = decided.are },
        decided.verdict,
      ),
    )

-- where files are known, the word and the status are those of validity
told-decision : (files : Files) (words : List (List ℕ)) (text : List ℕ) (status : Status) (j : Json) (d : Document)
    → IsReport (Some files) words (record { text = text; status = status }) → AreJudged (Some files) words j d
    → (text ≡ line (word_of (valid rules j d))) × (status ≡ status_of (valid rules j d))
told-decision files words text status j d is are =
    let (o, comes, e) =
    report-valid (Some files) words (record { text = text; status = status }) are.schema are.document are.named is in
    let same = told-decided files are.schema are.document o j d comes are.are in
    let whole = sym e ∙ ap outcome_report same ∙ test-report (valid rules j d) in
    (ap (λ r. r.text) whole, ap (λ r. r.status) whole)

pub prepared-decision : (told : Option Files) (words : List (List ℕ)) (before after : ℕ) (p : Prepared)
    (old new : Option (List ℕ)) (text : List ℕ)
    → PreparedSays told words before after p → text ≡ (report_of p).text → Stays before after → Appends old new text
    → WritesDecision told words old new (report_of p).status
prepared-decision None words before after p old new text says t stays appends = tt
prepared-decision (Some files) words before after Usage old new text says t stays appends = λ j d are.
    let wrong = sym are.named ∙ ap of_valid says.1 in cc
prepared-decision (Some files) words before after ReadFault old new text says t stays appends = λ j d are.
    absurd (omega (arith, says.0, stays))
prepared-decision (Some files) words before after (Made bytes status) old new text says t stays appends = λ j d are.
    let both = told-decision files words bytes.items status j d says.2 are in
    (subst (Appends old new) (t ∙ both.0) appends, both.1)

-- a report with the status of refusals is the first refusal
module _ (told : Option Files) (words : List (List ℕ)) (text a d : List ℕ)
    (named : valid_names words ≡ Some (a, d)) where
  refusal_of : (o : Outcome) → IsValidation told a d o → outcome_report o ≡ record { text = text; status = S.Refused }
      → IsJudgedRefusal told words text
  refusal_of V.Valid is e = let wrong = ap (λ r. r.status) e in cc
  refusal_of V.Invalid is e = let wrong = ap (λ r. r.status) e in cc
  refusal_of (V.SchemaRefused ws) is e =
      record {
        schema = a;
        document = d;
        named = named;
        files = is.files;
        later = is.later;
        are_files = is.are_files;
        refusal = inl (ws, schema-refusal told a d ws is, ap (λ r. r.text) e);
      }
  refusal_of (V.DocumentRefused ws) is e =
      record {
        schema = a;
        document = d;
        named = named;
        files = is.files;
        later = is.later;
        are_files = is.are_files;
        refusal = inr (ws, document-refusal told a d ws is, ap (λ r. r.text) e);
      }
  refusal_of V.ReadFault is e = let wrong = ap (λ r. r.status) e in cc

pub means-judged_refusal : (told : Option Files) (words : List (List ℕ)) (text : List ℕ)
    → IsReport told words (record { text = text; status = S.Refused }) → IsValid words
    → IsJudgedRefusal told words text
means-judged_refusal told words text is valid =
    let (a, d, named) = names_of words valid in
    let (o, comes, e) = report-valid told words (record { text = text; status = S.Refused }) a d named is in
    refusal_of told words text a d named o comes e
