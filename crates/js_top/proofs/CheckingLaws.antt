-- What the report of `check` means, from what its files come to.
use Rattle.std.proofs.Common.{◌≡◌, ◌⊎◌, inl, inr, ℕ, List, Option, Some, None, refl, ap, sym, ◌∙◌, subst}
use Rattle.std.specs.Io.KnownBytes.{Appends}
use Rattle.std.specs.Prelude.{IsSome}
use Rattle.documents.specs.Json.{Json}
use Rattle.draft06.specs.Validity.{Included}
use Rattle.verdicts.specs.Verdict as V
use Rattle.verdicts.specs.Verdict.{Verdict}
use Rattle.js_keywords.specs.Reading.{rules}
use Rattle.js_outside.specs.Told.{Files}
use Rattle.js_words.specs.Commands.{Command, Sat, Include, Valid, Check, Norm, Gen, command}
use Rattle.js_commands.specs.IncludeMeaning.{AreSchemas}
use Rattle.js_commands.proofs.IncludeMeaningLaws.{told-same}
use Rattle.js_commands.specs.CheckOutcome as K
use Rattle.js_commands.specs.CheckOutcome.{Outcome, of_verdict, judgement_of, IsOutcomeOfBytes, IsChecking}
use Rattle.js_commands.specs.CheckMeaning.{AreChecked, IsAccepted, MeansFor}
use Rattle.js_commands.proofs.CheckMeaningLaws.{checking-judged, checking-too_long, told-checked, check-first_refusal, check-second_refusal}
use Rattle.js_top.specs.Names.{of_check, check_names, IsCheck}
use Rattle.js_report.specs.Lines.{line}
use Rattle.js_top.specs.Report.{Report, checked_report, IsCheckReport, IsReportOf, IsReport}
use Rattle.js_top.specs.Checking.{verdict_words, verdict_status, AreNamedFiles, MeansVerdict, IsVerdictWritten, IsToldVerdict, IsToldTooLong, WritesRejection, IsCheckRefusal}
use Rattle.js_top.specs.declared.status.Status.{Status}
use Rattle.js_top.specs.declared.status.Status.TheVariants as S

-- the three names of `check`
names_of : (words : List (List ℕ)) → IsCheck words
    → (a : List ℕ) × (b : List ℕ) × (c : List ℕ) × (check_names words ≡ Some (a, b, c))
names_of words check = go (check_names words) refl check where
  go : (o : Option (List ℕ × List ℕ × List ℕ)) → check_names words ≡ o → IsSome o
      → (a : List ℕ) × (b : List ℕ) × (c : List ℕ) × (check_names words ≡ Some (a, b, c))
  go (Some (a, b, c)) e i = (a, b, c, e)
  go None e i = cc

-- the report of these words is that of `check`
report-check : (told : Option Files) (words : List (List ℕ)) (r : Report) (a b c : List ℕ)
    → check_names words ≡ Some (a, b, c) → IsReport told words r → IsCheckReport told a b c r
report-check told words r a b c named is = go (command words) named is where
  go : (o : Option Command) → of_check o ≡ Some (a, b, c) → IsReportOf told o r → IsCheckReport told a b c r
  go None e is = cc
  go (Some (Sat x w)) e is = cc
  go (Some (Include x y w)) e is = cc
  go (Some (Valid x y)) e is = cc
  go (Some (Norm x)) e is = cc
  go (Some (Gen f n w)) e is = cc
  go (Some (Check x y z w)) e is =
      let same : ◌≡◌ {A = List ℕ × List ℕ × List ℕ} (x, y, z) (a, b, c) = cc in
      subst (λ n. IsCheckReport told n.0 n.1 n.2 r) same is

-- the report of a verdict
verdict-report : (v : Verdict)
    → checked_report (of_verdict v) ≡ record { text = line (verdict_words v); status = verdict_status v }
verdict-report V.Accepted = refl
verdict-report (V.Rejected k r) = refl

-- a report with the status of a verdict is that of one

done-verdict : (o : Outcome) (text : List ℕ) → checked_report o ≡ record { text = text; status = S.Done }
    → (o ≡ of_verdict V.Accepted) × (text ≡ line (verdict_words V.Accepted))
done-verdict K.Accepted text e = (refl, sym (ap (λ r. r.text) e))
done-verdict (K.Rejected k r) text e = let wrong = ap (λ r. r.status) e in cc
done-verdict (K.FirstRefused words) text e = let wrong = ap (λ r. r.status) e in cc
done-verdict (K.SecondRefused words) text e = let wrong = ap (λ r. r.status) e in cc
done-verdict K.TooLong text e = let wrong = ap (λ r. r.status) e in cc
done-verdict K.ReadFault text e = let wrong = ap (λ r. r.status) e in cc

other-verdict : (o : Outcome) (text : List ℕ) → checked_report o ≡ record { text = text; status = S.Other }
    → (k : ℕ) × (r : ℕ) × (o ≡ of_verdict (V.Rejected k r)) × (text ≡ line (verdict_words (V.Rejected k r)))
other-verdict K.Accepted text e = let wrong = ap (λ r. r.status) e in cc
other-verdict (K.Rejected k r) text e = (k, r, refl, sym (ap (λ r. r.text) e))
other-verdict (K.FirstRefused words) text e = let wrong = ap (λ r. r.status) e in cc
other-verdict (K.SecondRefused words) text e = let wrong = ap (λ r. r.status) e in cc
other-verdict K.TooLong text e = let wrong = ap (λ r. r.status) e in cc
other-verdict K.ReadFault text e = let wrong = ap (λ r. r.status) e in cc

-- what an outcome of a verdict means for the files that the words name
module _ (told : Option Files) (words : List (List ℕ)) (old new : Option (List ℕ)) (a b c : List ℕ)
    (named : check_names words ≡ Some (a, b, c)) where
  accepted-written : IsAccepted told a b c → Appends old new (line (verdict_words V.Accepted))
      → IsVerdictWritten told words old new V.Accepted
  accepted-written is appends =
      record {
        written = appends;
        a = is.a;
        b = is.b;
        bytes = is.bytes;
        are = record { first = a; second = b; certificate = c; named = named; are = is.are };
        verdict = is.is;
        means = is.included;
      }

  rejected-written : (k r : ℕ) → IsChecking told a b c (K.Rejected k r)
      → Appends old new (line (verdict_words (V.Rejected k r))) → IsVerdictWritten told words old new (V.Rejected k r)
  rejected-written k r is appends =
      let of = checking-judged told a b c (V.Rejected k r) is in
      record {
        written = appends;
        a = of.a;
        b = of.b;
        bytes = of.bytes;
        are = record { first = a; second = b; certificate = c; named = named; are = of.are };
        verdict = of.verdict;
        means = tt;
      }

-- a report with the status of an accepted certificate says that, and what it means
pub means-acceptance : (told : Option Files) (words : List (List ℕ)) (old new : Option (List ℕ)) (text : List ℕ)
    → IsReport told words (record { text = text; status = S.Done }) → IsCheck words → Appends old new text
    → IsVerdictWritten told words old new V.Accepted
means-acceptance told words old new text is check appends =
    let (a, b, c, named) = names_of words check in
    let (o, comes, meant, e) =
    report-check told words (record { text = text; status = S.Done }) a b c named is in
    let (same, word) = done-verdict o text e in
    accepted-written told words old new a b c named (subst (MeansFor told a b c) same meant)
    (subst (Appends old new) word appends)

-- and one with that of a rejected certificate the line and the rule
pub means-rejection : (told : Option Files) (words : List (List ℕ)) (old new : Option (List ℕ)) (text : List ℕ)
    → IsReport told words (record { text = text; status = S.Other }) → IsCheck words → Appends old new text
    → WritesRejection told words old new
means-rejection told words old new text is check appends =
    let (a, b, c, named) = names_of words check in
    let (o, comes, meant, e) =
    report-check told words (record { text = text; status = S.Other }) a b c named is in
    let (k, r, same, word) = other-verdict o text e in (
      k,
      r,
      rejected-written told words old new a b c named k r (subst (IsChecking told a b c) same comes)
          (subst (Appends old new) word appends),
    )

-- where files are known, the line and the status are those of the verdict on their bytes

told-included : (files : Files) (first second certificate : List ℕ) (a b : Json) (bytes : List ℕ)
    → AreChecked (Some files) first second certificate a b bytes → IsAccepted (Some files) first second certificate
    → Included rules a b
told-included files first second certificate a b bytes are is =
    let same = told-same files first (Some second) is.a is.b a b (schemas-checked is.are) (schemas-checked are) in
    subst (λ y. Included rules a y) same.1 (subst (λ x. Included rules x is.b) same.0 is.included) where
      schemas-checked : {x y : Json} {z : List ℕ} → AreChecked (Some files) first second certificate x y z
          → AreSchemas (Some files) first (Some second) x y
      schemas-checked c =
          record {
            files = c.files;
            later = c.later;
            are_files = c.are_files;
            is_first = c.is_first;
            is_second = c.is_second;
          }

module _ (files : Files) (old new : Option (List ℕ)) (first second certificate : List ℕ) (a b : Json) (bytes : List ℕ)
    (are : AreChecked (Some files) first second certificate a b bytes) where
  means-verdict : (v : Verdict) → MeansFor (Some files) first second certificate (of_verdict v) → MeansVerdict a b v
  means-verdict V.Accepted meant = told-included files first second certificate a b bytes are meant
  means-verdict (V.Rejected k r) meant = tt

  told-written : (o : Outcome) (text : List ℕ) (status : Status) → IsOutcomeOfBytes a b bytes o
      → MeansFor (Some files) first second certificate o → checked_report o ≡ record { text = text; status = status }
      → Appends old new text
      → IsToldVerdict a b (judgement_of a b bytes) old new status ⊎ IsToldTooLong bytes old new status
  told-written o text status (inl same) meant e appends =
      let v = judgement_of a b bytes in
      let whole = sym e ∙ ap checked_report same ∙ verdict-report v in
      inl (record {
        written = subst (Appends old new) (ap (λ r. r.text) whole) appends;
        is_status = ap (λ r. r.status) whole;
        means = means-verdict v (subst (MeansFor (Some files) first second certificate) same meant);
      })
  told-written o text status (inr (long, same)) meant e appends =
      let whole = sym e ∙ ap checked_report same in
      inr (record {
        long = long;
        written = subst (Appends old new) (ap (λ r. r.text) whole) appends;
        is_status = ap (λ r. r.status) whole;
      })

pub told-verdict : (files : Files) (words : List (List ℕ)) (old new : Option (List ℕ)) (text : List ℕ)
    (status : Status)
    → IsReport (Some files) words (record { text = text; status = status }) → Appends old new text
    → (a b : Json) (bytes : List ℕ) → AreNamedFiles (Some files) words a b bytes
    → IsToldVerdict a b (judgement_of a b bytes) old new status ⊎ IsToldTooLong bytes old new status
told-verdict files words old new text status is appends a b bytes are =
    let (o, comes, meant, e) =
    report-check (Some files) words (record { text = text; status = status }) are.first are.second are.certificate
    are.named is in
    told-written files old new are.first are.second are.certificate a b bytes are.are o text status
    (told-checked files are.first are.second are.certificate o a b bytes comes are.are) meant e appends

-- a report with the status of refusals is the first refusal
module _ (told : Option Files) (words : List (List ℕ)) (text a b c : List ℕ)
    (named : check_names words ≡ Some (a, b, c)) where
  refusal_of : (o : Outcome) → IsChecking told a b c o → checked_report o ≡ record { text = text; status = S.Refused }
      → IsCheckRefusal told words text
  refusal_of K.Accepted is e = let wrong = ap (λ r. r.status) e in cc
  refusal_of (K.Rejected k r) is e = let wrong = ap (λ r. r.status) e in cc
  refusal_of (K.FirstRefused ws) is e =
      record {
        first = a;
        second = b;
        certificate = c;
        named = named;
        files = is.files;
        later = is.later;
        are_files = is.are_files;
        refusal = inl (ws, check-first_refusal told a b c ws is, ap (λ r. r.text) e);
      }
  refusal_of (K.SecondRefused ws) is e =
      record {
        first = a;
        second = b;
        certificate = c;
        named = named;
        files = is.files;
        later = is.later;
        are_files = is.are_files;
        refusal = inr (inl (ws, check-second_refusal told a b c ws is, ap (λ r. r.text) e));
      }
  refusal_of K.TooLong is e =
      let of = checking-too_long told a b c is in
      record {
        first = a;
        second = b;
        certificate = c;
        named = named;
        files = of.are.files;
        later = of.are.later;
        are_files = of.are.are_files;
        refusal = inr (inr ((of.a, of.b, of.bytes, of.are, of.long), ap (λ r. r.text) e));
      }
  refusal_of K.ReadFault is e = let wrong = ap (λ r. r.status) e in cc

pub means-check_refusal : (told : Option Files) (words : List (List ℕ)) (text : List ℕ)
    → IsReport told words (record { text = text; status = S.Refused }) → IsCheck words
    → IsCheckRefusal told words text
means-check_refusal told words text is check =
    let (a, b, c, named) = names_of words check in
    let (o, comes, meant, e) =
    report-check told words (record { text = text; status = S.Refused }) a b c named is in
    refusal_of told words text a b c named o comes e
