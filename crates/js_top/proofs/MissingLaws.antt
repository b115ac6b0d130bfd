-- Where files are known: a read fault is reported where a file isn't there and each before it is a schema.
use Rattle.std.proofs.Common.{◌≡◌, inl, inr, ℕ, ◌<◌, List, [], ◌∷◌, true, false, Option, Some, None, encode_utf8_all, refl, ap, sym, ◌∙◌, subst}
use Rattle.documents.specs.Json.{Json}
use Rattle.js_outside.specs.Counts.{last_count}
use Rattle.js_outside.specs.Told.{Files, CountsMisses}
use Rattle.js_words.specs.Commands.{Command, Sat, Include, Valid, Check, Norm, Gen, command}
use Rattle.js_input.specs.SchemaReading.{Read, IsSchemaReading}
use Rattle.js_input.specs.OrderOfFiles.{BeginsInOrder, Misses}
use Rattle.js_input.proofs.SchemaReadingLemmas.{IsSchemaReading-one}
use Rattle.js_input.proofs.OrderLaws.{rose-misses}
use Rattle.js_commands.specs.IncludeOutcome as C
use Rattle.js_commands.specs.IncludeOutcome.{IsComparison, second_file}
use Rattle.js_commands.specs.ValidOutcome as V
use Rattle.js_commands.specs.ValidOutcome.{IsValidation}
use Rattle.js_commands.specs.CheckOutcome as K
use Rattle.js_commands.specs.CheckOutcome.{IsChecking}
use Rattle.js_commands.specs.NormOutcome as N
use Rattle.js_commands.specs.NormOutcome.{IsListing}
use Rattle.js_top.specs.Names.{files_of, file_names, MissesFile}
use Rattle.js_top.specs.Report.{Report, compared_report, outcome_report, checked_report, listed_report, IsReportOf}
use Rattle.js_top.specs.Preparing.{report_of, is_answer, PreparedSays}
use Rattle.js_top.specs.declared.prepare.Prepared.{Prepared}
use Rattle.js_top.specs.declared.prepare.Prepared.TheVariants.{Usage, ReadFault, Made}
use Rattle.js_top.specs.declared.status.Status.{Status}
use Rattle.js_top.specs.declared.status.Status.TheVariants as S

-- schemas of which a file isn't there come to no answer
comparison-missing : (files : Files) (a : List ℕ) (second : Option (List ℕ)) (o : C.Outcome)
    → IsComparison (Some files) a second o → Misses files (encode_utf8_all a ∷ second_file second) → o ≡ C.ReadFault
comparison-missing files a second o is (inl none) =
    let e : is.files (encode_utf8_all a) ≡ None = ap (λ f. f (encode_utf8_all a)) is.are_files.0 ∙ none in
    subst (λ t. C.IsOutcomeOf t (C.IsAgainst is.later second) o) e is.outcome
comparison-missing files a None o is (inr (first, rest)) = absurd rest
comparison-missing files a (Some b) o is (inr ((bytes, has, (j, reads)), inl none)) =
    let e : is.files (encode_utf8_all a) ≡ Some bytes = ap (λ f. f (encode_utf8_all a)) is.are_files.0 ∙ has in
    let e' : is.later (encode_utf8_all b) ≡ None = ap (λ f. f (encode_utf8_all b)) is.are_files.1 ∙ none in
    let (r, reads', of) = subst (λ t. C.IsOutcomeOf t (C.IsAgainst is.later (Some b)) o) e is.outcome in
    let against : C.IsAgainst is.later (Some b) j o =
    subst (λ r. C.IsOfFirst (C.IsAgainst is.later (Some b)) r o) (IsSchemaReading-one bytes r (Read j) reads' reads) of
    in
    subst (λ t. C.IsAgainstBytes t j o) e' against
comparison-missing files a (Some b) o is (inr (first, inr (second, rest))) = absurd rest

validation-missing : (files : Files) (a d : List ℕ) (o : V.Outcome) → IsValidation (Some files) a d o
    → Misses files (encode_utf8_all a ∷ encode_utf8_all d ∷ []) → o ≡ V.ReadFault
validation-missing files a d o is (inl none) =
    let e : is.files (encode_utf8_all a) ≡ None = ap (λ f. f (encode_utf8_all a)) is.are_files.0 ∙ none in
    subst (λ t. V.IsOutcomeOf t (is.later (encode_utf8_all d)) o) e is.outcome
validation-missing files a d o is (inr ((bytes, has, (j, reads)), inl none)) =
    let e : is.files (encode_utf8_all a) ≡ Some bytes = ap (λ f. f (encode_utf8_all a)) is.are_files.0 ∙ has in
    let e' : is.later (encode_utf8_all d) ≡ None = ap (λ f. f (encode_utf8_all d)) is.are_files.1 ∙ none in
    let (r, reads', of) =
    subst (λ t. V.IsOutcomeOf t None o) e
    (subst (λ t. V.IsOutcomeOf (is.files (encode_utf8_all a)) t o) e' is.outcome) in
    subst (λ r. V.IsOutcomeOfSchema None r o) (IsSchemaReading-one bytes r (Read j) reads' reads) of
validation-missing files a d o is (inr (first, inr (second, rest))) = absurd rest

listing-missing : (files : Files) (a : List ℕ) (o : N.Outcome) → IsListing (Some files) a o
    → Misses files (encode_utf8_all a ∷ []) → o ≡ N.ReadFault
listing-missing files a o is (inl none) =
    let e : is.files (encode_utf8_all a) ≡ None = ap (λ f. f (encode_utf8_all a)) is.are_files.0 ∙ none in
    subst (λ t. N.IsOutcomeOf t o) e is.outcome
listing-missing files a o is (inr (first, rest)) = absurd rest

-- a certificate that isn't there, or a schema before it
module _ (files : Files) (a b c : List ℕ) (o : K.Outcome) (is : IsChecking (Some files) a b c o) where
  -- what the files are read as
  first : is.files (encode_utf8_all a) ≡ files (encode_utf8_all a)
  first = ap (λ f. f (encode_utf8_all a)) is.are_files.0

  second : is.later (encode_utf8_all b) ≡ files (encode_utf8_all b)
  second = ap (λ f. f (encode_utf8_all b)) is.are_files.1

  third : is.last (encode_utf8_all c) ≡ files (encode_utf8_all c)
  third = ap (λ f. f (encode_utf8_all c)) is.are_last.1

  after_first : (bytes : List ℕ) (j : Json) → files (encode_utf8_all a) ≡ Some bytes → IsSchemaReading bytes (Read j)
      → K.IsAgainstBytes (is.later (encode_utf8_all b)) (is.last (encode_utf8_all c)) j o
  after_first bytes j has reads =
      let (r, reads', of) =
      subst (λ t. K.IsOutcomeOf t (is.later (encode_utf8_all b)) (is.last (encode_utf8_all c)) o) (first ∙ has)
      is.outcome in
      subst (λ r. K.IsOutcomeOfFirst (is.later (encode_utf8_all b)) (is.last (encode_utf8_all c)) r o)
      (IsSchemaReading-one bytes r (Read j) reads' reads) of

  after_second : (bytes others : List ℕ) (j k : Json) → files (encode_utf8_all a) ≡ Some bytes
      → IsSchemaReading bytes (Read j) → files (encode_utf8_all b) ≡ Some others → IsSchemaReading others (Read k)
      → K.IsOutcomeOfCertificate j k (is.last (encode_utf8_all c)) o
  after_second bytes others j k has reads has' reads' =
      let (r, reads'', of) =
      subst (λ t. K.IsAgainstBytes t (is.last (encode_utf8_all c)) j o) (second ∙ has')
      (after_first bytes j has reads) in
      subst (λ r. K.IsOutcomeOfSecond (is.last (encode_utf8_all c)) j r o)
      (IsSchemaReading-one others r (Read k) reads'' reads') of

  pub checking-missing : Misses files (encode_utf8_all a ∷ encode_utf8_all b ∷ encode_utf8_all c ∷ [])
      → o ≡ K.ReadFault
  checking-missing (inl none) =
      subst (λ t. K.IsOutcomeOf t (is.later (encode_utf8_all b)) (is.last (encode_utf8_all c)) o) (first ∙ none)
      is.outcome
  checking-missing (inr ((bytes, has, (j, reads)), inl none)) =
      subst (λ t. K.IsAgainstBytes t (is.last (encode_utf8_all c)) j o) (second ∙ none) (after_first bytes j has reads)
  checking-missing (inr ((bytes, has, (j, reads)), inr ((others, has', (k, reads')), inl none))) =
      subst (λ t. K.IsOutcomeOfCertificate j k t o) (third ∙ none) (after_second bytes others j k has reads has' reads')
  checking-missing (inr (one, inr (two, inr (three, rest)))) = absurd rest

report-missing : (files : Files) (c : Option Command) (r : Report) → IsReportOf (Some files) c r
    → Misses files (files_of c) → r.status ≡ S.ReadFault
report-missing files None r is misses = absurd misses
report-missing files (Some (Sat a w)) r (o, comes, means, back, e) misses =
    ap (λ x. x.status) (sym e)
    ∙ ap (λ x. (compared_report true x).status) (comparison-missing files a None o comes misses)
report-missing files (Some (Include a b w)) r (o, comes, means, back, e) misses =
    ap (λ x. x.status) (sym e)
    ∙ ap (λ x. (compared_report false x).status) (comparison-missing files a (Some b) o comes misses)
report-missing files (Some (Valid a d)) r (o, comes, e) misses =
    ap (λ x. x.status) (sym e) ∙ ap (λ x. (outcome_report x).status) (validation-missing files a d o comes misses)
report-missing files (Some (Check a b c w)) r (o, comes, means, e) misses =
    ap (λ x. x.status) (sym e) ∙ ap (λ x. (checked_report x).status) (checking-missing files a b c o comes misses)
report-missing files (Some (Norm a)) r (o, comes, e) misses =
    ap (λ x. x.status) (sym e) ∙ ap (λ x. (listed_report x).status) (listing-missing files a o comes misses)
report-missing files (Some (Gen f n w)) r is misses = absurd misses

-- a file that isn't there is reported as a read fault
pub prepared-missing : (told : Option Files) (words : List (List ℕ)) (before after : ℕ) (p : Prepared)
    → PreparedSays told words before after p → MissesFile told words → (report_of p).status ≡ S.ReadFault
prepared-missing None words before after p says misses = absurd misses
prepared-missing (Some files) words before after Usage says misses =
    let none : Misses files [] = subst (λ c. Misses files (files_of c)) says.1 misses in absurd none
prepared-missing (Some files) words before after ReadFault says misses = refl
prepared-missing (Some files) words before after (Made bytes status) says misses =
    report-missing files (command words) (record { text = bytes.items; status = status }) says.2 misses

answer-read_fault : (s : Status) → s ≡ S.ReadFault → is_answer s ≡ true → ⊥
answer-read_fault s e is = let wrong : is_answer S.ReadFault ≡ true = ap is_answer (sym e) ∙ is in cc

-- and where the count of faults is that of names that aren't there, nothing else is reported as one
pub prepared-only_missing : (told : Option Files) (words : List (List ℕ)) (before after : ℕ) (p : Prepared)
    (names later : List (List ℕ)) → PreparedSays told words before after p → (report_of p).status ≡ S.ReadFault
    → BeginsInOrder told (file_names words) names later → CountsMisses told names before
    → CountsMisses told later after → before < last_count → MissesFile told words
prepared-only_missing None words before after p names later says e begins counts counts' below = absurd counts
prepared-only_missing (Some files) words before after Usage names later says e begins counts counts' below = cc
prepared-only_missing (Some files) words before after ReadFault names later says e begins counts counts' below =
    rose-misses files (file_names words) names later before after begins counts counts' below says.0
prepared-only_missing (Some files) words before after (Made bytes s) names later says e begins counts counts' below =
    absurd (answer-read_fault s e says.1)
