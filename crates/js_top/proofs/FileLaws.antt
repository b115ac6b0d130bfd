-- What a report on files says: of the two schemas where it is a verdict, and of the first refusal.
use Rattle.std.proofs.Common.{◌≡◌, ◌⊎◌, inl, inr, ℕ, List, [], ◌∷◌, ◌++◌, Bool, true, false, is_none, Option, Some, None, codes, refl, ap, sym, ◌∙◌, subst, arith}
use Rattle.std.specs.Io.KnownBytes.{Appends}
use Rattle.std.specs.Prelude.{IsSome}
use Rattle.documents.specs.Json.{Json, boolean}
use Rattle.js_outside.specs.Counts.{Rose, Stays}
use Rattle.js_outside.specs.Told.{Files}
use Rattle.js_words.specs.Commands.{Command, Sat, Include, Valid, Check, Norm, Gen, command}
use Rattle.js_words.specs.PlainWords.{Plain, is_plain, words_of, meant}
use Rattle.js_commands.specs.IncludeOutcome as Compared
use Rattle.js_commands.specs.IncludeOutcome.{Answer, IsComparison}
use Rattle.js_commands.specs.IncludeMeaning.{AreSchemas, answer_of, IsCertificate, ValuesTell, IsDecided, MeansFor}
use Rattle.js_commands.proofs.IncludeMeaningLaws.{told-values, told-same, first-refusal, second-refusal}
use Rattle.js_commands.specs.CheckOutcome as K
use Rattle.js_commands.specs.NormOutcome as N
use Rattle.js_commands.specs.ValidOutcome as V
use Rattle.js_commands.specs.ValidOutcome.{Outcome}
use Rattle.js_report.specs.Lines.{line}
use Rattle.js_top.specs.Names.{of_sat, of_include, of_compared, of_check, of_gen, sat_name, compared_names, IsSat, IsInclude, IsCompared, IsCheckBySeveral, IsGen}
use Rattle.js_top.specs.Report.{Report, printed, finding_of, finding_status, answer_report, compared_report, IsReadBack, IsOutcomeReadBack, IsComparedReport, IsReportOf, outcome_report, checked_report, listed_report, IsReport}
use Rattle.js_top.specs.Meaning.{AreNamed, WhereTold, PassLimit, IsCounterexample, IsLimit, IsAsked, IsWitness, IsRefutation, IsRefusal}
use Rattle.js_top.specs.Correct.{IsCorrect}
use Rattle.js_top.specs.Preparing.{report_of, PreparedSays}
use Rattle.js_top.specs.declared.finding.Finding.{Finding}
use Rattle.js_top.specs.declared.finding.Finding.TheVariants as F
use Rattle.js_top.specs.declared.prepare.Prepared.{Prepared}
use Rattle.js_top.specs.declared.prepare.Prepared.TheVariants.{Usage, ReadFault, Made}
use Rattle.js_top.specs.declared.status.Status.{Status}
use Rattle.js_top.specs.declared.status.Status.TheVariants as S
use Rattle.js_top.proofs.MeaningLaws.{finding_in, Shows, status-shows, passes-report, answer-one, answer-limited, answer-counted, counterexample-witness, certificate-refutation}
use Rattle.js_top.proofs.CheckingLaws.{told-verdict}
use Rattle.js_top.proofs.Includes.{counts-made}

-- the names of what is compared

compared_of : (words : List (List ℕ)) → IsCompared words
    → (a : List ℕ) × (second : Option (List ℕ)) × (compared_names words ≡ Some (a, second))
compared_of words compared = go (compared_names words) refl compared where
  go : (o : Option (List ℕ × Option (List ℕ))) → compared_names words ≡ o → IsSome o
      → (a : List ℕ) × (second : Option (List ℕ)) × (compared_names words ≡ Some (a, second))
  go (Some (a, second)) e i = (a, second, e)
  go None e i = cc

compared-include : (words : List (List ℕ)) → IsInclude words
    → (a : List ℕ) × (b : List ℕ) × (compared_names words ≡ Some (a, Some b))
compared-include words include = go (command words) include where
  go : (c : Option Command) → IsSome (of_include c)
      → (a : List ℕ) × (b : List ℕ) × (of_compared c ≡ Some (a, Some b))
  go None i = cc
  go (Some (Sat a w)) i = cc
  go (Some (Include a b w)) i = (a, b, refl)
  go (Some (Valid a d)) i = cc
  go (Some (Check a b c w)) i = cc
  go (Some (Norm a)) i = cc
  go (Some (Gen f n w)) i = cc

compared-sat : (words : List (List ℕ)) → IsSat words
    → (a : List ℕ) × (sat_name words ≡ Some a) × (compared_names words ≡ Some (a, None))
compared-sat words sat = go (command words) sat where
  go : (c : Option Command) → IsSome (of_sat c) → (a : List ℕ) × (of_sat c ≡ Some a) × (of_compared c ≡ Some (a, None))
  go None i = cc
  go (Some (Sat a w)) i = (a, refl, refl)
  go (Some (Include a b w)) i = cc
  go (Some (Valid a d)) i = cc
  go (Some (Check a b c w)) i = cc
  go (Some (Norm a)) i = cc
  go (Some (Gen f n w)) i = cc

-- the report of these words is that of a comparison
report-compared : (told : Option Files) (words : List (List ℕ)) (r : Report) (a : List ℕ) (second : Option (List ℕ))
    → compared_names words ≡ Some (a, second) → IsReport told words r → IsComparedReport told a second r
report-compared told words r a second named is = go (command words) named is where
  go : (c : Option Command) → of_compared c ≡ Some (a, second) → IsReportOf told c r → IsComparedReport told a second r
  go None e is = cc
  go (Some (Sat x w)) e is =
      let same : ◌≡◌ {A = List ℕ × Option (List ℕ)} (x, None) (a, second) = cc in
      subst (λ n. IsComparedReport told n.0 n.1 r) same is
  go (Some (Include x y w)) e is =
      let same : ◌≡◌ {A = List ℕ × Option (List ℕ)} (x, Some y) (a, second) = cc in
      subst (λ n. IsComparedReport told n.0 n.1 r) same is
  go (Some (Valid x y)) e is = cc
  go (Some (Check x y z w)) e is = cc
  go (Some (Norm x)) e is = cc
  go (Some (Gen f n w)) e is = cc

-- the statuses of an answer on two schemas, and that of a refusal

abbrev is_verdict : Status → Bool
is_verdict S.Done = true
is_verdict S.Other = true
is_verdict S.Limit = true
is_verdict _ = false

abbrev is_refused : Status → Bool
is_refused S.Refused = true
is_refused _ = false

abbrev is_limit : Status → Bool
is_limit S.Limit = true
is_limit _ = false

unlimited : (o : Outcome) → is_limit (outcome_report o).status ≡ false
unlimited V.Valid = refl
unlimited V.Invalid = refl
unlimited (V.SchemaRefused words) = refl
unlimited (V.DocumentRefused words) = refl
unlimited V.ReadFault = refl

unlimited_check : (o : K.Outcome) → is_limit (checked_report o).status ≡ false
unlimited_check K.Accepted = refl
unlimited_check (K.Rejected line rule) = refl
unlimited_check (K.FirstRefused words) = refl
unlimited_check (K.SecondRefused words) = refl
unlimited_check K.TooLong = refl
unlimited_check K.ReadFault = refl

unlimited_norm : (o : N.Outcome) → is_limit (listed_report o).status ≡ false
unlimited_norm (N.Listed text) = refl
unlimited_norm (N.SchemaRefused words) = refl
unlimited_norm N.ReadFault = refl

-- a limit is a report of a comparison, but for `gen`
limit-compared : (told : Option Files) (words : List (List ℕ)) (text : List ℕ)
    → IsReport told words (record { text = text; status = S.Limit }) → (IsGen words → ⊥) → IsCompared words
limit-compared told words text is other = go (command words) other is where
  go : (c : Option Command) → (IsSome (of_gen c) → ⊥) → IsReportOf told c (record { text = text; status = S.Limit })
      → IsSome (of_compared c)
  go None other is = let wrong = ap (λ s. is_limit s.status) is in cc
  go (Some (Sat a w)) other is = refl
  go (Some (Include a b w)) other is = refl
  go (Some (Valid a d)) other (o, v, e) = let wrong = sym (unlimited o) ∙ ap (λ s. is_limit s.status) e in cc
  go (Some (Check a b c w)) other (o, v, m, e) =
      let wrong = sym (unlimited_check o) ∙ ap (λ s. is_limit s.status) e in cc
  go (Some (Norm a)) other (o, v, e) = let wrong = sym (unlimited_norm o) ∙ ap (λ s. is_limit s.status) e in cc
  go (Some (Gen f n w)) other is = absurd (other refl)

-- a report with the status of an answer is that of two schemas
record IsOfSchemas (told : Option Files) (a : List ℕ) (second : Option (List ℕ)) (r : Report) : Type 0 where
  first : Json
  other : Json
  are : AreSchemas told a second first other
  x : Answer
  is : answer_of first other ≡ x
  tells : ValuesTell first other x
  back : IsReadBack x r.text
  report : answer_report (is_none second) x ≡ r

module _ (told : Option Files) (r : Report) (a : List ℕ) (second : Option (List ℕ))
    (answers : is_verdict r.status ≡ true) where
  outcome-schemas : (o : Compared.Outcome) → MeansFor told a second o → IsOutcomeReadBack o r.text
      → compared_report (is_none second) o ≡ r → IsOfSchemas told a second r
  outcome-schemas (Compared.Decided x) of back e =
      record {
        first = of.a;
        other = of.b;
        are = of.are;
        x = x;
        is = of.is;
        tells = of.tells;
        back = back;
        report = e;
      }
  outcome-schemas (Compared.FirstRefused ws) of back e = let wrong = ap (λ s. is_verdict s.status) e ∙ answers in cc
  outcome-schemas (Compared.SecondRefused ws) of back e = let wrong = ap (λ s. is_verdict s.status) e ∙ answers in cc
  outcome-schemas Compared.ReadFault of back e = let wrong = ap (λ s. is_verdict s.status) e ∙ answers in cc

-- what such a report means
record Means (told : Option Files) (a : List ℕ) (second : Option (List ℕ)) (status : Status) (text : List ℕ) : Type 0
  where
    first : Json
    other : Json
    are : AreSchemas told a second first other
    shows : Shows first other (finding_in (is_none second) status) text

means : (told : Option Files) (words : List (List ℕ)) (text : List ℕ) (status : Status) (a : List ℕ)
    (second : Option (List ℕ)) → compared_names words ≡ Some (a, second)
    → IsReport told words (record { text = text; status = status }) → is_verdict status ≡ true
    → Means told a second status text
means told words text status a second named is answers =
    let (o, comes, meant, back, e) =
    report-compared told words (record { text = text; status = status }) a second named is in
    let of = outcome-schemas told (record { text = text; status = status }) a second answers o meant back e in
    record {
      first = of.first;
      other = of.other;
      are = of.are;
      shows = status-shows of.first of.other (is_none second) status of.x (ap (λ r. r.status) of.report) of.tells text
          (ap (λ r. r.text) of.report) of.back;
    }

-- an answer that was prepared is a report

pub usage-report : (told : Option Files) (words : List (List ℕ)) → command words ≡ None
    → IsReport told words (printed (codes "usage") S.Usage)
usage-report told words c =
    subst (λ o. IsReportOf told o (printed (codes "usage") S.Usage)) (sym c) refl

pub prepared-report : (told : Option Files) (words : List (List ℕ)) (before after : ℕ) (p : Prepared) (text : List ℕ)
    (status : Status)
    → PreparedSays told words before after p → text ≡ (report_of p).text → (report_of p).status ≡ status
    → (status ≡ S.ReadFault → ⊥)
    → IsReport told words (record { text = text; status = status })
prepared-report told words before after Usage text status says t e n =
    subst (λ x. IsReport told words (record { text = x; status = status })) (sym t)
    (subst (λ x. IsReport told words (record { text = codes "usage" ++ 10 ∷ []; status = x })) e
    (usage-report told words says.1))
prepared-report told words before after ReadFault text status says t e n = absurd (n (sym e))
prepared-report told words before after (Made bytes s) text status says t e n =
    subst (λ x. IsReport told words (record { text = x; status = status })) (sym t)
    (subst (λ x. IsReport told words (record { text = bytes.items; status = x })) e says.2)

-- two schemas that the words name, and a fact of them
abbrev pub Named : Option Files → List (List ℕ) → (Json → Json → Type 0) → Type 0
Named told words P = (a : Json) × (b : Json) × AreNamed told words a b × P a b

-- a schema that the words of `sat` name
abbrev pub Asked : Option Files → List (List ℕ) → (Json → Type 0) → Type 0
Asked told words P = (a : Json) × IsAsked told words a × P a

named_of : (told : Option Files) (words : List (List ℕ)) (a : List ℕ) (second : Option (List ℕ))
    → compared_names words ≡ Some (a, second) → (status : Status) (text : List ℕ) → Means told a second status text
    → Named told words (λ x y. Shows x y (finding_in (is_none second) status) text)
named_of told words a second named status text m = (
  m.first,
  m.other,
  record { first = a; second = second; named = named; are = m.are },
  m.shows,
)

asked_of : (told : Option Files) (words : List (List ℕ)) (a : List ℕ) → sat_name words ≡ Some a → (status : Status)
    (text : List ℕ) → Means told a None status text
    → Asked told words (λ x. Shows x (boolean false) (finding_in true status) text)
asked_of told words a named status text m = (
  m.first,
  record {
    name = a;
    named = named;
    files = m.are.files;
    later = m.are.later;
    are_files = m.are.are_files;
    is_schema = m.are.is_first;
  },
  subst (λ y. Shows m.first y (finding_in true status) text) m.are.is_second m.shows,
)

module _ (told : Option Files) (words : List (List ℕ)) (before after : ℕ) (p : Prepared) (text : List ℕ)
    (says : PreparedSays told words before after p) (t : text ≡ (report_of p).text) where
  prepared-means : (status : Status) → (report_of p).status ≡ status → is_verdict status ≡ true → (a : List ℕ)
      (second : Option (List ℕ)) → compared_names words ≡ Some (a, second) → Means told a second status text
  prepared-means status e answers a second named =
      means told words text status a second named
      (prepared-report told words before after p text status says t e
      (λ h. let wrong = sym answers ∙ ap is_verdict h in cc)) answers

  -- of the words of `include`

  pub prepared-document : (report_of p).status ≡ S.Other → IsInclude words
      → Named told words (λ a b. IsCounterexample a b text)
  prepared-document e include =
      let (a, b, named) = compared-include words include in
      named_of told words a (Some b) named S.Other text (prepared-means S.Other e refl a (Some b) named)

  pub prepared-inclusion : (report_of p).status ≡ S.Done → IsInclude words
      → Named told words (λ a b. IsCertificate a b text)
  prepared-inclusion e include =
      let (a, b, named) = compared-include words include in
      named_of told words a (Some b) named S.Done text (prepared-means S.Done e refl a (Some b) named)

  -- of those of `sat`

  pub prepared-satisfied : (report_of p).status ≡ S.Done → IsSat words → Asked told words (λ a. IsWitness a text)
  prepared-satisfied e sat =
      let (a, named, compared) = compared-sat words sat in
      let (x, asked, shows) =
      asked_of told words a named S.Done text (prepared-means S.Done e refl a None compared) in
      (x, asked, counterexample-witness x text shows)

  pub prepared-unsatisfied : (report_of p).status ≡ S.Other → IsSat words
      → Asked told words (λ a. IsRefutation a text)
  prepared-unsatisfied e sat =
      let (a, named, compared) = compared-sat words sat in
      let (x, asked, shows) =
      asked_of told words a named S.Other text (prepared-means S.Other e refl a None compared) in
      (x, asked, certificate-refutation x text shows)

  -- no other command but `gen` has a limit
  pub prepared-limit : (report_of p).status ≡ S.Limit → (IsGen words → ⊥)
      → Named told words (λ a b. IsLimit a b text)
  prepared-limit e other =
      let is = prepared-report told words before after p text S.Limit says t e (λ h. cc) in
      let (a, second, named) = compared_of words (limit-compared told words text is other) in
      named_of told words a second named S.Limit text (means told words text S.Limit a second named is refl)

-- the report that was begun to be written: that of a failed read, or that of files
pub prepared-part : (told : Option Files) (words : List (List ℕ)) (before after : ℕ) (p : Prepared)
    → PreparedSays told words before after p
    → (Rose before after × (report_of p ≡ printed (codes "readfault") S.ReadFault))
    ⊎ ((after ≡ before) × IsReport told words (report_of p))
    ⊎ (Rose before after × IsCheckBySeveral words × ((report_of p).status ≡ S.Other)
    × IsReport told words (report_of p))
prepared-part told words before after Usage says = inr (inl (says.0, usage-report told words says.1))
prepared-part told words before after ReadFault says = inl (says.0, refl)
prepared-part told words before after (Made bytes s) says =
    go (counts-made (command words) s before after says.0) where
      r : Report
      r = record { text = bytes.items; status = s }

      go : (after ≡ before) ⊎ (Rose before after × IsCheckBySeveral words × (s ≡ S.Other))
          → (Rose before after × (r ≡ printed (codes "readfault") S.ReadFault))
          ⊎ ((after ≡ before) × IsReport told words r)
          ⊎ (Rose before after × IsCheckBySeveral words × (s ≡ S.Other) × IsReport told words r)
      go (inl same) = inr (inl (same, says.2))
      go (inr (rose, several, other)) = inr (inr (rose, several, other, says.2))

-- the report is correct

-- where files are known, this is what is found of the schemas that the words name, and its report is written
record IsToldAnswer (a b : Json) (second : Option (List ℕ)) (r : Report) : Type 0 where
  x : Answer
  is : answer_of a b ≡ x
  tells : ValuesTell a b x
  back : IsReadBack x r.text
  report : answer_report (is_none second) x ≡ r

told-tells : (files : Files) (first : List ℕ) (second : Option (List ℕ)) (a b : Json) (x : Answer)
    → AreSchemas (Some files) first second a b → IsDecided (Some files) first second x → ValuesTell a b x
told-tells files first second a b x are of =
    let same = told-same files first second of.a of.b a b of.are are in
    subst (λ y. ValuesTell a y x) same.1 (subst (λ z. ValuesTell z of.b x) same.0 of.tells)

told-answer : (files : Files) (words : List (List ℕ)) (r : Report) (a b : Json)
    → (s : AreNamed (Some files) words a b) → IsComparedReport (Some files) s.first s.second r
    → IsToldAnswer a b s.second r
told-answer files words r a b s (o, comes, meant, back, e) =
    let same : o ≡ Compared.Decided (answer_of a b) =
    told-values files s.first s.second o a b comes s.are in
    record {
      x = answer_of a b;
      is = refl;
      tells = told-tells files s.first s.second a b (answer_of a b) s.are
          (subst (MeansFor (Some files) s.first s.second) same meant);
      back = subst (λ p. IsOutcomeReadBack p r.text) same back;
      report = ap (compared_report (is_none s.second)) (sym same) ∙ e;
    }

told-report : (files : Files) (words : List (List ℕ)) (r : Report) → IsReport (Some files) words r
    → (a b : Json) → (s : AreNamed (Some files) words a b) → IsToldAnswer a b s.second r
told-report files words r is a b s =
    told-answer files words r a b s (report-compared (Some files) words r s.first s.second s.named is)

-- plain words are the command that they mean
abbrev pub ArePlain : List (List ℕ) → Type 0
ArePlain words = (p : Plain) → is_plain p ≡ true → words ≡ words_of p → command words ≡ Some (meant p)

pub prepared-correct : (told : Option Files) (words : List (List ℕ)) (before after : ℕ) (p : Prepared)
    (old new : Option (List ℕ)) (text : List ℕ)
    → ArePlain words
    → PreparedSays told words before after p → text ≡ (report_of p).text → Stays before after → Appends old new text
    → IsCorrect told words old new (report_of p).status
prepared-correct None words before after p old new text plain says t stays appends = tt
prepared-correct (Some files) words before after Usage old new text plain says t stays appends =
    record {
      text = text;
      written = appends;
      answered = λ a b s. let wrong = sym s.named ∙ ap of_compared says.1 in cc;
      limited = λ a b s passes. let wrong = sym s.named ∙ ap of_compared says.1 in cc;
      counted = λ a b s passes. let wrong = sym s.named ∙ ap of_compared says.1 in cc;
      plain = plain;
      checked = λ a b bytes s. let wrong = sym s.named ∙ ap of_check says.1 in cc;
    }
prepared-correct (Some files) words before after ReadFault old new text plain says t stays appends =
    absurd (omega (arith, says.0, stays))
prepared-correct (Some files) words before after (Made made status) old new text plain says t stays appends =
    record {
      text = made.items;
      written = subst (Appends old new) t appends;
      answered = λ a b s.
          let of = told-report files words (record { text = made.items; status = status }) says.2 a b s in
          answer-one a b of.x of.tells made.items (ap (λ r. r.text) of.report) of.back;
      limited = λ a b s.
          let of = told-report files words (record { text = made.items; status = status }) says.2 a b s in
          answer-limited a b of.x of.is of.tells made.items (ap (λ r. r.text) of.report) of.back;
      counted = λ a b s.
          let of = told-report files words (record { text = made.items; status = status }) says.2 a b s in
          answer-counted a b of.x of.is of.tells;
      plain = plain;
      checked = told-verdict files words old new made.items status says.2 (subst (Appends old new) t appends);
    }

-- two schemas that pass a limit have its report

report-limited : (files : Files) (words : List (List ℕ)) (r : Report) → IsReport (Some files) words r
    → WhereTold (Some files) words (λ a b. PassLimit a b → r.status ≡ S.Limit)
report-limited files words r is = λ a b s passes.
    let of = told-report files words r is a b s in
    ap (λ x. x.status) (sym of.report) ∙ passes-report a b (is_none s.second) of.x of.is passes

pub prepared-limited : (told : Option Files) (words : List (List ℕ)) (before after : ℕ) (p : Prepared)
    → PreparedSays told words before after p
    → ((report_of p).status ≡ S.ReadFault → ⊥) → WhereTold told words
    (λ a b. PassLimit a b → (report_of p).status ≡ S.Limit)
prepared-limited None words before after p says n = tt
prepared-limited (Some files) words before after p says n =
    report-limited files words (report_of p)
    (prepared-report (Some files) words before after p (report_of p).text (report_of p).status says refl refl n)

-- the first refusal

unrefused : (is_sat : Bool) (f : Finding) → is_refused (finding_status is_sat f) ≡ false
unrefused true F.Document = refl
unrefused true F.Nothing = refl
unrefused true F.Limit = refl
unrefused false F.Document = refl
unrefused false F.Nothing = refl
unrefused false F.Limit = refl

module _ (told : Option Files) (words : List (List ℕ)) (text a : List ℕ) (second : Option (List ℕ))
    (named : compared_names words ≡ Some (a, second)) where
  refusal_of : (o : Compared.Outcome) → IsComparison told a second o
      → compared_report (is_none second) o ≡ record { text = text; status = S.Refused } → IsRefusal told words text
  refusal_of (Compared.Decided x) is e =
      let wrong = sym (unrefused (is_none second) (finding_of x)) ∙ ap (λ r. is_refused r.status) e in cc
  refusal_of (Compared.FirstRefused ws) is e =
      record {
        first = a;
        second = second;
        named = named;
        files = is.files;
        later = is.later;
        are_files = is.are_files;
        refusal = inl (ws, first-refusal told a second ws is, ap (λ r. r.text) e);
      }
  refusal_of (Compared.SecondRefused ws) is e =
      record {
        first = a;
        second = second;
        named = named;
        files = is.files;
        later = is.later;
        are_files = is.are_files;
        refusal = inr (ws, second-refusal told a second ws is, ap (λ r. r.text) e);
      }
  refusal_of Compared.ReadFault is e = let wrong = ap (λ r. is_refused r.status) e in cc

-- a report of the status of refusals is the first refusal
pub means-refusal : (told : Option Files) (words : List (List ℕ)) (text : List ℕ)
    → IsReport told words (record { text = text; status = S.Refused }) → IsCompared words
    → IsRefusal told words text
means-refusal told words text is compared =
    let (a, second, named) = compared_of words compared in
    let (o, comes, meant, back, e) =
    report-compared told words (record { text = text; status = S.Refused }) a second named is in
    refusal_of told words text a second named o comes e
