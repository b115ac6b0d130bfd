-- What the report of `norm` means, from what its file comes to.
use Rattle.std.proofs.Common.{◌≡◌, ℕ, List, Option, Some, None, encode_utf8_all, refl, ap, sym, ◌∙◌, subst, arith}
use Rattle.std.specs.Io.KnownBytes.{Appends}
use Rattle.std.specs.Prelude.{IsSome}
use Rattle.documents.specs.Json.{Json}
use Rattle.js_outside.specs.Counts.{Stays}
use Rattle.js_outside.specs.Told.{Files}
use Rattle.js_words.specs.Commands.{Command, Sat, Include, Valid, Check, Norm, Gen, command}
use Rattle.js_input.specs.SchemaReading.{Reading, Refused, Read, IsSchemaReading}
use Rattle.js_input.specs.FileReading.{IsSchemaFile}
use Rattle.js_input.specs.ToldTwice.{AreFiles}
use Rattle.js_input.proofs.SchemaReadingLemmas.{IsSchemaReading-one}
use Rattle.js_commands.specs.NormOutcome as N
use Rattle.js_commands.specs.NormOutcome.{IsListed, IsOutcomeOfReading, IsOutcomeOf, IsListing}
use Rattle.js_top.specs.Names.{of_norm, norm_name, IsNorm}
use Rattle.js_top.specs.Report.{Report, listed_report, IsNormReport, IsReportOf, IsReport}
use Rattle.js_top.specs.Listing.{IsNamedSchema, WritesNamedTable, WritesListing, IsNormRefusal}
use Rattle.js_top.specs.Preparing.{report_of, PreparedSays}
use Rattle.js_top.specs.declared.prepare.Prepared.{Prepared}
use Rattle.js_top.specs.declared.prepare.Prepared.TheVariants.{Usage, ReadFault, Made}
use Rattle.js_top.specs.declared.status.Status.{Status}
use Rattle.js_top.specs.declared.status.Status.TheVariants as S

-- the name of `norm`
name_of : (words : List (List ℕ)) → IsNorm words → (a : List ℕ) × (norm_name words ≡ Some a)
name_of words norm = go (norm_name words) refl norm where
  go : (o : Option (List ℕ)) → norm_name words ≡ o → IsSome o → (a : List ℕ) × (norm_name words ≡ Some a)
  go (Some a) e i = (a, e)
  go None e i = cc

-- the report of these words is that of `norm`
report-norm : (told : Option Files) (words : List (List ℕ)) (r : Report) (a : List ℕ)
    → norm_name words ≡ Some a → IsReport told words r → IsNormReport told a r
report-norm told words r a named is = go (command words) named is where
  go : (c : Option Command) → of_norm c ≡ Some a → IsReportOf told c r → IsNormReport told a r
  go None e is = cc
  go (Some (Sat x w)) e is = cc
  go (Some (Include x y w)) e is = cc
  go (Some (Valid x y)) e is = cc
  go (Some (Check x y z w)) e is = cc
  go (Some (Gen f n w)) e is = cc
  go (Some (Norm x)) e is = let same : ◌≡◌ {A = List ℕ} x a = cc in subst (λ n. IsNormReport told n r) same is

module _ (told : Option Files) (words : List (List ℕ)) (a : List ℕ) (named : norm_name words ≡ Some a) where
  -- what a file whose table is listed, or whose schema is refused, was read as
  listed_of : (text : List ℕ) → IsListing told a (N.Listed text)
      → (j : Json) × IsNamedSchema told words j × IsListed j text
  listed_of text is = at (is.files (encode_utf8_all a)) refl is.outcome where
    go : (bytes : List ℕ) (r : Reading) → is.files (encode_utf8_all a) ≡ Some bytes → IsSchemaReading bytes r
        → IsOutcomeOfReading r (N.Listed text) → (j : Json) × IsNamedSchema told words j × IsListed j text
    go bytes (Read j) t reads of = (
      j,
      record {
        name = a;
        named = named;
        files = is.files;
        are_files = is.are_files;
        is_schema = record { bytes = bytes; told = t; is_read = reads };
      },
      of,
    )
    go bytes (Refused ws) t reads of = cc

    at : (o : Option (List ℕ)) → is.files (encode_utf8_all a) ≡ o → IsOutcomeOf o (N.Listed text)
        → (j : Json) × IsNamedSchema told words j × IsListed j text
    at None t of = cc
    at (Some bytes) t (r, reads, of) = go bytes r t reads of

  refused_of : (ws text : List ℕ) → IsListing told a (N.SchemaRefused ws)
      → listed_report (N.SchemaRefused ws) ≡ record { text = text; status = S.Refused }
      → IsNormRefusal told words text
  refused_of ws text is e = at (is.files (encode_utf8_all a)) refl is.outcome where
    go : (bytes : List ℕ) (r : Reading) → is.files (encode_utf8_all a) ≡ Some bytes → IsSchemaReading bytes r
        → IsOutcomeOfReading r (N.SchemaRefused ws) → IsNormRefusal told words text
    go bytes (Read j) t reads of = absurd of
    go bytes (Refused others) t reads of =
        let same : ws ≡ others = cc in
        record {
          name = a;
          named = named;
          files = is.files;
          are_files = is.are_files;
          refusal = (
            ws,
            record {
              bytes = bytes;
              told = t;
              is_refused = subst (λ w. IsSchemaReading bytes (Refused w)) (sym same) reads;
            },
            ap (λ r. r.text) e,
          );
        }

    at : (o : Option (List ℕ)) → is.files (encode_utf8_all a) ≡ o → IsOutcomeOf o (N.SchemaRefused ws)
        → IsNormRefusal told words text
    at None t of = cc
    at (Some bytes) t (r, reads, of) = go bytes r t reads of

  done_of : (o : N.Outcome) (text : List ℕ) → IsListing told a o
      → listed_report o ≡ record { text = text; status = S.Done }
      → (j : Json) × IsNamedSchema told words j × IsListed j text
  done_of (N.Listed t) text is e =
      let same : t ≡ text = ap (λ r. r.text) e in listed_of text (subst (λ u. IsListing told a (N.Listed u)) same is)
  done_of (N.SchemaRefused ws) text is e = let wrong = ap (λ r. r.status) e in cc
  done_of N.ReadFault text is e = let wrong = ap (λ r. r.status) e in cc

  refusal_of : (o : N.Outcome) (text : List ℕ) → IsListing told a o
      → listed_report o ≡ record { text = text; status = S.Refused } → IsNormRefusal told words text
  refusal_of (N.Listed t) text is e = let wrong = ap (λ r. r.status) e in cc
  refusal_of (N.SchemaRefused ws) text is e = refused_of ws text is e
  refusal_of N.ReadFault text is e = let wrong = ap (λ r. r.status) e in cc

-- a report with the status of a table is one of the schema that the words name
pub means-table : (told : Option Files) (words : List (List ℕ)) (old new : Option (List ℕ)) (text : List ℕ)
    → IsReport told words (record { text = text; status = S.Done }) → IsNorm words → Appends old new text
    → WritesNamedTable told words old new
means-table told words old new text is norm appends =
    let (a, named) = name_of words norm in
    let (o, comes, e) = report-norm told words (record { text = text; status = S.Done }) a named is in
    let (j, schema, listed) = done_of told words a named o text comes e in (j, schema, (text, appends, listed))

-- a report with the status of refusals is the refusal
pub means-norm_refusal : (told : Option Files) (words : List (List ℕ)) (text : List ℕ)
    → IsReport told words (record { text = text; status = S.Refused }) → IsNorm words → IsNormRefusal told words text
means-norm_refusal told words text is norm =
    let (a, named) = name_of words norm in
    let (o, comes, e) = report-norm told words (record { text = text; status = S.Refused }) a named is in
    refusal_of told words a named o text comes e

-- where files are known, a schema that the words name is listed
told_listed : (files : Files) (a : List ℕ) (o : N.Outcome) (j : Json) → IsListing (Some files) a o → (fs : Files)
    → AreFiles (Some files) fs fs → IsSchemaFile fs a j → (text : List ℕ) × (o ≡ N.Listed text) × IsListed j text
told_listed files a o j is fs ok schema =
    let same = ap (λ f. f (encode_utf8_all a)) (is.are_files.0 ∙ sym ok.0) ∙ schema.told in
    let (r, reads, of) = subst (λ b. IsOutcomeOf b o) same is.outcome in
    let one = IsSchemaReading-one schema.bytes r (Read j) reads schema.is_read in
    go o (subst (λ r. IsOutcomeOfReading r o) one of) where
      go : (o : N.Outcome) → IsOutcomeOfReading (Read j) o → (text : List ℕ) × (o ≡ N.Listed text) × IsListed j text
      go (N.Listed text) of = (text, refl, of)
      go (N.SchemaRefused ws) of = absurd of
      go N.ReadFault of = absurd of

told-table : (files : Files) (words : List (List ℕ)) (text : List ℕ) (status : Status) (j : Json)
    → IsReport (Some files) words (record { text = text; status = status }) → IsNamedSchema (Some files) words j
    → IsListed j text × (status ≡ S.Done)
told-table files words text status j is are =
    let (o, comes, e) =
    report-norm (Some files) words (record { text = text; status = status }) are.name are.named is in
    let (t, same, listed) = told_listed files are.name o j comes are.files are.are_files are.is_schema in
    let whole = sym e ∙ ap listed_report same in
    (subst (IsListed j) (sym (ap (λ r. r.text) whole)) listed, ap (λ r. r.status) whole)

pub prepared-listing : (told : Option Files) (words : List (List ℕ)) (before after : ℕ) (p : Prepared)
    (old new : Option (List ℕ)) (text : List ℕ)
    → PreparedSays told words before after p → text ≡ (report_of p).text → Stays before after → Appends old new text
    → WritesListing told words old new (report_of p).status
prepared-listing None words before after p old new text says t stays appends = tt
prepared-listing (Some files) words before after Usage old new text says t stays appends = λ j are.
    let wrong = sym are.named ∙ ap of_norm says.1 in cc
prepared-listing (Some files) words before after ReadFault old new text says t stays appends = λ j are.
    absurd (omega (arith, says.0, stays))
prepared-listing (Some files) words before after (Made bytes status) old new text says t stays appends = λ j are.
    let both = told-table files words bytes.items status j says.2 are in
    ((bytes.items, subst (Appends old new) t appends, both.0), both.1)
