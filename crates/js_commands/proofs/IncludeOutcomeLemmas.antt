-- What files come to, from what each was read as.
use Rattle.std.proofs.Common.{◌≡◌, ℕ, List, false, Option, Some, None, encode_utf8_all, refl, ap, ap₂, sym, ◌∙◌, subst, arith}
use Rattle.documents.specs.Json.{Json, boolean}
use Rattle.schemas.specs.Entry.{Entry}
use Rattle.js_outside.specs.Told.{Files}
use Rattle.js_report.specs.WholeFile.{HasBytes}
use Rattle.js_input.specs.SchemaReading.{Reading, Refused, Read, IsSchemaReading}
use Rattle.decisions.specs.Decision as D
use Rattle.js_expansion.specs.View.{limit_view}
use Rattle.js_decide.specs.View.{verdict_view}
use Rattle.js_decide.specs.Certified.{HasCertificate}
use Rattle.js_decide.specs.declared.verdict.Verdict.{Verdict}
use Rattle.js_decide.specs.declared.verdict.Verdict.TheVariants as V
use Rattle.js_inclusion.specs.Comparison.{comparison, certificate_text, judgement}
use Rattle.js_inclusion.specs.Meaning.{IsReadAs, StopsSearch, PassesCount, AreCounted, Tells}
use Rattle.js_commands.proofs.FileLemmas.{HaveFile-has, HaveFiles-has}
use Rattle.js_commands.specs.ReadEntries.{entries_of, entries_read}
use Rattle.js_commands.specs.IncludeOutcome as A
use Rattle.js_commands.specs.IncludeOutcome.{of_decision, answer, Outcome, Decided, FirstRefused, of_values, of_second, IsAgainstBytes, IsAgainst, IsOutcomeOf, IsComparison}
use Rattle.js_commands.specs.IncludeMeaning.{AreSchemas, ValuesTell}
use Rattle.js_commands.specs.IncludeSaying.{answer_view, InclusionSays, SchemasSay}
use Rattle.js_commands.specs.declared.include.Inclusion.{Inclusion}
use Rattle.js_commands.specs.declared.include.Inclusion.TheVariants as F

-- a first file that is refused, whatever the second is
pub comparison-first_refused : (told : Option Files) (first : List ℕ) (second : Option (List ℕ)) (bytes words : List ℕ)
    → HasBytes told (encode_utf8_all first) bytes → IsSchemaReading bytes (Refused words)
    → IsComparison told first second (FirstRefused words)
comparison-first_refused told first second bytes words has is =
    let at = HaveFile-has told first bytes has in
    record {
      files = at.files;
      later = at.files;
      are_files = at.are_files;
      outcome = subst (λ b. IsOutcomeOf b (IsAgainst at.files second) (FirstRefused words)) (sym at.has)
          (Refused words, is, refl);
    }

-- a first file that is read, and a second one
module _ (told : Option Files) (first second one two : List ℕ) (a : Json) where
  pub comparison-second : (r : Reading) (o : Outcome) → HasBytes told (encode_utf8_all first) one
      → HasBytes told (encode_utf8_all second) two → IsSchemaReading one (Read a) → IsSchemaReading two r
      → of_second a r ≡ o → IsComparison told first (Some second) o
  comparison-second r o f g is is' e =
      let at = HaveFiles-has told first second one two f g in
      record {
        files = at.files;
        later = at.later;
        are_files = at.are_files;
        outcome = subst (λ b. IsOutcomeOf b (IsAgainst at.later (Some second)) o) (sym at.has_first)
            (Read a, is, subst (λ b. IsAgainstBytes b a o) (sym at.has_second) (r, is', e));
      }

  pub schemas-told : (b : Json) → HasBytes told (encode_utf8_all first) one
      → HasBytes told (encode_utf8_all second) two → IsSchemaReading one (Read a) → IsSchemaReading two (Read b)
      → AreSchemas told first (Some second) a b
  schemas-told b f g is is' =
      let at = HaveFiles-has told first second one two f g in
      record {
        files = at.files;
        later = at.later;
        are_files = at.are_files;
        is_first = record { bytes = one; told = at.has_first; is_read = is };
        is_second = record { bytes = two; told = at.has_second; is_read = is' };
      }

-- a first file that is read, and the value `false`
module _ (told : Option Files) (first one : List ℕ) (a : Json) (has : HasBytes told (encode_utf8_all first) one)
    (is : IsSchemaReading one (Read a)) where
  pub comparison-false : (o : Outcome) → of_values a (boolean false) ≡ o → IsComparison told first None o
  comparison-false o e =
      let at = HaveFile-has told first one has in
      record {
        files = at.files;
        later = at.files;
        are_files = at.are_files;
        outcome = subst (λ b. IsOutcomeOf b (IsAgainst at.files None) o) (sym at.has) (Read a, is, e);
      }

  pub schemas-false : AreSchemas told first None a (boolean false)
  schemas-false =
      let at = HaveFile-has told first one has in
      record {
        files = at.files;
        later = at.files;
        are_files = at.are_files;
        is_first = record { bytes = one; told = at.has; is_read = is };
        is_second = refl;
      }

-- a verdict's answer, with the bytes of its certificate
pub view-answer : (text : List ℕ) (v : Verdict) (d : D.Verdict) → verdict_view v ≡ d → HasCertificate text v
    → answer_view v ≡ of_decision text d
view-answer text (V.Document ps i) d e has = ap (of_decision text) e
view-answer text (V.Certificate bytes) d e has = ap A.Certificate has ∙ ap (of_decision text) e
view-answer text (V.Limit k g) d e has = ap (of_decision text) e

-- two schemas that are read, as these entries
module _ (a b : Json) (es fs : List Entry) (x : IsReadAs a es) (y : IsReadAs b fs) where
  pub same_entries : entries_read a ≡ es
  same_entries = ap entries_of x.entries

  pub same_entries' : entries_read b ≡ fs
  same_entries' = ap entries_of y.entries

  pub values-tell : (v : Verdict) → HasCertificate (certificate_text es fs) v → Tells es fs a b (verdict_view v)
      → AreCounted es fs (verdict_view v) → ValuesTell a b (answer_view v)
  values-tell (V.Document ps i) has tells counted = tells
  values-tell (V.Certificate bytes) has tells counted =
      record {
        accepted = ap₂ (λ p q. judgement p q bytes.items) same_entries same_entries'
            ∙ ap (judgement es fs) has ∙ tells.accepted;
        fits = let (same, within) = bytes.ok in let small = bytes.small in omega (arith, same, within, small);
        included = tells.included;
      }
  values-tell (V.Limit k g) has tells counted =
      record {
        stops = subst (λ p. StopsSearch p (entries_read b) (limit_view k) g) (sym same_entries)
            (subst (λ q. StopsSearch es q (limit_view k) g) (sym same_entries') tells);
        counted = subst (λ p. PassesCount p (entries_read b) (limit_view k) g) (sym same_entries)
            (subst (λ q. PassesCount es q (limit_view k) g) (sym same_entries') counted);
      }

-- and what the program says of them
module _ (told : Option Files) (first : List ℕ) (second : Option (List ℕ)) (a b : Json) (es fs : List Entry)
    (x : IsReadAs a es) (y : IsReadAs b fs) (are : AreSchemas told first second a b)
    (comes : (o : Outcome) → of_values a b ≡ o → IsComparison told first second o) where
  same_answer : answer (entries_read a) (entries_read b) ≡ answer es fs
  same_answer = ap₂ answer (same_entries a b es fs x y) (same_entries' a b es fs x y)

  pub says-compared : (before after : ℕ) (f : Inclusion) → after ≡ before → SchemasSay es fs f
      → InclusionSays told first second before after f
  says-compared before after (F.Decided v) n (e, has, means, counted) =
      let found = view-answer (certificate_text es fs) v (comparison es fs) e has in (
        n,
        comes (Decided (answer_view v)) (ap Decided (same_answer ∙ sym found)),
        record {
          a = a;
          b = b;
          are = are;
          is = same_answer ∙ sym found;
          tells = values-tell a b es fs x y v has (means a b x y) counted;
        },
      )
  says-compared before after (F.FirstRefused ws) n says = absurd says
  says-compared before after (F.SecondRefused ws) n says = absurd says
  says-compared before after F.ReadFault n says = absurd says
