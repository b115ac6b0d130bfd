-- What files come to, from what each was read as.
use Rattle.std.proofs.Common.{◌≡◌, inl, inr, ℕ, List, [], ◌∷◌, ◌++◌, Option, Some, None, encode_utf8_all, refl, ap, ap₂, sym, ◌∙◌, subst, append_assoc}
use Rattle.documents.specs.Json.{Json}
use Rattle.schemas.specs.Entry.{Entry}
use Rattle.verdicts.specs.Verdict as V
use Rattle.verdicts.specs.Verdict.{Verdict}
use Rattle.js_outside.specs.Told.{Files}
use Rattle.js_report.specs.WholeFile.{HasBytes}
use Rattle.js_certificate.specs.FileVerdicts as F
use Rattle.js_certificate.specs.FileVerdicts.{longest_file}
use Rattle.js_input.specs.SchemaReading.{Refused, Read, IsSchemaReading}
use Rattle.js_input.specs.OrderOfFiles.{IsSchemaOn, BeginsInOrder}
use Rattle.js_input.specs.ToldTwice.{AreFiles}
use Rattle.js_input.proofs.OrderLaws.{begins_two}
use Rattle.js_inclusion.specs.Comparison.{judgement}
use Rattle.js_inclusion.specs.Meaning.{IsReadAs}
use Rattle.js_commands.proofs.FileLemmas.{HaveFile-has, HaveFiles-has}
use Rattle.js_commands.specs.ReadEntries.{entries_of}
use Rattle.js_commands.specs.CheckOutcome as O
use Rattle.js_commands.specs.CheckOutcome.{Outcome, of_verdict, judgement_of, IsOutcomeOfBytes, IsOutcomeOfCertificate, IsOutcomeOfSecond, IsAgainstBytes, IsOutcomeOf, IsChecking}
use Rattle.js_commands.specs.CheckMeaning.{AreChecked}
use Rattle.js_commands.specs.CheckSaying.{CheckingSays, CertificateSays, MayBegin}
use Rattle.js_commands.specs.declared.check.Checking.{Checking}
use Rattle.js_commands.specs.declared.check.Checking.TheVariants as C

-- a first file that is refused, whatever the others are
pub checking-first_refused : (told : Option Files) (first second certificate bytes words : List ℕ)
    → HasBytes told (encode_utf8_all first) bytes → IsSchemaReading bytes (Refused words)
    → IsChecking told first second certificate (O.FirstRefused words)
checking-first_refused told first second certificate bytes words has is =
    let at = HaveFile-has told first bytes has in
    record {
      files = at.files;
      later = at.files;
      last = at.files;
      are_files = at.are_files;
      are_last = at.are_files;
      outcome = subst (λ b. IsOutcomeOf b (at.files (encode_utf8_all second)) (at.files (encode_utf8_all certificate))
          (O.FirstRefused words)) (sym at.has) (Refused words, is, refl);
    }

same_last : (told : Option Files) (files later : Files) → AreFiles told files later → AreFiles told later later
same_last None files later are = tt
same_last (Some fs) files later are = (are.1, are.1)

-- a first file that is read, and a second one that is refused
pub checking-second_refused : (told : Option Files) (first second certificate one two words : List ℕ) (a : Json)
    → HasBytes told (encode_utf8_all first) one → HasBytes told (encode_utf8_all second) two
    → IsSchemaReading one (Read a) → IsSchemaReading two (Refused words)
    → IsChecking told first second certificate (O.SecondRefused words)
checking-second_refused told first second certificate one two words a f g is is' =
    let at = HaveFiles-has told first second one two f g in
    record {
      files = at.files;
      later = at.later;
      last = at.later;
      are_files = at.are_files;
      are_last = same_last told at.files at.later at.are_files;
      outcome = subst (λ b. IsOutcomeOf b (at.later (encode_utf8_all second)) (at.later (encode_utf8_all certificate))
          (O.SecondRefused words)) (sym at.has_first) (
            Read a,
            is,
            subst (λ b. IsAgainstBytes b (at.later (encode_utf8_all certificate)) a (O.SecondRefused words))
                (sym at.has_second) (Refused words, is', refl),
          );
    }

-- files of three names, one read after the other
record HaveThree (told : Option Files) (first second name one two three : List ℕ) : Type 0 where
  files : Files
  later : Files
  last : Files
  are_files : AreFiles told files later
  are_last : AreFiles told later last
  has_first : files (encode_utf8_all first) ≡ Some one
  has_second : later (encode_utf8_all second) ≡ Some two
  has_third : last name ≡ Some three

HaveThree-has : (told : Option Files) (first second name one two three : List ℕ)
    → HasBytes told (encode_utf8_all first) one → HasBytes told (encode_utf8_all second) two
    → F.HasBytes told name three → HaveThree told first second name one two three
HaveThree-has None first second name one two three f g h =
    record {
      files = λ n. Some one;
      later = λ n. Some two;
      last = λ n. Some three;
      are_files = tt;
      are_last = tt;
      has_first = refl;
      has_second = refl;
      has_third = refl;
    }
HaveThree-has (Some files) first second name one two three f g h =
    record {
      files = files;
      later = files;
      last = files;
      are_files = (refl, refl);
      are_last = (refl, refl);
      has_first = f;
      has_second = g;
      has_third = h;
    }

-- two schemas that are read, and what their certificate's file comes to
module _ (told : Option Files) (first second certificate one two : List ℕ) (a b : Json)
    (f : HasBytes told (encode_utf8_all first) one) (g : HasBytes told (encode_utf8_all second) two)
    (is : IsSchemaReading one (Read a)) (is' : IsSchemaReading two (Read b)) where
  checking-bytes : (bytes : List ℕ) (o : Outcome) → F.HasBytes told (encode_utf8_all certificate) bytes
      → IsOutcomeOfBytes a b bytes o → IsChecking told first second certificate o
  checking-bytes bytes o h of =
      let at = HaveThree-has told first second (encode_utf8_all certificate) one two bytes f g h in
      record {
        files = at.files;
        later = at.later;
        last = at.last;
        are_files = at.are_files;
        are_last = at.are_last;
        outcome = subst (λ x. IsOutcomeOf x (at.later (encode_utf8_all second)) (at.last (encode_utf8_all certificate))
            o) (sym at.has_first) (
              Read a,
              is,
              subst (λ x. IsAgainstBytes x (at.last (encode_utf8_all certificate)) a o) (sym at.has_second)
                  (Read b, is', subst (λ x. IsOutcomeOfCertificate a b x o) (sym at.has_third) of),
            );
      }

  are-checked : (bytes : List ℕ) → F.HasBytes told (encode_utf8_all certificate) bytes
      → AreChecked told first second certificate a b bytes
  are-checked bytes h =
      let at = HaveThree-has told first second (encode_utf8_all certificate) one two bytes f g h in
      record {
        files = at.files;
        later = at.later;
        last = at.last;
        are_files = at.are_files;
        are_last = at.are_last;
        is_first = record { bytes = one; told = at.has_first; is_read = is };
        is_second = record { bytes = two; told = at.has_second; is_read = is' };
        told_bytes = at.has_third;
      }

  module _ (es fs : List Entry) (x : IsReadAs a es) (y : IsReadAs b fs) where
    same_judgement : (bytes : List ℕ) (v : Verdict) → judgement es fs bytes ≡ v → judgement_of a b bytes ≡ v
    same_judgement bytes v e =
        ap₂ (λ p q. judgement p q bytes) (ap entries_of x.entries) (ap entries_of y.entries) ∙ e

    checking-judged : (v : Verdict)
        → (bytes : List ℕ) × F.HasBytes told (encode_utf8_all certificate) bytes × (judgement es fs bytes ≡ v)
        → IsChecking told first second certificate (of_verdict v)
    checking-judged v (bytes, h, e) =
        checking-bytes bytes (of_verdict v) h (inl (ap of_verdict (sym (same_judgement bytes v e))))

    pub says-checked : (workers before after : ℕ) (c : Checking)
        → CertificateSays es fs told (encode_utf8_all certificate) workers before after c
        → CheckingSays told first second certificate workers before after c
    says-checked workers before after C.Accepted (n, (bytes, h, e), included) = (
      n,
      checking-judged V.Accepted (bytes, h, e),
      record {
        a = a;
        b = b;
        bytes = bytes;
        are = are-checked bytes h;
        is = same_judgement bytes V.Accepted e;
        included = included a b x y;
      },
    )
    says-checked workers before after (C.Rejected line rule) (n, judged) =
        (n, checking-judged (V.Rejected line rule) judged, tt)
    says-checked workers before after C.TooLong (n, (bytes, h, long)) =
        (n, checking-bytes bytes O.TooLong h (inr (long, refl)), tt)
    says-checked workers before after C.ReadFault rose = rose
    says-checked workers before after (C.FirstRefused words) says = absurd says
    says-checked workers before after (C.SecondRefused words) says = absurd says

-- a count that is as it was at two calls before
pub says-after : (told : Option Files) (first second certificate : List ℕ) (workers before mid after : ℕ)
    (c : Checking) → mid ≡ before → CheckingSays told first second certificate workers mid after c
    → CheckingSays told first second certificate workers before after c
says-after told first second certificate workers before mid after c e says =
    subst (λ n. CheckingSays told first second certificate workers n after c) e says

-- two schemas were begun, and then the third file, or no other
pub begins_three : (told : Option Files) (one two three : List ℕ) (before mid late after : List (List ℕ))
    → mid ≡ before ++ one ∷ [] → late ≡ mid ++ two ∷ [] → IsSchemaOn told one → IsSchemaOn told two
    → MayBegin three late after → BeginsInOrder told (one ∷ two ∷ three ∷ []) before after
begins_three told one two three before mid late after begun then is is' (inl same) =
    begins_two told one two (three ∷ []) before mid after begun (same ∙ then) is
begins_three told one two three before mid late after begun then is is' (inr last) = (
  one ∷ two ∷ three ∷ [],
  last ∙ ap (λ l. l ++ three ∷ []) (then ∙ ap (λ l. l ++ two ∷ []) begun ∙ append_assoc before (one ∷ []) (two ∷ []))
      ∙ append_assoc before (one ∷ two ∷ []) (three ∷ []),
  (refl, is, (refl, is', refl)),
)
