-- What an outcome means for the values of the two schemas and the bytes of the certificate.
use Rattle.std.proofs.Common.{◌≡◌, ◌<◌, inl, inr, ℕ, List, length, Bool, true, false, Option, Some, None, encode_utf8_all, refl, ap, sym, ◌∙◌, subst}
use Rattle.documents.specs.Json.{Json}
use Rattle.verdicts.specs.Verdict as V
use Rattle.verdicts.specs.Verdict.{Verdict}
use Rattle.js_outside.specs.Told.{Files}
use Rattle.js_certificate.specs.FileVerdicts.{longest_file}
use Rattle.js_input.specs.SchemaReading.{Refused, Read, IsSchemaReading}
use Rattle.js_input.specs.FileReading.{IsSchemaFile, IsSchemaRefusal}
use Rattle.js_input.specs.ToldTwice.{AreFiles}
use Rattle.js_input.proofs.SchemaReadingLemmas.{IsSchemaReading-one}
use Rattle.js_commands.specs.CheckOutcome.{Outcome, Accepted, Rejected, FirstRefused, SecondRefused, TooLong, ReadFault, of_verdict, judgement_of, IsOutcomeOfBytes, IsOutcomeOfCertificate, IsOutcomeOfSecond, IsAgainstBytes, IsOutcomeOfFirst, IsOutcomeOf, IsChecking}
use Rattle.js_commands.specs.CheckMeaning.{AreChecked, IsRefusedAfterFirst}

-- which outcome it is

abbrev is_judged : Outcome → Bool
is_judged Accepted = true
is_judged (Rejected line rule) = true
is_judged _ = false

abbrev is_first_refused : Outcome → Bool
is_first_refused (FirstRefused words) = true
is_first_refused _ = false

abbrev is_second_refused : Outcome → Bool
is_second_refused (SecondRefused words) = true
is_second_refused _ = false

abbrev is_too_long : Outcome → Bool
is_too_long TooLong = true
is_too_long _ = false

is_judged-of_verdict : (v : Verdict) → is_judged (of_verdict v) ≡ true
is_judged-of_verdict V.Accepted = refl
is_judged-of_verdict (V.Rejected line rule) = refl

-- the verdict of an outcome that was judged
abbrev verdict_in : Outcome → Verdict
verdict_in (Rejected line rule) = V.Rejected line rule
verdict_in _ = V.Accepted

verdict_in-of_verdict : (v : Verdict) → verdict_in (of_verdict v) ≡ v
verdict_in-of_verdict V.Accepted = refl
verdict_in-of_verdict (V.Rejected line rule) = refl

of_verdict-one : (u v : Verdict) → of_verdict u ≡ of_verdict v → u ≡ v
of_verdict-one u v e = sym (verdict_in-of_verdict u) ∙ ap verdict_in e ∙ verdict_in-of_verdict v

-- it is no other than what is judged
other-judged : (v : Verdict) (o : Outcome) → of_verdict v ≡ o → is_judged o ≡ false → ⊥
other-judged v o e h = let wrong : true ≡ false = sym (is_judged-of_verdict v) ∙ ap is_judged e ∙ h in cc

-- ---- what bytes come to

-- the files of these names are two schemas and these bytes, which come to the outcome
record IsReached (told : Option Files) (first second certificate : List ℕ) (o : Outcome) : Type 0 where
  a : Json
  b : Json
  bytes : List ℕ
  are : AreChecked told first second certificate a b bytes
  of : IsOutcomeOfBytes a b bytes o

-- an outcome that depends on the bytes of the certificate alone
abbrev IsOfCertificate : Outcome → Type 0
IsOfCertificate o = (o ≡ ReadFault → ⊥) × (is_first_refused o ≡ false) × (is_second_refused o ≡ false)

module _ (told : Option Files) (first second certificate : List ℕ) (files later last : Files)
    (ok : AreFiles told files later) (ok' : AreFiles told later last) (o : Outcome) (only : IsOfCertificate o) where
  reached-last : (a b : Json) → IsSchemaFile files first a → IsSchemaFile later second b → (x : Option (List ℕ))
      → last (encode_utf8_all certificate) ≡ x → IsOutcomeOfCertificate a b x o
      → IsReached told first second certificate o
  reached-last a b is is' None t e = absurd (only.0 e)
  reached-last a b is is' (Some bytes) t of =
      record {
        a = a;
        b = b;
        bytes = bytes;
        are = record {
          files = files;
          later = later;
          last = last;
          are_files = ok;
          are_last = ok';
          is_first = is;
          is_second = is';
          told_bytes = t;
        };
        of = of;
      }

  reached-second : (a : Json) → IsSchemaFile files first a → (x : Option (List ℕ))
      → later (encode_utf8_all second) ≡ x → IsAgainstBytes x (last (encode_utf8_all certificate)) a o
      → IsReached told first second certificate o
  reached-second a is None t e = absurd (only.0 e)
  reached-second a is (Some bytes) t (Refused words, reads, e) =
      let wrong : false ≡ true = sym only.2 ∙ ap is_second_refused e in cc
  reached-second a is (Some bytes) t (Read b, reads, of) =
      reached-last a b is (record { bytes = bytes; told = t; is_read = reads }) (last (encode_utf8_all certificate))
      refl of

  reached-first : (x : Option (List ℕ)) → files (encode_utf8_all first) ≡ x
      → IsOutcomeOf x (later (encode_utf8_all second)) (last (encode_utf8_all certificate)) o
      → IsReached told first second certificate o
  reached-first None t e = absurd (only.0 e)
  reached-first (Some bytes) t (Refused words, reads, e) =
      let wrong : false ≡ true = sym only.1 ∙ ap is_first_refused e in cc
  reached-first (Some bytes) t (Read a, reads, of) =
      reached-second a (record { bytes = bytes; told = t; is_read = reads }) (later (encode_utf8_all second)) refl of

checking-reached : (told : Option Files) (first second certificate : List ℕ) (o : Outcome) → IsOfCertificate o
    → IsChecking told first second certificate o → IsReached told first second certificate o
checking-reached told first second certificate o only is =
    reached-first told first second certificate is.files is.later is.last is.are_files is.are_last o only
    (is.files (encode_utf8_all first)) refl is.outcome

-- both schemas and the certificate are read, and this is the verdict
pub record IsJudged (told : Option Files) (first second certificate : List ℕ) (v : Verdict) : Type 0 where
  pub a : Json
  pub b : Json
  pub bytes : List ℕ
  pub are : AreChecked told first second certificate a b bytes
  pub verdict : judgement_of a b bytes ≡ v

only-judged : (v : Verdict) → IsOfCertificate (of_verdict v)
only-judged V.Accepted = (λ e. cc, refl, refl)
only-judged (V.Rejected line rule) = (λ e. cc, refl, refl)

verdict-bytes : (a b : Json) (bytes : List ℕ) (v : Verdict) → IsOutcomeOfBytes a b bytes (of_verdict v)
    → judgement_of a b bytes ≡ v
verdict-bytes a b bytes v (inl e) = of_verdict-one (judgement_of a b bytes) v (sym e)
verdict-bytes a b bytes v (inr (long, e)) = absurd (other-judged v TooLong e refl)

-- the outcome of a verdict is that of the bytes
pub checking-judged : (told : Option Files) (first second certificate : List ℕ) (v : Verdict)
    → IsChecking told first second certificate (of_verdict v) → IsJudged told first second certificate v
checking-judged told first second certificate v is =
    let at = checking-reached told first second certificate (of_verdict v) (only-judged v) is in
    record { a = at.a; b = at.b; bytes = at.bytes; are = at.are; verdict = verdict-bytes at.a at.b at.bytes v at.of }

-- both schemas are read, and the certificate has too many bytes
pub record IsTooLong (told : Option Files) (first second certificate : List ℕ) : Type 0 where
  pub a : Json
  pub b : Json
  pub bytes : List ℕ
  pub are : AreChecked told first second certificate a b bytes
  pub long : longest_file < length bytes

long-bytes : (a b : Json) (bytes : List ℕ) → IsOutcomeOfBytes a b bytes TooLong → longest_file < length bytes
long-bytes a b bytes (inl e) = absurd (other-judged (judgement_of a b bytes) TooLong (sym e) refl)
long-bytes a b bytes (inr (long, e)) = long

pub checking-too_long : (told : Option Files) (first second certificate : List ℕ)
    → IsChecking told first second certificate TooLong → IsTooLong told first second certificate
checking-too_long told first second certificate is =
    let at = checking-reached told first second certificate TooLong (λ e. cc, refl, refl) is in
    record { a = at.a; b = at.b; bytes = at.bytes; are = at.are; long = long-bytes at.a at.b at.bytes at.of }

-- ---- and where files are known, they come to what is judged of their bytes

told_last : (x : Option (List ℕ)) (a b : Json) (bytes : List ℕ) (o : Outcome) → x ≡ Some bytes
    → IsOutcomeOfCertificate a b x o → IsOutcomeOfBytes a b bytes o
told_last x a b bytes o e of = subst (λ t. IsOutcomeOfCertificate a b t o) e of

told_second : (x y : Option (List ℕ)) (a b : Json) (two bytes : List ℕ) (o : Outcome) → x ≡ Some two
    → IsSchemaReading two (Read b) → y ≡ Some bytes → IsAgainstBytes x y a o → IsOutcomeOfBytes a b bytes o
told_second x y a b two bytes o e is f of =
    let (r, reads, more) = subst (λ t. IsAgainstBytes t y a o) e of in
    told_last y a b bytes o f
    (subst (λ s. IsOutcomeOfSecond y a s o) (IsSchemaReading-one two r (Read b) reads is) more)

told_first : (x y z : Option (List ℕ)) (a b : Json) (one two bytes : List ℕ) (o : Outcome) → x ≡ Some one
    → IsSchemaReading one (Read a) → y ≡ Some two → IsSchemaReading two (Read b) → z ≡ Some bytes
    → IsOutcomeOf x y z o → IsOutcomeOfBytes a b bytes o
told_first x y z a b one two bytes o e is e' is' f of =
    let (r, reads, more) = subst (λ t. IsOutcomeOf t y z o) e of in
    told_second y z a b two bytes o e' is' f
    (subst (λ s. IsOutcomeOfFirst y z s o) (IsSchemaReading-one one r (Read a) reads is) more)

pub told-checked : (told : Files) (first second certificate : List ℕ) (o : Outcome) (a b : Json) (bytes : List ℕ)
    → IsChecking (Some told) first second certificate o
    → AreChecked (Some told) first second certificate a b bytes → IsOutcomeOfBytes a b bytes o
told-checked told first second certificate o a b bytes is are =
    let one : is.files ≡ are.files = is.are_files.0 ∙ sym are.are_files.0 in
    let two : is.later ≡ are.later = is.are_files.1 ∙ sym are.are_files.1 in
    let three : is.last ≡ are.last = is.are_last.1 ∙ sym are.are_last.1 in
    told_first (is.files (encode_utf8_all first)) (is.later (encode_utf8_all second))
    (is.last (encode_utf8_all certificate)) a b are.is_first.bytes are.is_second.bytes bytes o
    (ap (λ f. f (encode_utf8_all first)) one ∙ are.is_first.told) are.is_first.is_read
    (ap (λ f. f (encode_utf8_all second)) two ∙ are.is_second.told) are.is_second.is_read
    (ap (λ f. f (encode_utf8_all certificate)) three ∙ are.told_bytes) is.outcome

-- ---- refusals

unrefused-first : (a b : Json) (x : Option (List ℕ)) (words : List ℕ)
    → IsOutcomeOfCertificate a b x (FirstRefused words) → ⊥
unrefused-first a b None words e = cc
unrefused-first a b (Some bytes) words (inl e) =
    other-judged (judgement_of a b bytes) (FirstRefused words) (sym e) refl
unrefused-first a b (Some bytes) words (inr (long, e)) = cc

unrefused-second : (a b : Json) (x : Option (List ℕ)) (words : List ℕ)
    → IsOutcomeOfCertificate a b x (SecondRefused words) → ⊥
unrefused-second a b None words e = cc
unrefused-second a b (Some bytes) words (inl e) =
    other-judged (judgement_of a b bytes) (SecondRefused words) (sym e) refl
unrefused-second a b (Some bytes) words (inr (long, e)) = cc

module _ (files later : Files) (first second words : List ℕ) (certificate : Option (List ℕ)) where
  first-after : (a : Json) (x : Option (List ℕ)) → IsAgainstBytes x certificate a (FirstRefused words) → ⊥
  first-after a None e = cc
  first-after a (Some bytes) (Refused ws, is, e) = cc
  first-after a (Some bytes) (Read b, is, of) = unrefused-first a b certificate words of

  first-at : (x : Option (List ℕ)) → files (encode_utf8_all first) ≡ x
      → IsOutcomeOf x (later (encode_utf8_all second)) certificate (FirstRefused words)
      → IsSchemaRefusal files first words
  first-at None t e = cc
  first-at (Some bytes) t (Refused ws, is, e) =
      let same : ws ≡ words = cc in
      record { bytes = bytes; told = t; is_refused = subst (λ v. IsSchemaReading bytes (Refused v)) same is }
  first-at (Some bytes) t (Read a, is, of) = absurd (first-after a (later (encode_utf8_all second)) of)

  second-after : (a : Json) → IsSchemaFile files first a → (x : Option (List ℕ))
      → later (encode_utf8_all second) ≡ x → IsAgainstBytes x certificate a (SecondRefused words)
      → IsRefusedAfterFirst files later first second words
  second-after a is None t e = cc
  second-after a is (Some bytes) t (Refused ws, is', e) =
      let same : ws ≡ words = cc in
      record {
        value = a;
        is_first = is;
        is_refused = record {
          bytes = bytes;
          told = t;
          is_refused = subst (λ v. IsSchemaReading bytes (Refused v)) same is';
        };
      }
  second-after a is (Some bytes) t (Read b, is', of) = absurd (unrefused-second a b certificate words of)

  second-at : (x : Option (List ℕ)) → files (encode_utf8_all first) ≡ x
      → IsOutcomeOf x (later (encode_utf8_all second)) certificate (SecondRefused words)
      → IsRefusedAfterFirst files later first second words
  second-at None t e = cc
  second-at (Some bytes) t (Refused ws, is, e) = cc
  second-at (Some bytes) t (Read a, is, of) =
      second-after a (record { bytes = bytes; told = t; is_read = is }) (later (encode_utf8_all second)) refl of

-- the first file is refused with these words
pub check-first_refusal : (told : Option Files) (first second certificate words : List ℕ)
    → (is : IsChecking told first second certificate (FirstRefused words)) → IsSchemaRefusal is.files first words
check-first_refusal told first second certificate words is =
    first-at is.files is.later first second words (is.last (encode_utf8_all certificate))
    (is.files (encode_utf8_all first)) refl is.outcome

-- or it is a schema, and the second is refused
pub check-second_refusal : (told : Option Files) (first second certificate words : List ℕ)
    → (is : IsChecking told first second certificate (SecondRefused words))
    → IsRefusedAfterFirst is.files is.later first second words
check-second_refusal told first second certificate words is =
    second-at is.files is.later first second words (is.last (encode_utf8_all certificate))
    (is.files (encode_utf8_all first)) refl is.outcome
