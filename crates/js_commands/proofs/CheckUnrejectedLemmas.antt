-- Where the certificate isn't judged to its end, that no line which was read before is rejected.
use Rattle.std.proofs.Common.{◌≡◌, ℕ, ◌+◌, List, [], ◌∷◌, ◌++◌, length, Bool, Option, encode_utf8_all, ap, sym, ◌∙◌, subst, arith, length-append}
use Rattle.documents.specs.Json.{Json}
use Rattle.schemas.specs.Entry.{Entry}
use Rattle.js_outside.specs.Told.{Files}
use Rattle.js_report.specs.WholeFile.{HasBytes}
use Rattle.js_certificate.specs.Unrejected.{StopsUnrejected}
use Rattle.js_certificate.specs.declared.file.FileFault.{FileFault}
use Rattle.js_certificate.specs.declared.file.FileFault.TheVariants as F
use Rattle.js_input.specs.SchemaReading.{Read, IsSchemaReading}
use Rattle.js_inclusion.specs.Comparison.{judgement}
use Rattle.js_inclusion.specs.Meaning.{IsReadAs}
use Rattle.js_commands.specs.ReadEntries.{entries_of, entries_read}
use Rattle.js_commands.specs.CheckUnrejected.{IsUnrejected}
use Rattle.js_commands.specs.CheckSaying.{EndsUnrejected, IsUnrejectedWith}
use Rattle.js_commands.specs.declared.check.Checking.{Checking}
use Rattle.js_commands.specs.declared.check.Checking.TheVariants as C
use Rattle.js_commands.proofs.IncludeOutcomeLemmas.{schemas-told}

-- two schemas that are read, and what their certificate's file was judged for
module _ (told : Option Files) (first second certificate one two : List ℕ) (a b : Json)
    (f : HasBytes told (encode_utf8_all first) one) (g : HasBytes told (encode_utf8_all second) two)
    (is : IsSchemaReading one (Read a)) (is' : IsSchemaReading two (Read b)) (es fs : List Entry)
    (x : IsReadAs a es) (y : IsReadAs b fs) (left : Option (List ℕ)) where
  unrejected-values : (fault : FileFault)
      → StopsUnrejected (judgement es fs) told (encode_utf8_all certificate) left fault
      → IsUnrejected told first second certificate left fault
  unrejected-values fault h =
      record {
        a = a;
        b = b;
        are = schemas-told told first second one two a b f g is is';
        unrejected = subst (λ p. StopsUnrejected (judgement p (entries_read b)) told (encode_utf8_all certificate) left
            fault) (sym (ap entries_of x.entries))
            (subst (λ q. StopsUnrejected (judgement es q) told (encode_utf8_all certificate) left fault)
            (sym (ap entries_of y.entries)) h);
      }

  pub ends-unrejected : (is_begun : Bool) (before after : List (List ℕ)) (c : Checking)
      → IsUnrejectedWith es fs told (encode_utf8_all certificate) is_begun left c
      → EndsUnrejected told first second certificate is_begun left before after c
  ends-unrejected is_begun before after C.TooLong h = unrejected-values F.TooLong h
  ends-unrejected is_begun before after C.ReadFault h = λ all is. unrejected-values F.Read (h is)
  ends-unrejected is_begun before after C.Accepted h = tt
  ends-unrejected is_begun before after (C.Rejected line rule) h = tt
  ends-unrejected is_begun before after (C.FirstRefused words) h = tt
  ends-unrejected is_begun before after (C.SecondRefused words) h = tt

-- where a schema couldn't be read, the certificate wasn't begun

pub first-begun : (P : Type 0) (n one two three : List ℕ) (before after : List (List ℕ)) → after ≡ before ++ n ∷ []
    → after ≡ before ++ (one ∷ two ∷ three ∷ []) → P
first-begun P n one two three before after e all =
    let few : length after ≡ length before + 1 = ap length e ∙ length-append before (n ∷ []) in
    let three_more : length after ≡ length before + 3 =
    ap length all ∙ length-append before (one ∷ two ∷ three ∷ []) in
    absurd (omega (arith, few, three_more))

pub second-begun : (P : Type 0) (n m one two three : List ℕ) (before mid after : List (List ℕ))
    → mid ≡ before ++ n ∷ [] → after ≡ mid ++ m ∷ [] → after ≡ before ++ (one ∷ two ∷ three ∷ []) → P
second-begun P n m one two three before mid after e e' all =
    let few : length mid ≡ length before + 1 = ap length e ∙ length-append before (n ∷ []) in
    let more : length after ≡ length mid + 1 = ap length e' ∙ length-append mid (m ∷ []) in
    let three_more : length after ≡ length before + 3 =
    ap length all ∙ length-append before (one ∷ two ∷ three ∷ []) in
    absurd (omega (arith, few, more, three_more))
