-- What an outcome means for the values of the two files.
use Rattle.std.proofs.Common.{◌≡◌, ℕ, List, Option, Some, None, encode_utf8_all, refl, ap, sym, ◌∙◌, subst}
use Rattle.documents.specs.Json.{Json}
use Rattle.js_outside.specs.Told.{Files}
use Rattle.js_input.specs.SchemaReading.{Refused, Read, IsSchemaReading}
use Rattle.js_input.specs.FileReading.{IsSchemaFile}
use Rattle.js_input.proofs.SchemaReadingLemmas.{IsSchemaReading-one}
use Rattle.js_commands.specs.IncludeOutcome.{Outcome, FirstRefused, SecondRefused, of_values, of_second, IsAgainstBytes, IsAgainst, IsOfFirst, IsOutcomeOf, IsComparison}
use Rattle.js_commands.specs.IncludeMeaning.{IsSecond, AreSchemas, IsFirstRefusal, IsSecondRefusal}

-- two schemas that are known come to what their values come to

pub same-read : (bytes : List ℕ) (a b : Json) → IsSchemaReading bytes (Read a) → IsSchemaReading bytes (Read b) → a ≡ b
same-read bytes a b is is' =
    let same : Read a ≡ Read b = IsSchemaReading-one bytes (Read a) (Read b) is is' in cc

told_outcome : (x : Option (List ℕ)) (one : List ℕ) (against : Json → Outcome → Type 0) (a : Json) (o : Outcome)
    → x ≡ Some one → IsSchemaReading one (Read a) → IsOutcomeOf x against o → against a o
told_outcome x one against a o e is outcome =
    let (r, reads, more) = subst (λ t. IsOutcomeOf t against o) e outcome in
    subst (λ s. IsOfFirst against s o) (IsSchemaReading-one one r (Read a) reads is) more

told_against : (later : Files) (second : Option (List ℕ)) (a b : Json) (o : Outcome) → IsSecond later second b
    → IsAgainst later second a o → o ≡ of_values a b
told_against later None a b o is of = sym of ∙ ap (of_values a) (sym is)
told_against later (Some name) a b o is of =
    let (r, reads, same) = subst (λ t. IsAgainstBytes t a o) is.told of in
    sym same ∙ ap (of_second a) (IsSchemaReading-one is.bytes r (Read b) reads is.is_read)

-- where both files are schemas, the outcome is that of their two values
pub told-values : (told : Files) (first : List ℕ) (second : Option (List ℕ)) (o : Outcome) (a b : Json)
    → IsComparison (Some told) first second o → AreSchemas (Some told) first second a b → o ≡ of_values a b
told-values told first second o a b is are =
    let same : is.files ≡ are.files = is.are_files.0 ∙ sym are.are_files.0 in
    let same' : is.later ≡ are.later = is.are_files.1 ∙ sym are.are_files.1 in
    told_against are.later second a b o are.is_second
    (told_outcome (is.files (encode_utf8_all first)) are.is_first.bytes (IsAgainst are.later second) a o
    (ap (λ f. f (encode_utf8_all first)) same ∙ are.is_first.told) are.is_first.is_read
    (subst (λ l. IsOutcomeOf (is.files (encode_utf8_all first)) (IsAgainst l second) o) same' is.outcome))

-- two pairs of readings of the same files have the same values

same_schema : (f g : Files) (name : List ℕ) (u v : Json) → f ≡ g → IsSchemaFile f name u → IsSchemaFile g name v
    → u ≡ v
same_schema f g name u v e x y =
    let told : Some x.bytes ≡ Some y.bytes = sym x.told ∙ ap (λ t. t (encode_utf8_all name)) e ∙ y.told in
    let same : x.bytes ≡ y.bytes = cc in
    same-read y.bytes u v (subst (λ t. IsSchemaReading t (Read u)) same x.is_read) y.is_read

same_second : (f g : Files) (second : Option (List ℕ)) (u v : Json) → f ≡ g → IsSecond f second u → IsSecond g second v
    → u ≡ v
same_second f g None u v e x y = x ∙ sym y
same_second f g (Some name) u v e x y = same_schema f g name u v e x y

pub told-same : (told : Files) (first : List ℕ) (second : Option (List ℕ)) (a b c d : Json)
    → AreSchemas (Some told) first second a b → AreSchemas (Some told) first second c d → (a ≡ c) × (b ≡ d)
told-same told first second a b c d x y = (
  same_schema x.files y.files first a c (x.are_files.0 ∙ sym y.are_files.0) x.is_first y.is_first,
  same_second x.later y.later second b d (x.are_files.1 ∙ sym y.are_files.1) x.is_second y.is_second,
)

-- refusals

module _ (files later : Files) (first words : List ℕ) where
  -- two schemas aren't refused
  first-after : (a : Json) (second : Option (List ℕ)) → IsAgainst later second a (FirstRefused words) → ⊥
  first-after a None e = cc
  first-after a (Some name) e = go (later (encode_utf8_all name)) e where
    go : (o : Option (List ℕ)) → IsAgainstBytes o a (FirstRefused words) → ⊥
    go None e = cc
    go (Some bytes) (Refused ws, is', e) = cc
    go (Some bytes) (Read b, is', e) = cc

  first-at : (second : Option (List ℕ)) (o : Option (List ℕ)) → files (encode_utf8_all first) ≡ o
      → IsOutcomeOf o (IsAgainst later second) (FirstRefused words) → IsFirstRefusal files first words
  first-at second None t e = cc
  first-at second (Some bytes) t (Refused ws, is, e) =
      let same : ws ≡ words = cc in
      record { bytes = bytes; told = t; is_refused = subst (λ v. IsSchemaReading bytes (Refused v)) same is }
  first-at second (Some bytes) t (Read a, is, e) = absurd (first-after a second e)

  second-after : (a : Json) → IsSchemaFile files first a → (second : Option (List ℕ))
      → IsAgainst later second a (SecondRefused words) → IsSecondRefusal files later first second words
  second-after a is None e = cc
  second-after a is (Some name) e = go (later (encode_utf8_all name)) refl e where
    go : (o : Option (List ℕ)) → later (encode_utf8_all name) ≡ o → IsAgainstBytes o a (SecondRefused words)
        → IsSecondRefusal files later first (Some name) words
    go None t e = cc
    go (Some bytes) t (Refused ws, is', e) =
        let same : ws ≡ words = cc in (
          a,
          is,
          record { bytes = bytes; told = t; is_refused = subst (λ v. IsSchemaReading bytes (Refused v)) same is' },
        )
    go (Some bytes) t (Read b, is', e) = cc

  second-at : (second : Option (List ℕ)) (o : Option (List ℕ)) → files (encode_utf8_all first) ≡ o
      → IsOutcomeOf o (IsAgainst later second) (SecondRefused words)
      → IsSecondRefusal files later first second words
  second-at second None t e = cc
  second-at second (Some bytes) t (Refused ws, is, e) = cc
  second-at second (Some bytes) t (Read a, is, e) =
      second-after a (record { bytes = bytes; told = t; is_read = is }) second e

pub first-refusal : (told : Option Files) (first : List ℕ) (second : Option (List ℕ)) (words : List ℕ)
    → (is : IsComparison told first second (FirstRefused words)) → IsFirstRefusal is.files first words
first-refusal told first second words is =
    first-at is.files is.later first words second (is.files (encode_utf8_all first)) refl is.outcome

pub second-refusal : (told : Option Files) (first : List ℕ) (second : Option (List ℕ)) (words : List ℕ)
    → (is : IsComparison told first second (SecondRefused words))
    → IsSecondRefusal is.files is.later first second words
second-refusal told first second words is =
    second-at is.files is.later first words second (is.files (encode_utf8_all first)) refl is.outcome
