-- What was begun is in the order of the names, and what a missing name says of it.
use Rattle.std.proofs.Common.{◌≡◌, inl, inr, ℕ, ◌+◌, ◌<◌, List, [], ◌∷◌, ◌++◌, cond, Option, Some, None, refl, ap, sym, ◌∙◌, arith, append_assoc, zero-add}
use Rattle.std.specs.Prelude.{is_none}
use Rattle.std.specs.List.{count_by}
use Rattle.std.proofs.lemmas.List.Sums.{sum_by-append}
use Rattle.js_outside.specs.Counts.{last_count, Rose}
use Rattle.js_outside.specs.Told.{Files, CountsMisses}
use Rattle.js_input.specs.OrderOfFiles.{IsSchemaOn, AreInOrder, BeginsInOrder, Misses}
use Rattle.js_input.specs.declared.schema.SchemaInput.TheVariants as S

-- the first file was begun and is a schema, and then the second was begun
pub begins_two : (told : Option Files) (name second : List ℕ) (names before mid after : List (List ℕ))
    → mid ≡ before ++ name ∷ [] → after ≡ mid ++ second ∷ [] → IsSchemaOn told name
    → BeginsInOrder told (name ∷ second ∷ names) before after
begins_two told name second names before mid after begun then is = (
  name ∷ second ∷ [],
  then ∙ ap (λ l. l ++ second ∷ []) begun ∙ append_assoc before (name ∷ []) (second ∷ []),
  (refl, is, refl),
)

-- a name that isn't there was begun, so it is missing and each before it is a schema

count-front : (files : Files) (n : List ℕ) (names : List (List ℕ))
    → count_by (λ m. is_none (files m)) (n ∷ names)
    ≡ cond (is_none (files n)) 1 0 + count_by (λ m. is_none (files m)) names
count-front files n names =
    sum_by-append (λ m. cond (is_none (files m)) 1 0) (n ∷ []) names
    ∙ ap (λ k. k + count_by (λ m. is_none (files m)) names) (zero-add (cond (is_none (files n)) 1 0))

first-misses : (files : Files) (name n : List ℕ) (names : List (List ℕ)) → n ≡ name
    → (count_by (λ k. is_none (files k)) (n ∷ []) ≡ 0 → Misses files (name ∷ names))
    → Misses files (name ∷ names)
first-misses files name n names same there = go (files n) refl where
  go : (o : Option (List ℕ)) → files n ≡ o → Misses files (name ∷ names)
  go None e = inl (ap files (sym same) ∙ e)
  go (Some bytes) e = there (count-front files n [] ∙ ap (λ o. cond (is_none o) 1 0 + 0) e)

in_order-misses : (files : Files) (names begun : List (List ℕ)) → AreInOrder (Some files) names begun
    → 0 < count_by (λ n. is_none (files n)) begun → Misses files names
in_order-misses files names [] order more = absurd (omega (arith, more))
in_order-misses files [] (n ∷ begun) order more = absurd order
in_order-misses files (name ∷ names) (n ∷ []) same more =
    first-misses files name n names same (λ none. absurd (omega (arith, more, none)))
in_order-misses files (name ∷ names) (n ∷ m ∷ begun) (same, is, order) more =
    let below : 0 < count_by (λ k. is_none (files k)) (m ∷ begun) → Misses files names =
    in_order-misses files names (m ∷ begun) order in
    first-misses files name n names same (λ none.
    let alone : count_by (λ k. is_none (files k)) (n ∷ []) ≡ cond (is_none (files n)) 1 0 + 0 =
    count-front files n [] in
    let all : count_by (λ k. is_none (files k)) (n ∷ m ∷ begun)
    ≡ cond (is_none (files n)) 1 0 + count_by (λ k. is_none (files k)) (m ∷ begun) =
    count-front files n (m ∷ begun) in
    inr (is, below (omega (arith, more, none, alone, all))))

-- where the count of faults is that of names that aren't there, it rises only by such a name
pub rose-misses : (files : Files) (names before after : List (List ℕ)) (faults later : ℕ)
    → BeginsInOrder (Some files) names before after → CountsMisses (Some files) before faults
    → CountsMisses (Some files) after later → faults < last_count → Rose faults later → Misses files names
rose-misses files names before after faults later (begun, is, order) counts counts' below rose =
    let all : count_by (λ n. is_none (files n)) after
    ≡ count_by (λ n. is_none (files n)) before + count_by (λ n. is_none (files n)) begun =
    ap (count_by (λ n. is_none (files n))) is
    ∙ sum_by-append (λ n. cond (is_none (files n)) 1 0) before begun in
    in_order-misses files names begun order (omega (arith, counts, counts', below, rose, all))
