-- What a field of an entry asks is what its value asks: types, values, and counts.
use Rattle.std.proofs.Common.{◌≡◌, ℕ, suc, pos, negsuc, int_le, List, [], ◌∷◌, ◌++◌, map, ◌&&◌, nat_le, Some, None, refl, ap, sym, ◌∙◌}
use Rattle.std.specs.List.{AllByRecursion}
use Rattle.std.proofs.lemmas.Option.{none-some}
use Rattle.documents.specs.Tests.{some, same_word}
use Rattle.documents.specs.Json as J
use Rattle.documents.specs.Document as D
use Rattle.documents.specs.Measures.{same_document, same_items, same_members}
use Rattle.schemas.specs.Places.{Pointer, index_token}
use Rattle.schemas.specs.Fault.{Rules, first_not_whole, not_whole_among, not_whole_in, held_fault, count_fault, value_fault, values_fault, NotWhole, Negative}
use Rattle.schemas.specs.Entries.{document_of, items_of, members_of, listed, whole, natural}
use Rattle.schema_laws.proofs.Faultless.{neither}
use Rattle.draft06.specs.Equality.{is_equal, are_equal, have_equal}
use Rattle.draft06_laws.proofs.Lists.{both, some_same, some-map}
use Rattle.list_laws.proofs.Options.{option_map-None}

-- ---- values of `const` and `enum`, which have whole numbers alone

mutual
  pub is_equal-document_of : (p : Pointer) (v : J.Json) (K : D.Document) → first_not_whole p v ≡ None
      → same_document (document_of v) K ≡ is_equal v K
  is_equal-document_of p J.null D.null h = refl
  is_equal-document_of p J.null _ h = refl
  is_equal-document_of p (J.boolean b) (D.boolean c) h = refl
  is_equal-document_of p (J.boolean b) _ h = refl
  is_equal-document_of p (J.number n) (D.number m) h = refl
  is_equal-document_of p (J.number n) _ h = refl
  is_equal-document_of p J.not_whole K h = absurd (none-some p (sym h))
  is_equal-document_of p (J.string w) (D.string x) h = refl
  is_equal-document_of p (J.string w) _ h = refl
  is_equal-document_of p (J.array vs) (D.array ds) h = are_equal-items_of p 0 vs ds h
  is_equal-document_of p (J.array vs) _ h = refl
  is_equal-document_of p (J.object ms) (D.object ns) h = have_equal-members_of p ms ns h
  is_equal-document_of p (J.object ms) _ h = refl

  are_equal-items_of : (p : Pointer) (i : ℕ) (vs : J.Items) (ds : D.Items) → not_whole_among p i vs ≡ None
      → same_items (items_of vs) ds ≡ are_equal vs ds
  are_equal-items_of p i J.no_items D.no_items h = refl
  are_equal-items_of p i J.no_items (D.item d ds) h = refl
  are_equal-items_of p i (J.item v vs) D.no_items h = refl
  are_equal-items_of p i (J.item v vs) (D.item d ds) h =
      let parts = neither (first_not_whole (p ++ index_token i ∷ []) v) (not_whole_among p (suc i) vs) h in
      both (is_equal-document_of (p ++ index_token i ∷ []) v d parts.0) (are_equal-items_of p (suc i) vs ds parts.1)

  have_equal-members_of : (p : Pointer) (ms : J.Members) (ns : D.Members) → not_whole_in p ms ≡ None
      → same_members (members_of ms) ns ≡ have_equal ms ns
  have_equal-members_of p J.no_members D.no_members h = refl
  have_equal-members_of p J.no_members (D.member l d ns) h = refl
  have_equal-members_of p (J.member k v ms) D.no_members h = refl
  have_equal-members_of p (J.member k v ms) (D.member l d ns) h =
      let parts = neither (first_not_whole (p ++ k ∷ []) v) (not_whole_in p ms) h in
      both (ap (λ b. same_word k l && b) (is_equal-document_of (p ++ k ∷ []) v d parts.0))
      (have_equal-members_of p ms ns parts.1)

equal_among : (p : Pointer) (i : ℕ) (vs : J.Items) (K : D.Document) → not_whole_among p i vs ≡ None
    → AllByRecursion (λ v. same_document (document_of v) K ≡ is_equal v K) (J.elements vs)
equal_among p i J.no_items K h = tt
equal_among p i (J.item v vs) K h =
    let parts = neither (first_not_whole (p ++ index_token i ∷ []) v) (not_whole_among p (suc i) vs) h in
    (is_equal-document_of (p ++ index_token i ∷ []) v K parts.0, equal_among p (suc i) vs K parts.1)

module _ {P R : Type 0} (rules : Rules P R) (k : List ℕ) (p : Pointer) (K : D.Document) where
  -- a value that is read as a document equals a document exactly where the JSON value does
  pub value_same : (v : J.Json) → value_fault rules p v ≡ None → same_document (document_of v) K ≡ is_equal v K
  value_same v h = is_equal-document_of p v K (option_map-None NotWhole (first_not_whole p v) h)

  pub values_same : (v : J.Json) → values_fault rules k p v ≡ None
      → some (λ d. same_document d K) (map document_of (listed v)) ≡ some (λ w. is_equal w K) (listed v)
  values_same (J.array vs) h =
      some-map (λ d. same_document d K) document_of (J.elements vs)
      ∙ some_same (λ v. same_document (document_of v) K) (λ w. is_equal w K) (J.elements vs)
      (equal_among p 0 vs K (option_map-None NotWhole (first_not_whole p (J.array vs)) h))
  values_same _ h = refl

-- ---- counts, which are not below 0

module _ {P R : Type 0} (rules : Rules P R) (k : List ℕ) (p : Pointer) where
  pub at_most_count : (l : ℕ) (v : J.Json) → count_fault rules k p v ≡ None
      → nat_le l (natural v) ≡ int_le (pos l) (whole v)
  at_most_count l (J.number (pos n)) h = refl
  at_most_count l (J.number (negsuc n)) h =
      let parts = neither (held_fault rules p (negsuc n)) (Some (Negative p)) h in absurd (none-some _ (sym parts.1))
  at_most_count l J.not_whole h = absurd (none-some _ (sym h))
  at_most_count l _ h = absurd (none-some _ (sym h))

  pub at_least_count : (l : ℕ) (v : J.Json) → count_fault rules k p v ≡ None
      → nat_le (natural v) l ≡ int_le (whole v) (pos l)
  at_least_count l (J.number (pos n)) h = refl
  at_least_count l (J.number (negsuc n)) h =
      let parts = neither (held_fault rules p (negsuc n)) (Some (Negative p)) h in absurd (none-some _ (sym parts.1))
  at_least_count l J.not_whole h = absurd (none-some _ (sym h))
  at_least_count l _ h = absurd (none-some _ (sym h))
