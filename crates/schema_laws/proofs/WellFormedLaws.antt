-- Each value in a value that is well formed is well formed too, and what is made of it is what documents, words and
-- names are.
use Rattle.std.proofs.Common.{◌≡◌, ℕ, suc, List, [], ◌∷◌, ◌++◌, map, inl, inr, ⊎_elim, true, ◌&&◌, refl, ap, ◌∙◌}
use Rattle.std.proofs.lemmas.Bool.{and_parts, and_from}
use Rattle.documents.specs.Tests.{every, is_scalar, comes_before}
use Rattle.documents.specs.Document as D
use Rattle.documents.specs.Json.{Json, string, array, object, Items, no_items, item, Members, no_members, member, elements, entries}
use Rattle.documents.specs.WellFormed.{is_before, is_json, are_items, are_members}
use Rattle.documents.proofs.Parts.{member_parts}
use Rattle.schemas.specs.Places.{Pointer, Place, index_token}
use Rattle.schemas.specs.Entries.{document_of, items_of, members_of, word, listed}
use Rattle.schemas.specs.Schema.{is_word, is_ascending, are_keys}
use Rattle.list_laws.specs.In.{IsIn}
use Rattle.schema_laws.specs.Values.{inside, of_items, of_members, values_from}
use Rattle.list_laws.proofs.Lists.{from_append}

mutual
  inside_well_formed : (p : Pointer) (v : Json) (c : Place) → is_json v ≡ true → IsIn c (inside p v)
      → is_json c.1 ≡ true
  inside_well_formed p (array vs) c h i = items_well_formed p 0 vs c h i
  inside_well_formed p (object ms) c h i = members_well_formed p ms c h i
  inside_well_formed p _ c h i = absurd i

  items_well_formed : (p : Pointer) (n : ℕ) (vs : Items) (c : Place) → are_items vs ≡ true → IsIn c (of_items p n vs)
      → is_json c.1 ≡ true
  items_well_formed p n no_items c h i = absurd i
  items_well_formed p n (item v vs) c h (inl e) =
      let both = and_parts (is_json v) (are_items vs) h in ap (λ z. is_json z.1) e ∙ both.0
  items_well_formed p n (item v vs) c h (inr i) =
      let both = and_parts (is_json v) (are_items vs) h in ⊎_elim
      (λ l. inside_well_formed (p ++ index_token n ∷ []) v c both.0 l)
      (λ r. items_well_formed p (suc n) vs c both.1 r)
      (from_append c (inside (p ++ index_token n ∷ []) v) (of_items p (suc n) vs) i)

  members_well_formed : (p : Pointer) (ms : Members) (c : Place) → are_members ms ≡ true → IsIn c (of_members p ms)
      → is_json c.1 ≡ true
  members_well_formed p no_members c h i = absurd i
  members_well_formed p (member k v ms) c h (inl e) =
      let parts = member_parts k v ms h in ap (λ z. is_json z.1) e ∙ parts.value
  members_well_formed p (member k v ms) c h (inr i) =
      let parts = member_parts k v ms h in ⊎_elim
      (λ l. inside_well_formed (p ++ k ∷ []) v c parts.value l)
      (λ r. members_well_formed p ms c parts.others r)
      (from_append c (inside (p ++ k ∷ []) v) (of_members p ms) i)

pub values_well_formed : (p : Pointer) (v : Json) (c : Place) → is_json v ≡ true → IsIn c (values_from p v)
    → is_json c.1 ≡ true
values_well_formed p v c h (inl e) = ap (λ z. is_json z.1) e ∙ h
values_well_formed p v c h (inr i) = inside_well_formed p v c h i

-- ---- documents and words

is_before-members_of : (k : List ℕ) (ms : Members) → is_before k ms ≡ true → D.is_before k (members_of ms) ≡ true
is_before-members_of k no_members h = refl
is_before-members_of k (member l v ms) h = h

mutual
  -- a well-formed value is read as a document
  pub is_document-document_of : (v : Json) → is_json v ≡ true → D.is_document (document_of v) ≡ true
  is_document-document_of (string s) h = h
  is_document-document_of (array vs) h = are_documents-items_of vs h
  is_document-document_of (object ms) h = are_members-members_of ms h
  is_document-document_of _ h = refl

  are_documents-items_of : (vs : Items) → are_items vs ≡ true → D.are_documents (items_of vs) ≡ true
  are_documents-items_of no_items h = refl
  are_documents-items_of (item v vs) h =
      let both = and_parts (is_json v) (are_items vs) h in
      and_from (D.is_document (document_of v)) (D.are_documents (items_of vs)) (is_document-document_of v both.0)
      (are_documents-items_of vs both.1)

  are_members-members_of : (ms : Members) → are_members ms ≡ true → D.are_members (members_of ms) ≡ true
  are_members-members_of no_members h = refl
  are_members-members_of (member k v ms) h =
      let parts = member_parts k v ms h in
      and_from (every is_scalar k && D.is_document (document_of v) && D.is_before k (members_of ms))
      (D.are_members (members_of ms))
      (and_from (every is_scalar k && D.is_document (document_of v)) (D.is_before k (members_of ms))
      (and_from (every is_scalar k) (D.is_document (document_of v)) parts.name (is_document-document_of v parts.value))
      (is_before-members_of k ms parts.before))
      (are_members-members_of ms parts.others)

documents_of : (vs : Items) → are_items vs ≡ true → every D.is_document (map document_of (elements vs)) ≡ true
documents_of no_items h = refl
documents_of (item v vs) h =
    let both = and_parts (is_json v) (are_items vs) h in
    and_from (D.is_document (document_of v)) (every D.is_document (map document_of (elements vs)))
    (is_document-document_of v both.0) (documents_of vs both.1)

pub documents_listed : (v : Json) → is_json v ≡ true → every D.is_document (map document_of (listed v)) ≡ true
documents_listed (array vs) h = documents_of vs h
documents_listed _ h = refl

pub is_word-word : (v : Json) → is_json v ≡ true → is_word (word v) ≡ true
is_word-word (string s) h = h
is_word-word _ h = refl

pub words_of : (vs : Items) → are_items vs ≡ true → every is_word (map word (elements vs)) ≡ true
words_of no_items h = refl
words_of (item v vs) h =
    let both = and_parts (is_json v) (are_items vs) h in
    and_from (is_word (word v)) (every is_word (map word (elements vs))) (is_word-word v both.0) (words_of vs both.1)

pub words_listed : (v : Json) → is_json v ≡ true → every is_word (map word (listed v)) ≡ true
words_listed (array vs) h = words_of vs h
words_listed _ h = refl

-- ---- names with what they have

module _ {A : Type 0} (make : List ℕ × Json → A) where
  abbrev named : Members → List (List ℕ × A)
  named ms = map (λ m. (m.0, make m)) (entries ms)

  names_words : (ms : Members) → are_members ms ≡ true → every (λ n. is_word n.0) (named ms) ≡ true
  names_words no_members h = refl
  names_words (member k v ms) h =
      let parts = member_parts k v ms h in
      and_from (is_word k) (every (λ n. is_word n.0) (named ms)) parts.name (names_words ms parts.others)

  names_ascend : (ms : Members) → are_members ms ≡ true → is_ascending (map (λ n. n.0) (named ms)) ≡ true
  names_ascend no_members h = refl
  names_ascend (member k v no_members) h = refl
  names_ascend (member k v (member l w ms)) h =
      let parts = member_parts k v (member l w ms) h in
      and_from (comes_before k l) (is_ascending (map (λ n. n.0) (named (member l w ms)))) parts.before
      (names_ascend (member l w ms) parts.others)

  pub are_keys-named : (ms : Members) → are_members ms ≡ true → are_keys (named ms) ≡ true
  are_keys-named ms h =
      and_from (every (λ n. is_word n.0) (named ms)) (is_ascending (map (λ n. n.0) (named ms))) (names_words ms h)
      (names_ascend ms h)
