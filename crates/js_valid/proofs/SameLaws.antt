-- Equality of documents, by the test and by identity.
use Rattle.std.proofs.Common.{◌≡◌, ℕ, List, Bool, true, false, refl, sym, ap, ◌∙◌, IsTrue, ◌↔◌, Option, Some, None, is_some, option_map}
use Rattle.documents.specs.Tests.{same_word}
use Rattle.documents.specs.Document.{Document, Members, no_members, member, entries, lookup}
use Rattle.documents.specs.Measures.{same_document, has_name}
use Rattle.list_laws.proofs.Booleans.{same_test}
use Rattle.draft06_laws.proofs.DocumentEquality.{same_document-eq, same_document-refl}

-- a decision of equality is the definition's test
pub same-decided : (b : Bool) (d e : Document) → IsTrue b ↔ (d ≡ e) → b ≡ same_document d e
same-decided b d e h =
    same_test b (same_document d e) (λ k. ap (same_document d) (sym (h.0 k)) ∙ same_document-refl d)
    (λ k. h.1 (same_document-eq d e k))

pub has_name-lookup : (w : List ℕ) (ms : Members) → has_name w (entries ms) ≡ is_some (lookup w ms)
has_name-lookup w no_members = refl
has_name-lookup w (member k d ms) = go (same_word w k) refl (has_name-lookup w ms)
  where
    go : (b : Bool) → same_word w k ≡ b → has_name w (entries ms) ≡ is_some (lookup w ms)
        → has_name w (entries (member k d ms)) ≡ is_some (lookup w (member k d ms))
    go true e h = rw e refl
    go false e h = rw e h

pub is_some-mapped : {A B : Type 0} (f : A → B) (o : Option A) → is_some o ≡ is_some (option_map f o)
is_some-mapped f None = refl
is_some-mapped f (Some x) = refl
