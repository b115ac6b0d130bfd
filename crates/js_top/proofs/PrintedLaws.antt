-- What is printed of a document that was found is read back as that document.
use Rattle.std.proofs.Common.{◌≡◌, inl, inr, ℕ, suc, ◌≤◌, List, [], ◌∷◌, ◌++◌, length, Bool, true, false, ◌&&◌, cond, min, nat_le, refl, arith}
use Rattle.std.proofs.lemmas.Bool.{and_parts, leb-true}
use Rattle.documents.specs.Document.{is_document, depth}
use Rattle.shared_documents.specs.Part.{Part}
use Rattle.shared_documents.specs.Unshared.{unshared}
use Rattle.document_texts.specs.DocumentText.{document_text}
use Rattle.document_texts.specs.Measured.{measured}
use Rattle.document_texts.specs.FoundText.{is_plain_text, plain_text, found_text}
use Rattle.document_texts.specs.PartsText.{parts_text}
use Rattle.document_texts.specs.PartsRead.{IsRead}
use Rattle.text_laws.proofs.TextLaws.{value_of-line}
use Rattle.js_top.specs.Printed.{IsDocumentText}

module _ (ps : List Part) (i : ℕ) (last : suc i ≡ length ps) (document : is_document (unshared ps i) ≡ true)
    (read : IsRead ps (parts_text ps)) where
  abbrev of_test : Bool → List ℕ
  of_test b = cond b (plain_text (document_text (unshared ps i))) (parts_text ps)

  read-test : (b : Bool) → is_plain_text (measured (unshared ps i)) ≡ b → IsDocumentText (of_test b) (unshared ps i)
  read-test true e =
      let (front, short) = and_parts (nat_le (measured (unshared ps i)).depth 120
      && nat_le (measured (unshared ps i)).length 16777216) (measured (unshared ps i)).short_numbers e in
      let (deep, long) = and_parts (nat_le (measured (unshared ps i)).depth 120)
      (nat_le (measured (unshared ps i)).length 16777216) front in
      let shallow : depth (unshared ps i) ≤ 127 =
      omega (arith, leb-true (min (depth (unshared ps i)) 4294967295) 120 deep) in
      inl (record {
        rest = document_text (unshared ps i) ++ 10 ∷ [];
        line = refl;
        value = value_of-line (unshared ps i) document short shallow;
      })
  read-test false e = inr (record { parts = ps; read = read; number = i; last = last; is = refl })

  -- what is printed of the document of part i is a text of that document
  pub IsDocumentText-found : IsDocumentText (found_text ps i) (unshared ps i)
  IsDocumentText-found = read-test (is_plain_text (measured (unshared ps i))) refl
