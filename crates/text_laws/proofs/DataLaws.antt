-- A document as data: its value, what is written for it, and how deep it nests.
use Rattle.std.proofs.Common.{◌≡◌, suc, max, pos, negsuc, List, ℕ, [], ◌∷◌, ◌++◌, flat_map, true, false, ◌&&◌, encode_utf8_all, refl, sym, ap, ap₂, ◌∙◌, append_assoc}
use Rattle.std.proofs.lemmas.Bool.{and_parts}
use Rattle.json.specs.Print.{quoted}
use Rattle.json.specs.Tree as tree
use Rattle.serde_json.specs.Written.{outline, items_outline, members_outline, compact_text, items_text, members_text}
use Rattle.documents.specs.Tests.{every, is_scalar}
use Rattle.documents.specs.Document as D
use Rattle.documents.specs.Json as J
use Rattle.document_texts.specs.Scalars.{string_text}
use Rattle.document_texts.specs.DocumentText.{document_text, item_texts, member_texts}
use Rattle.document_text_laws.proofs.StringLaws.{chars-text}
use Rattle.js_json.specs.Documents.{json_of_document, json_of_items, json_of_members}
use Rattle.js_json.specs.Value.{json_of, json_items, json_members}
use Rattle.js_text.proofs.StringLemmas.{string-quoted}
use Rattle.text_laws.specs.DocumentData.{data_of, data_items, data_members}

-- ---- the tests of a member

pub record Member (k : List ℕ) (d : D.Document) (ms : D.Members) : Type 0 where
  pub name : every is_scalar k ≡ true
  pub value : D.is_document d ≡ true
  pub before : D.is_before k ms ≡ true
  pub others : D.are_members ms ≡ true

pub member_tests : (k : List ℕ) (d : D.Document) (ms : D.Members) → D.are_members (D.member k d ms) ≡ true
    → Member k d ms
member_tests k d ms h =
    let four = and_parts (every is_scalar k && D.is_document d && D.is_before k ms) (D.are_members ms) h in
    let three = and_parts (every is_scalar k && D.is_document d) (D.is_before k ms) four.0 in
    let two = and_parts (every is_scalar k) (D.is_document d) three.0 in
    record { name = two.0; value = two.1; before = three.1; others = four.1 }

-- ---- the value of a document's data

mutual
  pub json_of-data_of : (d : D.Document) → D.is_document d ≡ true → json_of (data_of d) ≡ json_of_document d
  json_of-data_of D.null h = refl
  json_of-data_of (D.boolean b) h = refl
  json_of-data_of (D.number (pos n)) h = refl
  json_of-data_of (D.number (negsuc n)) h = refl
  json_of-data_of (D.string s) h = ap J.string (chars-text s h)
  json_of-data_of (D.array ds) h = ap J.array (json_items-data_items ds h)
  json_of-data_of (D.object ms) h = ap J.object (json_members-data_members ms h)

  json_items-data_items : (ds : D.Items) → D.are_documents ds ≡ true → json_items (data_items ds) ≡ json_of_items ds
  json_items-data_items D.no_items h = refl
  json_items-data_items (D.item d ds) h =
      let both = and_parts (D.is_document d) (D.are_documents ds) h in
      ap₂ J.item (json_of-data_of d both.0) (json_items-data_items ds both.1)

  json_members-data_members : (ms : D.Members) → D.are_members ms ≡ true
      → json_members (data_members ms) ≡ json_of_members ms
  json_members-data_members D.no_members h = refl
  json_members-data_members (D.member k d ms) h =
      let tests = member_tests k d ms h in
      ap (λ n. J.member n (json_of (data_of d)) (json_members (data_members ms))) (chars-text k tests.name)
      ∙ ap₂ (J.member k) (json_of-data_of d tests.value) (json_members-data_members ms tests.others)

-- ---- what is written for it

commas : (x : List ℕ) (xs : List (List ℕ)) (close : List ℕ)
    → x ++ (flat_map (λ y. 44 ∷ y) xs ++ close) ≡ (x ++ flat_map (λ y. 44 ∷ y) xs) ++ close
commas x xs close = sym (append_assoc x (flat_map (λ y. 44 ∷ y) xs) close)

member_text : (k : List ℕ) (d : D.Document) (more later : List ℕ) → compact_text (data_of d) ≡ document_text d
    → more ≡ later
    → quoted (encode_utf8_all k) ++ 58 ∷ (compact_text (data_of d) ++ more)
    ≡ (string_text k ++ 58 ∷ document_text d) ++ later
member_text k d more later value rest =
    ap₂ (λ x y. x ++ 58 ∷ y) (string-quoted k) (ap₂ (λ x y. x ++ y) value rest)
    ∙ sym (append_assoc (string_text k) (58 ∷ document_text d) later)

mutual
  -- what is written of a document's data is the document's text
  pub compact_text-data_of : (d : D.Document) → compact_text (data_of d) ≡ document_text d
  compact_text-data_of D.null = refl
  compact_text-data_of (D.boolean true) = refl
  compact_text-data_of (D.boolean false) = refl
  compact_text-data_of (D.number (pos n)) = refl
  compact_text-data_of (D.number (negsuc n)) = refl
  compact_text-data_of (D.string s) = string-quoted s
  compact_text-data_of (D.array D.no_items) = refl
  compact_text-data_of (D.array (D.item d ds)) =
      ap (λ t. 91 ∷ t)
      (ap₂ (λ x y. x ++ y) (compact_text-data_of d) (items_text-later ds)
      ∙ commas (document_text d) (item_texts ds) (93 ∷ []))
  compact_text-data_of (D.object D.no_members) = refl
  compact_text-data_of (D.object (D.member k d ms)) =
      ap (λ t. 123 ∷ t)
      (member_text k d (members_text true (data_members ms))
      (flat_map (λ y. 44 ∷ y) (member_texts ms) ++ 125 ∷ []) (compact_text-data_of d) (members_text-later ms)
      ∙ commas (string_text k ++ 58 ∷ document_text d) (member_texts ms) (125 ∷ []))

  items_text-later : (ds : D.Items)
      → items_text true (data_items ds) ≡ flat_map (λ y. 44 ∷ y) (item_texts ds) ++ 93 ∷ []
  items_text-later D.no_items = refl
  items_text-later (D.item d ds) =
      ap (λ t. 44 ∷ t)
      (ap₂ (λ x y. x ++ y) (compact_text-data_of d) (items_text-later ds)
      ∙ commas (document_text d) (item_texts ds) (93 ∷ []))

  members_text-later : (ms : D.Members)
      → members_text true (data_members ms) ≡ flat_map (λ y. 44 ∷ y) (member_texts ms) ++ 125 ∷ []
  members_text-later D.no_members = refl
  members_text-later (D.member k d ms) =
      ap (λ t. 44 ∷ t)
      (member_text k d (members_text true (data_members ms))
      (flat_map (λ y. 44 ∷ y) (member_texts ms) ++ 125 ∷ []) (compact_text-data_of d) (members_text-later ms)
      ∙ commas (string_text k ++ 58 ∷ document_text d) (member_texts ms) (125 ∷ []))

-- ---- the depth of a document's data

mutual
  pub depth-data_of : (d : D.Document) → tree.depth (outline (data_of d)) ≡ D.depth d
  depth-data_of D.null = refl
  depth-data_of (D.boolean b) = refl
  depth-data_of (D.number n) = refl
  depth-data_of (D.string s) = refl
  depth-data_of (D.array ds) = ap suc (depth-data_items ds)
  depth-data_of (D.object ms) = ap suc (depth-data_members ms)

  depth-data_items : (ds : D.Items) → tree.items_depth (items_outline (data_items ds)) ≡ D.items_depth ds
  depth-data_items D.no_items = refl
  depth-data_items (D.item d ds) = ap₂ max (depth-data_of d) (depth-data_items ds)

  depth-data_members : (ms : D.Members) → tree.members_depth (members_outline (data_members ms)) ≡ D.members_depth ms
  depth-data_members D.no_members = refl
  depth-data_members (D.member k d ms) = ap₂ max (depth-data_of d) (depth-data_members ms)
