-- The text of a document: compact JSON, its members in ascending order of their names.
use Rattle.std.specs.Prelude.{ℕ, List, [], ◌∷◌, ◌++◌, codes}
use Rattle.std.specs.Fmt.{signed_decimal}
use Rattle.documents.specs.Document.{Document, null, boolean, number, string, array, object, Items, no_items, item, Members, no_members, member}
use Rattle.document_texts.specs.Scalars.{string_text, truth_text, enclosed}

abbrev mutual
  pub document_text : Document → List ℕ
  document_text null = codes "null"
  document_text (boolean b) = truth_text b
  document_text (number n) = signed_decimal n
  document_text (string s) = string_text s
  document_text (array ds) = enclosed 91 (item_texts ds) 93
  document_text (object ms) = enclosed 123 (member_texts ms) 125

  pub item_texts : Items → List (List ℕ)
  item_texts no_items = []
  item_texts (item d ds) = document_text d ∷ item_texts ds

  pub member_texts : Members → List (List ℕ)
  member_texts no_members = []
  member_texts (member k d ms) = (string_text k ++ 58 ∷ document_text d) ∷ member_texts ms
