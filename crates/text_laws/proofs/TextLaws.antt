-- The text of a document is read back as that document, with blanks behind it too.
use Rattle.std.proofs.Common.{◌≡◌, ℕ, ◌≤◌, List, [], ◌∷◌, ◌++◌, true, inr, Some, option_and_then, IsUtf8, refl, sym, ap, ◌∙◌, subst, append-nil}
use Rattle.std.proofs.lemmas.Str.{IsUtf8-append}
use Rattle.json.specs.Json as T
use Rattle.json.specs.Lex.{tokens}
use Rattle.json.specs.Spaced.{IsGap}
use Rattle.json.specs.Tree.{json_tokens}
use Rattle.json.proofs.Printed.Trees.{value-json_tokens, ArePrintable-json_tokens}
use Rattle.json.proofs.Printed.Utf8.{IsUtf8-IsGap}
use Rattle.serde_json.specs.Read.{read, of_json, max_depth}
use Rattle.serde_json.specs.Written.{outline}
use Rattle.serde_json.proofs.Texts.{print-outline}
use Rattle.documents.specs.Document.{Document, is_document, depth}
use Rattle.document_texts.specs.DocumentText.{document_text}
use Rattle.document_texts.specs.Measured.{has_short_numbers}
use Rattle.js_json.specs.Documents.{json_of_document}
use Rattle.js_json.specs.Value.{value_of}
use Rattle.js_json.proofs.ValueLemmas.{value_of_read}
use Rattle.text_laws.specs.DocumentData.{data_of}
use Rattle.text_laws.proofs.BlankLaws.{tokens-print-blanks}
use Rattle.text_laws.proofs.DataLaws.{json_of-data_of, compact_text-data_of, depth-data_of}
use Rattle.text_laws.proofs.OutlineLaws.{HasNumbers-data_of, of_json-data_of, IsUtf8-data_of}

module _ (d : Document) (is : is_document d ≡ true) (short : has_short_numbers d ≡ true) (r : List ℕ)
    (blank : IsGap r) where
  read_tokens : tokens (document_text d ++ r) ≡ json_tokens (outline (data_of d))
  read_tokens =
      ap (λ t. tokens (t ++ r)) (sym (print-outline (data_of d) ∙ compact_text-data_of d))
      ∙ tokens-print-blanks (json_tokens (outline (data_of d))) r
      (ArePrintable-json_tokens (outline (data_of d)) (HasNumbers-data_of d short)) blank

  read_data : depth d ≤ 127 → read (document_text d ++ r) ≡ Some (data_of d)
  read_data shallow =
      ap (λ o. option_and_then of_json (option_and_then (λ p. T.if_last p.0 p.1) o))
      (ap (T.value max_depth) (read_tokens ∙ sym (append-nil (json_tokens (outline (data_of d)))))
      ∙ value-json_tokens (outline (data_of d)) max_depth [] (subst (λ n. n ≤ 127) (sym (depth-data_of d)) shallow))
      ∙ of_json-data_of d is short

  -- spaces and line feeds may come behind it. `serde_json` reads 127 levels
  pub value_of-document_text : depth d ≤ 127 → value_of (document_text d ++ r) ≡ Some (json_of_document d)
  value_of-document_text shallow =
      value_of_read (document_text d ++ r) (data_of d) (json_of_document d)
      (IsUtf8-append (document_text d) r (subst IsUtf8 (compact_text-data_of d) (IsUtf8-data_of d is short))
      (IsUtf8-IsGap r blank))
      (read_data shallow) (sym (json_of-data_of d is))

-- the text alone
pub value_of-text : (d : Document) → is_document d ≡ true → has_short_numbers d ≡ true → depth d ≤ 127
    → value_of (document_text d) ≡ Some (json_of_document d)
value_of-text d is short shallow =
    ap value_of (sym (append-nil (document_text d))) ∙ value_of-document_text d is short [] tt shallow

-- and as the lines of a file have it, with a line feed behind it
pub value_of-line : (d : Document) → is_document d ≡ true → has_short_numbers d ≡ true → depth d ≤ 127
    → value_of (document_text d ++ 10 ∷ []) ≡ Some (json_of_document d)
value_of-line d is short shallow = value_of-document_text d is short (10 ∷ []) (inr refl, tt) shallow
