-- The documents that are valid for a value are those that are valid for the entries that it is read as, and those of
-- which position 0 of their table holds.
use Rattle.std.proofs.Common.{◌≡◌, ℕ, ◌<◌, ◌^◌, List, length, get_or, true, Option, Some, None, Ok, refl, sym, ap, subst, ◌∙◌}
use Rattle.documents.specs.Document.{Document, is_document}
use Rattle.documents.specs.Json.{Json}
use Rattle.schemas.specs.Fault.{Fault}
use Rattle.schemas.specs.Entry.{Entry}
use Rattle.schemas.specs.Walk.{places}
use Rattle.schemas.specs.Reading.{first_fault}
use Rattle.schemas.specs.Entries.{entries_at, entries_or, read}
use Rattle.schemas.specs.Schema.{is_table}
use Rattle.schemas.specs.Guarded.{edges, are_ranks}
use Rattle.schema_laws.proofs.TableLaws.{is_table-length}
use Rattle.draft06.specs.Matching.{finds_text}
use Rattle.draft06.specs.EntryValidity.{entry_valid}
use Rattle.draft06.specs.Validity.{valid}
use Rattle.draft06_laws.proofs.RankLaws.{fall_in_place}
use Rattle.draft06_laws.proofs.ValidityLaws.{entry_valid-valid}
use Rattle.positions.specs.Holds.{holds}
use Rattle.normal_laws.proofs.Meaning.{normal-valid}
use Rattle.js_json.specs.declared.fault.RefFault.{RefFault}
use Rattle.js_pattern.specs.declared.fault.PatternFault.{PatternFault}
use Rattle.js_keywords.specs.Reading.{rules}
use Rattle.js_reader.proofs.Soundness.{rules_sound, is_table-read}
use Rattle.js_normal.specs.PatternTrees.{tree_of}
use Rattle.js_inclusion.specs.Comparison.{core_of}
use Rattle.js_inclusion.specs.Meaning.{IsReadAs}
use Rattle.js_inclusion.proofs.Finds.{finds-tree_of}

read-parts : (root : Json) (es : List Entry) → read rules root ≡ Ok es
    → (first_fault rules root ≡ None) × (entries_at rules root (places rules root) ≡ es)
read-parts root es h = go (first_fault rules root) refl h where
  go : (o : Option (Fault PatternFault RefFault)) → first_fault rules root ≡ o → entries_or rules root o ≡ Ok es
      → (first_fault rules root ≡ None) × (entries_at rules root (places rules root) ≡ es)
  go None e h = (e, cc)
  go (Some f) e h = cc

module _ (root : Json) (es : List Entry) (is : IsReadAs root es) where
  -- they are a table of a schema
  pub read-table : is_table es ≡ true
  read-table =
      let parts = read-parts root es is.entries in
      subst (λ fs. is_table fs ≡ true) parts.1 (is_table-read root is.well_formed parts.0)

  module _ (ranks : List ℕ) (are : are_ranks (edges es) ranks ≡ true) where
    pub entry_valid-read : (J : Document) → entry_valid (finds_text rules) es 0 J ≡ valid rules root J
    entry_valid-read J =
        let parts = read-parts root es is.entries in
        ap (λ fs. entry_valid (finds_text rules) fs 0 J) (sym parts.1)
        ∙ entry_valid-valid rules root (rules_sound root is.well_formed) parts.0 (λ e. get_or ranks e 0)
        (fall_in_place (entries_at rules root (places rules root)) ranks
        (subst (λ fs. are_ranks (edges fs) ranks ≡ true) (sym parts.1) are)) J

    -- position 0 of the core table holds of the documents that are valid for the value
    pub holds-read : length (core_of es) < 2 ^ 32 → (J : Document) → is_document J ≡ true
        → holds (core_of es) 0 J ≡ valid rules root J
    holds-read few J document =
        normal-valid tree_of es read-table ranks are few 0 J (is_table-length es read-table).0 document
        ∙ ap (λ m. entry_valid m es 0 J) finds-tree_of ∙ entry_valid-read J
