-- What the core table of a schema means: position 0 holds of the documents that are valid for the schema's root.
use Rattle.std.proofs.Common.{◌≡◌, ℕ, ◌<◌, ◌^◌, List, length, get_or, true, arith}
use Rattle.documents.specs.Document.{Document, is_document}
use Rattle.patterns.specs.Tree.{Tree}
use Rattle.patterns.specs.Decision.{finds}
use Rattle.schemas.specs.Entry.{Entry}
use Rattle.schemas.specs.Schema.{is_table}
use Rattle.schemas.specs.Guarded.{edges, are_ranks}
use Rattle.draft06.specs.EntryValidity.{entry_valid}
use Rattle.draft06_laws.proofs.RankLaws.{fall_in_place}
use Rattle.positions.specs.Holds.{holds, IsTable}
use Rattle.position_laws.proofs.Asks.{holds-asks}
use Rattle.position_laws.proofs.Tables.{is_table-IsTable}
use Rattle.normal_forms.specs.NormalForm.{table_of, ranks_of}
use Rattle.normal_laws.proofs.NormalLaw.{holds-valid}
use Rattle.normal_laws.proofs.TableLaw.{is_table-normal, more_positions}

-- the position of an entry holds of the documents that are valid for the entry
pub normal-valid : (tree_of : List ℕ → Tree) (es : List Entry) → is_table es ≡ true → (ranks : List ℕ)
    → are_ranks (edges es) ranks ≡ true → length (table_of tree_of es) < 2 ^ 32 → (e : ℕ) (J : Document) → e < length es
    → is_document J ≡ true → holds (table_of tree_of es) e J ≡ entry_valid (λ t. finds (tree_of t)) es e J
normal-valid tree_of es table ranks are few e J l d =
    let some = more_positions tree_of es table ranks are few in
    let tables : IsTable (table_of tree_of es) =
    is_table-IsTable (table_of tree_of es) (ranks_of tree_of es ranks) (is_table-normal tree_of es table ranks are few)
    (omega (arith, some, l)) in
    holds-valid tree_of es table (λ q. get_or ranks q 0) (fall_in_place es ranks are) (holds (table_of tree_of es))
    (holds-asks (table_of tree_of es) tables) e J l d
