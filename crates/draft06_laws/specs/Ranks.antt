-- Ranks of the entries of a table that fall along in-place edges.
use Rattle.std.specs.Prelude.{ℕ, ◌<◌, List, length}
use Rattle.std.specs.List.{AllByRecursion}
use Rattle.schemas.specs.Entry.{Entry}
use Rattle.schemas.specs.Schema.{in_place}
use Rattle.draft06.specs.EntryValidity.{form_at}

-- each entry has a rank below the number of entries, and the entries that it names in place have lesser ones
pub record FallInPlace (es : List Entry) (rank : ℕ → ℕ) : Type 0 where
  pub bounded : (e : ℕ) → e < length es → rank e < length es
  pub falls : (e : ℕ) → e < length es → AllByRecursion (λ q. rank q < rank e) (in_place (form_at es e))
