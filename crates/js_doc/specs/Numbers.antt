-- Membership and ranks in a list of whole numbers.
use Rattle.std.specs.Prelude.{◌≡◌, ℕ, List, Bool, Option, Some, None, ℤ, int_lt, if◌then◌else◌}
use Rattle.std.specs.List.{list_any, count_by}
use Rattle.std.specs.List.Sorted.{IsSorted}
use Rattle.std.specs.Ordering.{int_cmp}
-- n is one of the values
pub use Rattle.documents.specs.Numbers.{has}

-- how many of the values are below n
abbrev pub count_below : List ℤ → ℤ → ℕ
count_below values n = count_by (λ y. int_lt y n) values

-- how many of the values are below n, where n is one of them
abbrev pub rank_of : List ℤ → ℤ → Option ℕ
rank_of values n = if has values n then Some (count_below values n) else None

-- the values in ascending order: as many pass each test
pub record IsSortedCopy (values sorted : List ℤ) : Type 0 where
  pub ascending : IsSorted int_cmp sorted
  pub same_count : (test : ℤ → Bool) → count_by test sorted ≡ count_by test values
  pub same_any : (test : ℤ → Bool) → list_any test sorted ≡ list_any test values
