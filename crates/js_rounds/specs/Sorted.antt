-- A part of a list is put in order.
use Rattle.std.specs.Prelude.{◌≡◌, ℕ, List, ◌++◌, take, drop, length}
use Rattle.std.specs.List.Sorted.{IsPermutation, IsNonDecreasing}

-- from a place to another; what comes before it stays
pub record IsSorted (from to : ℕ) (xs ys : List ℕ) : Type 0 where
  pub same : length ys ≡ length xs
  pub before : take from ys ≡ take from xs
  pub part : List ℕ
  pub whole : take to ys ≡ take from xs ++ part
  pub moved : IsPermutation (drop from (take to xs)) part
  pub rises : IsNonDecreasing part
