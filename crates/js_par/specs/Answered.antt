-- What the answers to a list of items are.
use Rattle.std.specs.Prelude.{◌≡◌, ◌<◌, ℕ, List, Option, Some, length, slice_index_or}

module _ {I : Type 0} where
  -- each item is taken
  abbrev pub TakesAll : (I → Type 0) → List I → Type 0
  TakesAll takes items = (i : ℕ) (x : I) → i < length items → takes (slice_index_or items i x)

module _ {I A : Type 0} where
  -- the answer at each place is one to the item at that place
  abbrev pub Answered : (I → A → Type 0) → List I → List A → Type 0
  Answered gives items answers = (i : ℕ) (x : I) (a : A) → i < length items
      → gives (slice_index_or items i x) (slice_index_or answers i a)

  -- the slot holds an answer to the item at place i
  abbrev pub Filled : (I → A → Type 0) → List I → ℕ → Option A → Type 0
  Filled gives items i slot = (a : A) × (slot ≡ Some a) × ((x : I) → gives (slice_index_or items i x) a)

  -- each slot holds an answer to the item at its place
  abbrev pub AllFilled : (I → A → Type 0) → List I → List (Option A) → Type 0
  AllFilled gives items slots =
      (i : ℕ) (d : Option A) → i < length items → Filled gives items i (slice_index_or slots i d)
