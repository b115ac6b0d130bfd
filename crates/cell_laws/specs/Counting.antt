-- How many words of fewer than so many letters lead from a row into a cell, and that number cut at a bound.
use Rattle.std.specs.Prelude.{ℕ, zero, suc, ◌+◌, ◌*◌, min, List, Bool, cond}
use Rattle.cell_laws.specs.FirstWords.{count_of}

module _ (letters : List ℕ) (to : ℕ → ℕ → ℕ) (in_cell : ℕ → Bool) where
  -- words of fewer than m letters, uncut
  abbrev pub count : ℕ → ℕ → ℕ
  count zero r = 0
  count (suc m) r = count m r + count_of letters to in_cell m r

  -- the number of words, cut at a bound
  abbrev pub number : (bound m r : ℕ) → ℕ
  number bound m r = min bound (count m r)

-- f 0 + .. + f (n - 1)
abbrev pub sum_to : ℕ → (ℕ → ℕ) → ℕ
sum_to zero f = 0
sum_to (suc n) f = f n + sum_to n f

-- what the labels of its targets require of a row, by class and width
abbrev pub asked_by : (classes : ℕ) (width : ℕ → ℕ) (target : ℕ → ℕ → ℕ) (in_cell : ℕ → Bool) (label : ℕ → ℕ) (r : ℕ)
    → ℕ
asked_by classes width target in_cell label r =
    cond (in_cell r) 1 0 + sum_to classes (λ k. width k * label (target r k))

-- the cut number by recursion over rows and widths
abbrev pub number_by : (classes : ℕ) (width : ℕ → ℕ) (target : ℕ → ℕ → ℕ) (in_cell : ℕ → Bool) (bound m r : ℕ) → ℕ
number_by classes width target in_cell bound zero r = 0
number_by classes width target in_cell bound (suc m) r =
    min bound (asked_by classes width target in_cell (number_by classes width target in_cell bound m) r)
