-- Words that lead from a row of an automaton into a set of rows, and how many there are, cut at a bound.
use Rattle.std.specs.Prelude.{◌≡◌, ℕ, ◌+◌, ◌≤◌, ◌<◌, ◌⊎◌, List, [], ◌∷◌, Bool, true, cond, length}
use Rattle.list_laws.specs.In.{Distinct, IsIn}
use Rattle.list_laws.proofs.Counts.{sum_over}

abbrev pub AllIn : {A : Type 0} → List A → List A → Type 0
AllIn letters [] = Unit {0}
AllIn letters (c ∷ w) = IsIn c letters × AllIn letters w

abbrev pub walk : (ℕ → ℕ → ℕ) → ℕ → List ℕ → ℕ
walk to r [] = r
walk to r (c ∷ w) = walk to (to r c) w

-- the word has letters alone, and leads from the row into the cell
abbrev pub Leads : (letters : List ℕ) (to : ℕ → ℕ → ℕ) (in_cell : ℕ → Bool) (r : ℕ) (w : List ℕ) → Type 0
Leads letters to in_cell r w = AllIn letters w × (in_cell (walk to r w) ≡ true)

abbrev pub AllLead : (letters : List ℕ) (to : ℕ → ℕ → ℕ) (in_cell : ℕ → Bool) (r : ℕ) (ws : List (List ℕ)) → Type 0
AllLead letters to in_cell r [] = Unit {0}
AllLead letters to in_cell r (w ∷ ws) = Leads letters to in_cell r w × AllLead letters to in_cell r ws

-- some k different words lead into the cell
abbrev pub HasWords : (letters : List ℕ) (to : ℕ → ℕ → ℕ) (in_cell : ℕ → Bool) (r k : ℕ) → Type 0
HasWords letters to in_cell r k = (ws : List (List ℕ)) × (length ws ≡ k) × Distinct ws
    × AllLead letters to in_cell r ws

-- different words that lead into the cell are never more than k
abbrev pub AtMost : (letters : List ℕ) (to : ℕ → ℕ → ℕ) (in_cell : ℕ → Bool) (r k : ℕ) → Type 0
AtMost letters to in_cell r k = (ws : List (List ℕ)) → Distinct ws → AllLead letters to in_cell r ws → length ws ≤ k

-- the number of words that lead from the row into the cell, cut at the bound
abbrev pub IsCapacity : (letters : List ℕ) (to : ℕ → ℕ → ℕ) (in_cell : ℕ → Bool) (bound r k : ℕ) → Type 0
IsCapacity letters to in_cell bound r k = (k ≤ bound) × HasWords letters to in_cell r k
    × ((k ≡ bound) ⊎ AtMost letters to in_cell r k)

-- what the words of a row number at least, by the labels of its targets
abbrev pub asked : (letters : List ℕ) (to : ℕ → ℕ → ℕ) (in_cell : ℕ → Bool) (label : ℕ → ℕ) (r : ℕ) → ℕ
asked letters to in_cell label r = cond (in_cell r) 1 0 + sum_over (λ c. label (to r c)) letters

-- a label below the bound is at least what is required of it
abbrev pub IsStable : (rows : ℕ) (letters : List ℕ) (to : ℕ → ℕ → ℕ) (in_cell : ℕ → Bool) (bound : ℕ) (label : ℕ → ℕ)
    → Type 0
IsStable rows letters to in_cell bound label = (r : ℕ) → r < rows → label r < bound
    → asked letters to in_cell label r ≤ label r
