-- The first words of a cell, by length and then by the order of characters.
use Rattle.std.specs.Prelude.{◌≡◌, ℕ, zero, suc, ◌-◌, ◌≤◌, ◌<◌, ◌⊎◌, nat_lt, List, [], ◌∷◌, ◌++◌, map, Bool, true, cond, length}
use Rattle.std.specs.List.{flat_map}
use Rattle.cell_laws.specs.Leading.{AllLead, Leads}
use Rattle.list_laws.proofs.Counts.{sum_over}
use Rattle.list_laws.specs.In.{IsIn}

-- of two words of one length, the first is before the second where they first differ
abbrev pub Lex : (rank : ℕ → ℕ) → List ℕ → List ℕ → Type 0
Lex rank [] w = ⊥
Lex rank (c ∷ v) [] = ⊥
Lex rank (c ∷ v) (d ∷ w) = (rank c < rank d) ⊎ ((c ≡ d) × Lex rank v w)

abbrev pub Before : (rank : ℕ → ℕ) → List ℕ → List ℕ → Type 0
Before rank v w = (length v < length w) ⊎ ((length v ≡ length w) × Lex rank v w)

abbrev pub IsOrdered : {A : Type 0} → (A → A → Type 0) → List A → Type 0
IsOrdered R [] = Unit {0}
IsOrdered R (x ∷ xs) = ((y : _) → IsIn y xs → R x y) × IsOrdered R xs

-- words of the cell, in order, and with each of them all that are before it
abbrev pub AreFirst : (rank : ℕ → ℕ) (letters : List ℕ) (to : ℕ → ℕ → ℕ) (in_cell : ℕ → Bool) (r : ℕ) → List (List ℕ)
    → Type 0
AreFirst rank letters to in_cell r ws = IsOrdered (Before rank) ws × AllLead letters to in_cell r ws
    × ((v w : List ℕ) → IsIn w ws → Leads letters to in_cell r v → Before rank v w → IsIn v ws)

-- the words of one length, in order
abbrev pub of_length : (letters : List ℕ) (to : ℕ → ℕ → ℕ) (in_cell : ℕ → Bool) (m r : ℕ) → List (List ℕ)
of_length letters to in_cell zero r = cond (in_cell r) ([] ∷ []) []
of_length letters to in_cell (suc m) r =
    flat_map (λ c. map (λ w. c ∷ w) (of_length letters to in_cell m (to r c))) letters

-- the words shorter than m, in order
abbrev pub shorter : (letters : List ℕ) (to : ℕ → ℕ → ℕ) (in_cell : ℕ → Bool) (m r : ℕ) → List (List ℕ)
shorter letters to in_cell zero r = []
shorter letters to in_cell (suc m) r = shorter letters to in_cell m r ++ of_length letters to in_cell m r

abbrev pub IsLeast : (letters : List ℕ) (to : ℕ → ℕ → ℕ) (in_cell : ℕ → Bool) (r d : ℕ) → Type 0
IsLeast letters to in_cell r d = ((w : List ℕ) × (length w ≡ d) × Leads letters to in_cell r w)
    × ((w : List ℕ) → Leads letters to in_cell r w → d ≤ length w)

-- labels that no relaxation lowers
abbrev pub IsRelaxed : (rows : ℕ) (letters : List ℕ) (to : ℕ → ℕ → ℕ) (in_cell : ℕ → Bool) (far : ℕ → ℕ) → Type 0
IsRelaxed rows letters to in_cell far = (r : ℕ) → r < rows
    → (in_cell r ≡ true → far r ≡ 0) × ((c : ℕ) → IsIn c letters → far r ≤ suc (far (to r c)))

-- each letter of the word is the first whose target is nearer
abbrev pub IsGreedy : (rank : ℕ → ℕ) (letters : List ℕ) (to : ℕ → ℕ → ℕ) (in_cell : ℕ → Bool) (far : ℕ → ℕ) (r : ℕ)
    → List ℕ → Type 0
IsGreedy rank letters to in_cell far r [] = in_cell r ≡ true
IsGreedy rank letters to in_cell far r (c ∷ w) =
    IsIn c letters × (far r ≡ suc (far (to r c)))
    × ((b : ℕ) → IsIn b letters → rank b < rank c → far r ≤ far (to r b))
    × IsGreedy rank letters to in_cell far (to r c) w

-- the k-th word of one length, letter by letter: past a letter go the words that begin with it
abbrev pub pick : (count : ℕ → ℕ) (next : ℕ → ℕ → List ℕ) → List ℕ → ℕ → List ℕ
pick count next [] k = []
pick count next (c ∷ cs) k = cond (nat_lt k (count c)) (c ∷ next c k) (pick count next cs (k - count c))

abbrev pub word_at : (letters : List ℕ) (to : ℕ → ℕ → ℕ) (count : ℕ → ℕ → ℕ) (m r k : ℕ) → List ℕ
word_at letters to count zero r k = []
word_at letters to count (suc m) r k =
    pick (λ c. count m (to r c)) (λ c k. word_at letters to count m (to r c) k) letters k

-- how many words of one length there are
abbrev pub count_of : (letters : List ℕ) (to : ℕ → ℕ → ℕ) (in_cell : ℕ → Bool) (m r : ℕ) → ℕ
count_of letters to in_cell zero r = cond (in_cell r) 1 0
count_of letters to in_cell (suc m) r = sum_over (λ c. count_of letters to in_cell m (to r c)) letters
