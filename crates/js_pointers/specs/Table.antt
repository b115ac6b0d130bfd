-- Pointers by number: the first is the root, and each other goes on from an earlier one by a word, by number too.
use Rattle.std.specs.Prelude.{◌≡◌, ℕ, suc, ◌+◌, ◌-◌, ◌≤◌, ◌<◌, List, [], ◌∷◌, ◌++◌, length, get_or, nat_lt, if◌then◌else◌, Option, Some, None}
use Rattle.schemas.specs.Places.{Pointer, index_token}

-- the number of the first name
abbrev pub first_name : ℕ
first_name = 2147483648

-- a token has the number: those below that of the first name are the tokens of elements
abbrev pub IsKnown : List (List ℕ) → ℕ → Type 0
IsKnown names k = k < length names + first_name

unfoldable pub word : List (List ℕ) → ℕ → List ℕ
word names k = if nat_lt k first_name then index_token k else get_or names (k - first_name) []

abbrev pub IsWord : List (List ℕ) → ℕ → List ℕ → Type 0
IsWord names k t = IsKnown names k × (word names k ≡ t)

-- no name is there twice, and none is a token that has a number without it
pub record AreNames (names : List (List ℕ)) : Type 0 where
  pub distinct : (i j : ℕ) → i < length names → j < length names → get_or names i [] ≡ get_or names j [] → i ≡ j
  pub no_index : (i n : ℕ) → i < length names → get_or names i [] ≡ index_token n → first_name ≤ n

-- words keep their numbers, and others may come after them
abbrev pub Keeps : List (List ℕ) → List (List ℕ) → Type 0
Keeps old new =
    (length old ≤ length new) × ((k : ℕ) → IsKnown old k → word new k ≡ word old k)

-- a step goes on from the pointer with its first number, by the word with its second
abbrev pub gone_on : List (List ℕ) → List Pointer → List (ℕ × ℕ) → List Pointer
gone_on names ps [] = ps
gone_on names ps (s ∷ ss) = gone_on names (ps ++ (get_or ps s.0 [] ++ word names s.1 ∷ []) ∷ []) ss

abbrev pub numbered : List (List ℕ) → List (ℕ × ℕ) → List Pointer
numbered names steps = gone_on names ([] ∷ []) steps

-- step i makes pointer i + 1 of an earlier one
pub record IsStep (names : List (List ℕ)) (ps : List Pointer) (s : ℕ × ℕ) (i : ℕ) : Type 0 where
  pub earlier : s.0 ≤ i
  pub known : IsKnown names s.1
  pub makes : get_or ps (suc i) [] ≡ get_or ps s.0 [] ++ word names s.1 ∷ []

-- no pointer is there twice
abbrev pub AreDistinct : List Pointer → Type 0
AreDistinct ps = (i j : ℕ) → i < length ps → j < length ps → get_or ps i [] ≡ get_or ps j [] → i ≡ j

-- a table of pointers, each of which is made by its step
pub record IsTable (names : List (List ℕ)) (steps : List (ℕ × ℕ)) (ps : List Pointer) : Type 0 where
  pub counted : length ps ≡ suc (length steps)
  pub root : get_or ps 0 [] ≡ []
  pub made : (i : ℕ) → i < length steps → IsStep names ps (get_or steps i (0, 0)) i
  pub distinct : AreDistinct ps

-- the number leads to the pointer: it is that of the pointer, or there is none, and no pointer goes on from this one
abbrev pub Leads : List Pointer → Option ℕ → Pointer → Type 0
Leads ps (Some n) p = (n < length ps) × (get_or ps n [] ≡ p)
Leads ps None p = (n : ℕ) (q : Pointer) → n < length ps → get_or ps n [] ≡ p ++ q → ⊥

-- pointers keep their numbers, and others may come after them
abbrev pub Grows : List Pointer → List Pointer → Type 0
Grows old new = (length old ≤ length new) × ((n : ℕ) → n < length old → get_or new n [] ≡ get_or old n [])
