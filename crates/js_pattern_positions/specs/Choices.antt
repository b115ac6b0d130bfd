-- A choice of sets, each of which is one position, and a set that may be left out.
use Rattle.std.specs.Prelude.{◌≡◌, Some, ◌||◌, ◌<◌, ◌≤◌, ℕ, ◌^◌, Bool, false, if◌then◌else◌, List, [], ◌∷◌, replicate}
use Rattle.patterns.specs.CharSet.{has}
use Rattle.patterns.specs.Tree.{Tree, Trees, one_of, repeated}
use Rattle.word_states.specs.Position.{count_in}
use Rattle.state_laws.specs.Flow.{ends_here_of_one, reads_next_of_one}
use Rattle.js_pattern_positions.specs.Bits.{flags_of}
use Rattle.js_pattern_positions.specs.Walk.{next_after, some_in}

-- the tree is a set, which has the character or hasn't
abbrev pub IsSetThat : Bool → Tree → ℕ → Type 0
IsSetThat within t c = (ranges : List (ℕ × ℕ)) × (t ≡ one_of ranges) × (within ≡ has ranges c)

-- the flags of a copy, where a match of it can begin and where it can't
abbrev pub chosen : (bits count : ℕ) → Bool → List Bool
chosen bits count begins = if begins then flags_of (bits ∷ []) count else replicate count false

-- the trees are so many sets, and the bits say which of them have the character
pub record IsChoice (ts : Trees) (c size bits : ℕ) : Type 0 where
  pub some : 0 < size
  pub few : size ≤ 64
  pub small : bits < 2 ^ size
  pub counted : count_in ts ≡ size
  pub reads : (first : Bool) (read : ℕ → Bool) (base : ℕ) (b : Bool)
      → chosen bits size b ≡ reads_next_of_one ts first read c base b
  pub ends : (first last : Bool) (read : ℕ → Bool) (base : ℕ) (b : Bool)
      → some_in read size base ≡ ends_here_of_one ts first last read base b

-- the flags of n copies
abbrev pub choices_begun : (again : Bool) (bits size : ℕ) (read : ℕ → Bool) (n base : ℕ) (here : Bool) → List Bool
choices_begun again bits size read n base here =
    next_after again (λ at some. chosen bits size some) (λ at some. some_in read size at) size n base here

-- the tree is a set that may be left out, and the set has the character or hasn't
abbrev pub IsOptionThat : Bool → Tree → ℕ → Type 0
IsOptionThat within t c = (ranges : List (ℕ × ℕ)) × (t ≡ repeated (one_of ranges) 0 (Some 1)) × (within ≡ has ranges c)

-- for each of n copies of such a set, whether it begins: where the one before begins or was read
abbrev pub options_begun : (read : ℕ → Bool) (n base : ℕ) (here : Bool) → List Bool
options_begun read n base here = next_after false (λ at some. some ∷ []) (λ at some. some || read at) 1 n base here
