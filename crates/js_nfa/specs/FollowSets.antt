-- Follow sets, one a position, by which a state goes on without a walk over the tree.
use Rattle.std.specs.Prelude.{◌≡◌, ℕ, zero, suc, ◌+◌, ◌*◌, ◌/◌, ◌%◌, ◌<◌, ◌≤◌, ◌==◌, Bool, false, ◌||◌, if◌then◌else◌, List, [], ◌∷◌, length, get_or}
use Rattle.std.specs.Int.{bit_at}
use Rattle.patterns.specs.Tree.{Tree}
use Rattle.word_states.specs.Position.{sets_of}
use Rattle.state_laws.specs.Flow.{flag_at}
use Rattle.state_laws.specs.FollowSets.{or_each, sets_have}
use Rattle.js_pattern_positions.specs.Marks.{Marks}

-- the flags of set n
abbrev pub set_at : List Marks → ℕ → List Bool
set_at sets n = Marks.flags (get_or sets n (record { flags = []; room = 0 }))

-- each set has so many flags
abbrev pub HaveLength : ℕ → List Marks → Type 0
HaveLength count sets = (n : ℕ) → n < length sets → length (set_at sets n) ≡ count

-- no set has more flags
abbrev pub HaveAtMost : ℕ → List Marks → Type 0
HaveAtMost count sets = (n : ℕ) → n < length sets → length (set_at sets n) ≤ count

-- the follow sets of those positions from `first` on that the bits below n choose
abbrev pub chosen_sets : (sets : List Marks) (first bits : ℕ) → ℕ → List Bool
chosen_sets sets first bits zero = []
chosen_sets sets first bits (suc n) =
    or_each (chosen_sets sets first bits n) (if bit_at bits n == 1 then set_at sets (first + n) else [])

-- for each four follow sets, the union of each choice among them
abbrev pub AreFours : (sets fours : List Marks) → Type 0
AreFours sets fours =
    (length sets ≤ 4 * (length fours / 16))
    × ((n : ℕ) → n < length fours → set_at fours n ≡ chosen_sets sets (4 * (n / 16)) (n % 16) 4)

-- four tests as the bits of a number, the lowest bit first
abbrev pub four_bits : (a b c d : Bool) → ℕ
four_bits a b c d =
    (if a then 1 else 0) + (if b then 2 else 0) + (if c then 4 else 0) + (if d then 8 else 0)

-- the choice of those that are in the set
abbrev pub choice_at : (read : ℕ → Bool) (first : ℕ) → ℕ
choice_at read first = four_bits (read first) (read (first + 1)) (read (first + 2)) (read (first + 3))

-- what is always there, and the follow sets of the positions in the set, four at a time
abbrev pub by_fours : (always : List Bool) (fours : List Marks) (read : ℕ → Bool) → ℕ → List Bool
by_fours always fours read zero = always
by_fours always fours read (suc n) =
    or_each (by_fours always fours read n) (set_at fours (16 * n + choice_at read (4 * n)))

-- whether one of the characters is in the set of position q
abbrev pub is_shown : Tree → List ℕ → ℕ → Bool
is_shown t [] q = false
is_shown t (c ∷ cs) q = flag_at (sets_have (sets_of t) c) q || is_shown t cs q

-- whether one of the numbered sets has position q
abbrev pub is_in_some : List Marks → List ℕ → ℕ → Bool
is_in_some sets [] q = false
is_in_some sets (c ∷ cs) q = flag_at (set_at sets c) q || is_in_some sets cs q
