-- Flags position by position: what two lists have together, and what comes next whatever the sets are.
use Rattle.std.specs.Prelude.{ℕ, zero, suc, ◌+◌, ◌-◌, Bool, false, ◌&&◌, ◌||◌, nat_eq, if◌then◌else◌, List, [], ◌∷◌, ◌++◌, Some, None}
use Rattle.patterns.specs.CharSet.{has}
use Rattle.patterns.specs.Tree.{Tree, Trees, empty, one_of, at_start, at_end, in_turn, either, repeated, no_trees, tree}
use Rattle.word_states.specs.Position.{count_of}
use Rattle.state_laws.specs.Flow.{ends_here, next_copies, next_copies_on}

-- the flags that one of two lists has
abbrev pub or_each : List Bool → List Bool → List Bool
or_each [] bs = bs
or_each (a ∷ rest) [] = a ∷ rest
or_each (a ∷ rest) (b ∷ bs) = (a || b) ∷ or_each rest bs

-- the flags that both lists have
abbrev pub and_each : List Bool → List Bool → List Bool
and_each [] bs = []
and_each (a ∷ rest) [] = []
and_each (a ∷ rest) (b ∷ bs) = (a && b) ∷ and_each rest bs

-- so many flags that are false
abbrev pub no_flags : ℕ → List Bool
no_flags zero = []
no_flags (suc n) = false ∷ no_flags n

-- for each of the sets: whether it has the character
abbrev pub sets_have : List (List (ℕ × ℕ)) → ℕ → List Bool
sets_have [] c = []
sets_have (s ∷ ss) c = has s c ∷ sets_have ss c

-- no position was read
abbrev pub none_read : ℕ → Bool
none_read p = false

-- position q alone was read
abbrev pub only : ℕ → ℕ → Bool
only q p = nat_eq p q

-- for each position of the tree, in order: whether it may be the next that is read, whatever characters its set has
abbrev mutual
  pub may_follow : Tree → (first : Bool) → (read : ℕ → Bool) → (base : ℕ) → (begins : Bool) → List Bool
  may_follow empty first read base begins = []
  may_follow (one_of ranges) first read base begins = begins ∷ []
  may_follow at_start first read base begins = []
  may_follow at_end first read base begins = []
  may_follow (in_turn ts) first read base begins = may_follow_in_turn ts first read base begins
  may_follow (either ts) first read base begins = may_follow_of_one ts first read base begins
  may_follow (repeated t low None) first read base begins =
      next_copies_on (λ at some. may_follow t first read at some) (λ at some. ends_here t first false read at some)
      (count_of t) (low - 1) base begins
  may_follow (repeated t low (Some high)) first read base begins =
      next_copies (λ at some. may_follow t first read at some) (λ at some. ends_here t first false read at some)
      (count_of t) high base begins

  pub may_follow_in_turn : Trees → (first : Bool) → (read : ℕ → Bool) → (base : ℕ) → (begins : Bool) → List Bool
  may_follow_in_turn no_trees first read base begins = []
  may_follow_in_turn (tree t ts) first read base begins =
      may_follow t first read base begins
      ++ may_follow_in_turn ts first read (base + count_of t) (ends_here t first false read base begins)

  pub may_follow_of_one : Trees → (first : Bool) → (read : ℕ → Bool) → (base : ℕ) → (begins : Bool) → List Bool
  may_follow_of_one no_trees first read base begins = []
  may_follow_of_one (tree t ts) first read base begins =
      may_follow t first read base begins ++ may_follow_of_one ts first read (base + count_of t) begins

-- what may follow one of the positions below n that were read, or may begin: for each of them the flags of what follows
-- it alone
abbrev pub follow_each : Tree → (first : Bool) → (read : ℕ → Bool) → (begins : Bool) → (n : ℕ) → List Bool
follow_each t first read begins zero = may_follow t first none_read 0 begins
follow_each t first read begins (suc n) =
    or_each (follow_each t first read begins n)
    (if read n then may_follow t first (only n) 0 false else [])

-- whether a match can end with one of the positions below n that were read, or with nothing read
abbrev pub ends_each : Tree → (first last : Bool) → (read : ℕ → Bool) → (begins : Bool) → (n : ℕ) → Bool
ends_each t first last read begins zero = ends_here t first last none_read 0 begins
ends_each t first last read begins (suc n) =
    ends_each t first last read begins n || (read n && ends_here t first last (only n) 0 false)
